-- Operands and effects: where an operand lies, what it is worth, what becomes of the record.
-- Assumes nothing.
use Rattle.std.specs.Prelude.{ℕ, ◌+◌, ◌*◌, Bool, true, false, cond, ◌==◌}
use Rattle.machine.specs.declared.Registers.{Registers}
use Rattle.machine.specs.declared.Flags.{Flags}
use Rattle.machine.specs.declared.Core.{Core}
use Rattle.machine.specs.declared.Reply.{Reply}
use Rattle.machine.specs.declared.Reply.TheVariants.{Done}
use Rattle.machine.specs.declared.Want.{Want}
use Rattle.machine.specs.declared.Want.TheVariants.{Nothing, Read, Write}
use Rattle.machine.specs.Record.{wrap, register, with_register, read_at, write_at}
use Rattle.alu.specs.declared.Status.{Status}
use Rattle.encoding.specs.declared.Operand.{Operand}
use Rattle.encoding.specs.declared.Instruction.{Instruction}
use Rattle.operands.specs.declared.Effect.{Effect}

-- ---- the operand: a register, or memory at base plus index times scale plus displacement, modulo 2^32

abbrev pub scaled : ℕ → ℕ → ℕ
scaled i s = cond (s == 1) i (cond (s == 2) (2 * i) (cond (s == 4) (4 * i) (8 * i)))

unfoldable pub address : Registers → Operand → ℕ
address r o = wrap (register r o.base + scaled (register r o.index) o.scale + o.displacement)

-- its access, for writing (true) or reading: none where it is a register
abbrev pub memory_want : Bool → Bool → ℕ → Want
memory_want true wide l = Write wide l
memory_want false wide l = Read wide l

unfoldable pub operand_want : Bool → Instruction → Registers → Want
operand_want w i r = cond i.operand.direct Nothing (memory_want w i.wide (address r i.operand))

-- its value, where a is what the access found
unfoldable pub operand_value : Instruction → Registers → ℕ → ℕ
operand_value i r a = cond i.operand.direct (read_at i.wide r i.operand.register) a

-- the registers once x is put into it: memory is stored to apart
unfoldable pub deposit : Instruction → Registers → ℕ → Registers
deposit i r x = cond i.operand.direct (write_at i.wide r i.operand.register x) r

-- ---- the stack

abbrev pub esp : ℕ
esp = 4

abbrev pub lowered : Registers → ℕ
lowered r = wrap (register r esp + 4294967292)

abbrev pub raised : Registers → Registers
raised r = with_register r esp (wrap (register r esp + 4))

-- ---- effects

-- EIP past the instruction
abbrev pub next : Instruction → Core → ℕ
next i k = wrap (k.eip + i.length)

-- it is carried out: the core after, and the value to store where it writes
abbrev pub went : Registers → ℕ → Flags → ℕ → Effect
went r eip f x = record { reply = Done; core = record { regs = r; eip = eip; flags = f }; value = x }

-- it is refused
abbrev pub refused : Core → Reply → Effect
refused k q = record { reply = q; core = k; value = 0 }

abbrev pub with_status : Flags → Status → Flags
with_status f s = record { status = s; interrupt = f.interrupt; direction = f.direction }

-- the next instruction follows: by registers alone, or with flags and a value too
abbrev pub onward : Instruction → Core → Registers → Effect
onward i k r = went r (next i k) k.flags 0

abbrev pub advanced : Instruction → Core → Registers → Status → ℕ → Effect
advanced i k r s x = went r (next i k) (with_status k.flags s) x

-- a jump by x places
abbrev pub target : Instruction → Core → ℕ → ℕ
target i k x = wrap (next i k + x)
