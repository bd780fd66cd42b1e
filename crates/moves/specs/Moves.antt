-- MOVZX, MOVSX, LEA, XCHG, SETcc, CWDE and CDQ.
-- Assumes nothing.
use Rattle.std.specs.Prelude.{ℕ, ◌+◌, ◌%◌, cond, ltb, eqb}
use Rattle.machine.specs.declared.Core.{Core}
use Rattle.machine.specs.Record.{digit, register, with_register, read_at, write_at}
use Rattle.encoding.specs.declared.Instruction.{Instruction}
use Rattle.operands.specs.declared.Effect.{Effect}
use Rattle.alu.specs.Arithmetic.{signed_byte}
use Rattle.conditions.specs.Conditions.{holds}
use Rattle.operands.specs.Operands.{address, operand_value, deposit, onward, went, next}

-- MOVZX 0, MOVSX 1
abbrev pub extended : ℕ → ℕ → ℕ
extended op x = cond (eqb op 1) (signed_byte x) x

unfoldable pub do_extend : Instruction → Core → ℕ → Effect
do_extend i k a = onward i k (with_register k.regs i.register (extended i.operation (operand_value i k.regs a % 256)))

unfoldable pub do_address : Instruction → Core → Effect
do_address i k = onward i k (with_register k.regs i.register (address k.regs i.operand))

unfoldable pub do_swap : Instruction → Core → ℕ → Effect
do_swap i k a =
    went
    (write_at i.wide (deposit i k.regs (read_at i.wide k.regs i.register)) i.register (operand_value i k.regs a))
    (next i k) k.flags (read_at i.wide k.regs i.register)

unfoldable pub do_set : Instruction → Core → Effect
do_set i k =
    went (deposit i k.regs (digit (holds i.operation k.flags.status))) (next i k) k.flags (digit (holds i.operation k.flags.status))

-- AX to EAX
abbrev pub signed_word : ℕ → ℕ
signed_word x = cond (ltb x 32768) x (x + 4294901760)

-- the sign of EAX, in every bit
abbrev pub signs : ℕ → ℕ
signs x = cond (ltb x 2147483648) 0 4294967295

-- CWDE 8, CDQ 9
unfoldable pub do_convert : Instruction → Core → Effect
do_convert i k =
    cond (eqb i.operation 8) (onward i k (with_register k.regs 0 (signed_word (register k.regs 0 % 65536))))
    (onward i k (with_register k.regs 2 (signs (register k.regs 0))))
