-- The common encodings in a short form: each that is taken is the instruction that the definition decodes.
-- Assumes nothing.
use Rattle.std.specs.Prelude.{◌≡◌, ℕ, ◌<◌, ◌≤◌, Bool, true, List}
use Rattle.alu.specs.declared.Status.{Status}
use Rattle.machine.specs.declared.Core.{Core}
use Rattle.machine.specs.declared.Reply.TheVariants.{Done}
use Rattle.machine.specs.Record.{Mem}
use Rattle.machine.specs.Paging.{View}
use Rattle.machine.specs.Act.{ok}
use Rattle.encoding.specs.declared.Instruction.{Instruction}
use Rattle.fetch.specs.Read.{log_at}
use Rattle.decode.specs.Decode.{decode}
use Rattle.execute.specs.Execute.{permitted, first, second, compute}
use Rattle.outcome.specs.declared.Fast.{Fast}
use Rattle.outcome.specs.Outcome.{want_first, want_second, stores, result_of, core_after, doubled_after}
use Rattle.shortcut.specs.Bytes.{Shows}

-- ---- it is the instruction that the definition decodes, with the same accesses, and with `after` of the value found as its effect

pub record FitsTo (v : View) (k : Core) (p : Fast) (after : ℕ → Core) : Type 0 where
  pub instr : Instruction
  pub decodes : decode k.eip v (log_at k.eip 0) ≡ ok instr (log_at k.eip instr.length)
  pub free : (iopl ring : ℕ) → permitted instr iopl ring ≡ true
  pub firstly : first instr k.regs ≡ want_first p
  pub secondly : second instr k.regs ≡ want_second p
  pub done : (a : ℕ) → (compute instr k a).reply ≡ Done
  pub core : (a : ℕ) → a < 4294967296 → (compute instr k a).core ≡ after a
  pub value : (a : ℕ) → a < 4294967296 → stores p ≡ true → (compute instr k a).value ≡ (result_of p a k.flags.status).value

abbrev pub Fits : View → Core → Fast → Type 0
Fits v k p = FitsTo v k p (λ a. core_after p k a)

-- a core from the parts that the quick way keeps apart
abbrev pub core_from : List ℕ → ℕ → Status → Bool → Bool → Core
core_from e eip s interrupt direction =
    record { regs = record { e = e }; eip = eip; flags = record { status = s; interrupt = interrupt; direction = direction } }

-- a jump and nothing else: no access, and MOV to no register
abbrev pub Idle : Fast → Type 0
Idle p = (p.access ≡ 0) × ((p.op ≡ 9) × (p.to ≡ 8))

-- the stack is used by moves of a dword alone, and what goes to memory goes to no register
pub record Tidy (p : Fast) : Type 0 where
  pub stacking : 4 ≤ p.access → (p.op ≡ 9) × (p.wide ≡ true)
  pub landing : p.access ≡ 3 → p.to ≡ 8

pub record FastOk (m : Mem) (e : List ℕ) (s : Status) (eip i : ℕ) (p : Fast) : Type 0 where
  pub fits : p.taken ≡ true → (interrupt direction : Bool) (v : View) → Shows v m eip i → Fits v (core_from e eip s interrupt direction) p
  pub tidy : p.taken ≡ true → Tidy p
  pub idle : p.jumps ≡ true → Idle p
  pub doubles : p.doubling ≡ true → (p.access ≡ 0) × ((interrupt direction : Bool) (v : View) → Shows v m eip i
      → FitsTo v (core_from e eip s interrupt direction) p (λ a. doubled_after p (core_from e eip s interrupt direction)))
