-- The machine: one instruction in document 01's phases, and the step, the run and the audit made of it.
-- Assumes nothing.
use Rattle.std.specs.Prelude.{ℕ, cond}
use Rattle.machine.specs.declared.Core.{Core}
use Rattle.machine.specs.declared.Reply.TheVariants.{Fault}
use Rattle.machine.specs.declared.Want.{Want}
use Rattle.machine.specs.Replies.{is_done}
use Rattle.machine.specs.Act.{Act, ◌>>=◌, ◌>>◌, return, stop, unit, access, store, plan_of}
use Rattle.machine.specs.Run.{Planner}
use Rattle.encoding.specs.declared.Instruction.{Instruction}
use Rattle.decode.specs.Decode.{decode}
use Rattle.operands.specs.declared.Effect.{Effect}
use Rattle.execute.specs.Execute.{permitted, first, second, compute}

-- 3: some instructions are for the kernel alone
unfoldable pub allowed : Instruction → ℕ → ℕ → Act unit
allowed i iopl ring = cond (permitted i iopl ring) (return tt) (stop (Fault 13 0 0))

-- 6: the value goes where an access was for writing
unfoldable pub leave : Want → Want → Effect → Act Core
leave t u e =
    cond (is_done e.reply) (do
      store t e.value
      store u e.value
      return e.core)
    (stop e.reply)

unfoldable pub instruction : Core → ℕ → ℕ → Act Core
instruction k iopl ring = do
  i ← decode k.eip
  allowed i iopl ring
  a ← access (first i k.regs)
  access (second i k.regs)
  leave (first i k.regs) (second i k.regs) (compute i k a)

unfoldable pub micro32 : Planner
micro32 k iopl ring v = plan_of (instruction k iopl ring) v
