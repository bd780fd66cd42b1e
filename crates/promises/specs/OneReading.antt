-- One reading: two answers that a contract allows are equal, in reply, record, count and every byte.
-- Assumes nothing.
use Rattle.std.specs.Prelude.{ℕ, ◌≡◌}
use Rattle.std.proofs.Common.{sym, ap, ◌∙◌}
use Rattle.machine.specs.declared.Cpu.{Cpu}
use Rattle.machine.specs.declared.Reply.{Reply}
use Rattle.machine.specs.Record.{Mem}
use Rattle.machine.specs.Replies.{numbered}
use Rattle.machine.specs.Audit.{audit}
use Rattle.machine.specs.Run.{step, run}
use Rattle.machine.proofs.Numbers.{numbered_same}
use Rattle.phases.specs.Step.{micro32}
use Rattle.micro32.specs.declared.Answer.{Answer}
use Rattle.micro32.specs.Boundary.{Answered, answer_of, ran_answered}
use Rattle.micro32.specs.Told.{Told, telling, told, RunTold, run_telling, run_told}

-- equal numbers and values are equal replies
pub replies_apart : (p q : Reply) → numbered p ≡ numbered q → p ≡ q
replies_apart p q = numbered_same p q

module _ (p q : Reply) (c d : Cpu) (m n : Mem) where
  -- what a contract's answer has: reply, record, memory
  same_told : telling p c m ≡ telling q d n → (p ≡ q) × (c ≡ d) × (m ≡ n)
  same_told e = (numbered_same p q (ap (λ (t : Told). t.reply) e), ap (λ (t : Told). t.cpu) e, ap (λ (t : Told). t.mem) e)

  pub step_once : (x : Mem) (r : Cpu) → telling p c m ≡ told (step micro32 x r) → telling q d n ≡ told (step micro32 x r) → (p ≡ q) × (c ≡ d) × (m ≡ n)
  step_once x r e f = same_told (e ∙ sym f)

  pub run_once : (budget : ℕ) (x : Mem) (r : Cpu) (i j : ℕ) → run_telling i p c m ≡ run_told (run micro32 budget x r) → run_telling j q d n ≡ run_told (run micro32 budget x r)
      → (i ≡ j) × ((p ≡ q) × (c ≡ d) × (m ≡ n))
  run_once budget x r i j e f = (ap (λ (t : RunTold). t.count) (e ∙ sym f), same_told (ap (λ (t : RunTold). t.last) (e ∙ sym f)))

pub audit_once : (p q : Reply) (x : Mem) (r : Cpu) → numbered p ≡ numbered (audit x r) → numbered q ≡ numbered (audit x r) → p ≡ q
audit_once p q x r e f = numbered_same p q (e ∙ sym f)

-- ---- for hosts: the lent record, and the audit by its numbers

pub lent_once : (p q : Answered) (budget : ℕ) (x : Mem) (r : Cpu) → p ≡ ran_answered (run micro32 budget x r) → q ≡ ran_answered (run micro32 budget x r) → p ≡ q
lent_once p q budget x r e f = e ∙ sym f

pub audited_once : (p q : Answer) (x : Mem) (r : Cpu) → p ≡ answer_of (audit x r) 0 → q ≡ answer_of (audit x r) 0 → p ≡ q
audited_once p q x r e f = e ∙ sym f
