-- The three demands, about the real step, run and audit. `micro32` is the machine of crates/phases/specs/Step.antt.
-- Assumes nothing.
use Rattle.std.specs.Prelude.{ℕ, ◌*◌, ◌≤◌, ◌≡◌, true, false, ◌↔◌, ◌⊎◌, length}
use Rattle.machine.specs.declared.Cpu.{Cpu}
use Rattle.machine.specs.declared.Reply.{Reply}
use Rattle.machine.specs.declared.Reply.TheVariants.{Done, Fault, Trap, Halt, BadRecord, NoMemory, NotBuilt, Spent, Safe, TableOutside, Exposed}
use Rattle.machine.specs.Record.{Mem, sound, paging}
use Rattle.machine.specs.Replies.{is_done, numbered}
use Rattle.machine.specs.Paging.{dir_frame}
use Rattle.machine.specs.Audit.{audit, outside, exposed}
use Rattle.machine.specs.Run.{End, step, run}
use Rattle.isolation.specs.Kept.{Kept, Alone, lone}
use Rattle.isolation.specs.Guarded.{Guarded}
use Rattle.isolation.specs.Answers.{Lowest, SafeTables}
use Rattle.isolation.proofs.Kept.{step_still, run_kept, run_alone, kept_alone, run_ends, run_lone}
use Rattle.isolation.proofs.Ring3.{run_guarded}
use Rattle.isolation.proofs.Audited.{audit_safe, audit_outside, audit_exposed, audit_bad}
use Rattle.phases.specs.Step.{micro32}
use Rattle.isolation.proofs.Numbered.{number_at_most}

-- ---- demand 1: every answer is a numbered one, and only Done changes anything

pub answer_numbered : (q : Reply) → (numbered q).number ≤ 10
answer_numbered q = number_at_most q

pub step_keeps : (m : Mem) (r : Cpu) → is_done (step micro32 m r).reply ≡ false → ((step micro32 m r).mem ≡ m) × ((step micro32 m r).cpu ≡ r)
step_keeps m r = step_still micro32 m r

-- a run keeps its Done steps and nothing else
pub run_keeps : (budget : ℕ) (m : Mem) (r : Cpu) → Kept micro32 budget m r (run micro32 budget m r)
run_keeps budget m r = run_kept micro32 budget m r

-- it ends no sooner and with no other reply than it must
pub run_stands_alone : (budget : ℕ) (m : Mem) (r : Cpu) → Alone micro32 budget m r (run micro32 budget m r)
run_stands_alone budget m r = run_alone micro32 budget m r

-- and no other end has this, an idle run's neither
pub only_run_keeps : (budget : ℕ) (m : Mem) (r : Cpu) (e : End) → Alone micro32 budget m r e → e ≡ run micro32 budget m r
only_run_keeps budget m r e k = kept_alone micro32 budget m r e k

-- Done is what a run counts, and never its answer
pub done_counted : (budget : ℕ) (m : Mem) (r : Cpu) → is_done (run micro32 budget m r).last.reply ≡ false
done_counted budget m r = run_ends micro32 budget m r

-- a run of budget 1 is one step: Spent with count 1 where it is Done, else the step's own answer
pub one_step : (m : Mem) (r : Cpu) → run micro32 1 m r ≡ lone (step micro32 m r)
one_step m r = run_lone micro32 m r

-- ---- demand 2 is the contracts of step, run and audit (OneReading shows that they leave one answer); what the audit's words mean:

pub safe_means : (m : Mem) (r : Cpu) → audit m r ≡ Safe ↔ ((sound m r ≡ true) × SafeTables m r.control)
safe_means m r = audit_safe m r

pub bad_means : (m : Mem) (r : Cpu) → audit m r ≡ BadRecord ↔ (sound m r ≡ false)
bad_means m r = audit_bad m r

-- the directory, or the lowest entry
pub outside_means : (m : Mem) (r : Cpu) (i : ℕ) → audit m r ≡ TableOutside i
    → ((i ≡ 1024) × (length m ≤ dir_frame r.control * 4096)) ⊎ Lowest (outside m r.control) 1024 i
outside_means m r i = audit_outside m r i

-- the lowest page
pub exposed_means : (m : Mem) (r : Cpu) (a : ℕ) → audit m r ≡ Exposed a → (p : ℕ) × (a ≡ p * 4096) × Lowest (exposed m r.control) 1048576 p
exposed_means m r a = audit_exposed m r a

-- ---- demand 3: ring 3, paging on, audit Safe: after a run of any budget

pub run_guards : (budget : ℕ) (m : Mem) (r : Cpu) → r.control.ring ≡ 3 → paging r.control ≡ true → audit m r ≡ Safe
    → Guarded m r (run micro32 budget m r).last
run_guards budget m r = run_guarded micro32 budget m r
