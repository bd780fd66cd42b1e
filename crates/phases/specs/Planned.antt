-- What the code's plan of a step means: the instruction was looked at, and nothing is changed yet.
-- Assumes nothing.
use Rattle.std.specs.Prelude.{◌<◌, ◌≡◌, false, Result, Ok, Err, IfOk}
use Rattle.machine.specs.Record.{Mem, iopl, core_of, with_core}
use Rattle.machine.specs.declared.Cpu.{Cpu}
use Rattle.machine.specs.declared.Reply.{Reply}
use Rattle.machine.specs.declared.Reply.TheVariants.{Done}
use Rattle.machine.specs.Paging.{view}
use Rattle.machine.specs.Commit.{patches, touched}
use Rattle.machine.specs.Run.{Outcome, settle, still}
use Rattle.access.specs.declared.Access.{Access}
use Rattle.access.specs.Located.{span, trail_marks, puts}
use Rattle.phases.specs.declared.Planned.{Planned}
use Rattle.phases.specs.Step.{micro32}

abbrev pub access_marks : Access → Mem → Mem
access_marks a x = patches (trail_marks a.write a.trail) x

-- memory after the instruction's own pages are marked: the accesses' marks, then their stores
unfoldable pub left : Planned → Mem → Mem
left p x = patches (puts p.second p.value) (patches (puts p.first p.value) (access_marks p.second (access_marks p.first x)))

unfoldable pub outcome_of : Mem → Cpu → Result Planned Reply → Outcome
outcome_of m r (Ok p) = record { reply = Done; cpu = with_core r p.core; mem = left p (patches (touched m r.control (span false r.eip p.length)) m) }
outcome_of m r (Err q) = still q m r

pub record PlanOk (m : Mem) (r : Cpu) (p : Result Planned Reply) : Type 0 where
  pub does : outcome_of m r p ≡ settle m r (micro32 (core_of r) (iopl r.eflags) r.control.ring (view m r.control))
  pub long : IfOk p (λ x. 0 < x.length)
  pub short : IfOk p (λ x. x.length < 16)
