-- The machine with another view in the place of its own: what it would answer if its steps saw other bytes of memory.
-- Assumes nothing.
use Rattle.std.specs.Prelude.{ℕ, zero, suc, true, false, cond}
use Rattle.machine.specs.declared.Control.{Control}
use Rattle.machine.specs.declared.Cpu.{Cpu}
use Rattle.machine.specs.declared.Reply.TheVariants.{BadRecord, Spent}
use Rattle.machine.specs.Record.{Mem, sound, iopl, core_of}
use Rattle.machine.specs.Replies.{is_done}
use Rattle.machine.specs.Paging.{View, view}
use Rattle.machine.specs.Run.{Outcome, End, still, checked, onward}
use Rattle.phases.specs.Step.{micro32}

-- with the kernel's eyes
abbrev pub as_kernel : Control → Control
as_kernel c = record { cr0 = c.cr0; cr2 = c.cr2; cr3 = c.cr3; ring = 0 }

-- a step and a run as crates/machine/specs/Run.antt has them, with the view that is given
module _ (look : Mem → Control → View) where
  unfoldable pub step_by : Mem → Cpu → Outcome
  step_by m r = checked (sound m r) m r (micro32 (core_of r) (iopl r.eflags) r.control.ring (look m r.control))

  unfoldable pub steps_by : ℕ → Mem → Cpu → End
  steps_by zero m r = record { count = 0; last = still Spent m r }
  steps_by (suc n) m r = onward (is_done (step_by m r).reply) (step_by m r) (λ m' r'. steps_by n m' r')

  unfoldable pub run_by : ℕ → Mem → Cpu → End
  run_by n m r = elim (sound m r) [ true ↦ steps_by n m r | false ↦ record { count = 0; last = still BadRecord m r } ]

-- a wrong view: whoever reads may read what ring 0 may. Writes are asked for as before
unfoldable pub open_view : Mem → Control → View
open_view m c w l = cond w (view m c w l) (view m (as_kernel c) w l)
