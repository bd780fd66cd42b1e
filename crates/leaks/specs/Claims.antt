-- What is claimed of the guest, of its memories and of the machine with another view.
-- Assumes nothing.
use Rattle.std.specs.Prelude.{ℕ, ◌≡◌}
use Rattle.machine.specs.declared.Cpu.{Cpu}
use Rattle.machine.specs.Record.{Mem, at, register}
use Rattle.machine.specs.Replies.{numbered}
use Rattle.machine.specs.Paging.{view}
use Rattle.machine.specs.Run.{End, run}
use Rattle.isolation.specs.Twins.{Twins, Hides}
use Rattle.phases.specs.Step.{micro32}
use Rattle.leaks.specs.Guest.{memory, user}
use Rattle.leaks.specs.OtherView.{run_by, open_view}

-- whatever the records begin with, the memories are twins to the guest: request k speaks of them
abbrev pub Secrets : Type 0
Secrets = (j k : ℕ) → Twins user (memory j) (memory k)

-- given its own view, the machine is the machine
abbrev pub OwnView : Type 0
OwnView = (budget : ℕ) (m : Mem) (r : Cpu) → run_by view budget m r ≡ run micro32 budget m r

-- so it hides the records
abbrev pub Hidden : Type 0
Hidden = Hides (run_by view)

-- with the open view it does not
abbrev pub Leaks : Type 0
Leaks = Hides (run_by open_view) → ⊥

-- ---- two steps from the guest's start, worked out

abbrev pub steps : ℕ → End
steps secret = run_by view 2 (memory secret) user

abbrev pub leaking : ℕ → End
leaking secret = run_by open_view 2 (memory secret) user

-- the guest has read and written a byte of its own: one step is Done, and it counts 1. Reading the records is refused: reply 1, Fault
abbrev pub Counted : Type 0
Counted = (k : ℕ) → ((steps k).count ≡ 1) × (at (steps k).last.mem 0x2010 ≡ 1) × ((numbered (steps k).last.reply).number ≡ 1)

-- the open view has AL hold the records' byte
abbrev pub Read : Type 0
Read = (register (leaking 7).last.cpu.regs 0 ≡ 7) × (register (leaking 9).last.cpu.regs 0 ≡ 9)
