use mathlib.Core.Path.{◌≡◌}
use Rattle.hops.specs.Hops.{after}
use lib.ListN.{length}
use Prim.Native.Nat.{◌≤◌, ◌-◌}
use mathlib.Core.Bool.{true}
use Rattle.machine.specs.Record.{sound}
use Rattle.machine.specs.Run.{run, steps}
use Rattle.phases.specs.Step.{micro32}
use Rattle.micro32.proofs.run_on.Given as goal

abbrev pub invariant-loop-n : goal.invariant-loop-n
invariant-loop-n l =
    (l.n ≤ l.budget) × (length l.mem ≡ length l.initial.mem) × (sound l.mem l.d ≡ true) × (run micro32 l.budget l.initial.mem l.initial.d ≡ after l.n (steps micro32 (l.budget - l.n) l.mem l.d))

abbrev pub decreases-loop-n : goal.decreases-loop-n
decreases-loop-n l = l.budget - l.n
