use mathlib.Core.Path.{◌≡◌}
use Prim.Native.Nat.{◌≤◌, ◌-◌, ◌%◌}
use lib.ListN.{length}
use Rattle.sprints.proofs.Sprinting.{Sprinted}
use Rattle.sprints.proofs.sprint.Given as goal

abbrev pub invariant-loop-n : goal.invariant-loop-n
invariant-loop-n l =
    (l.n ≤ l.limit) × (length l.initial.mem % 4096 ≡ 0) × (l.h.base % 4096 ≡ 0) × (Sprinted l.initial.mem l.initial.e l.c l.initial.r l.h l.d l.mem l.e l.n l.r)

abbrev pub decreases-loop-n : goal.decreases-loop-n
decreases-loop-n l = l.limit - l.n
