use mathlib.Core.Path.{◌≡◌}
use Prim.Native.Nat.{◌≤◌, ◌-◌, ◌%◌}
use lib.ListN.{length}
use Rattle.hops.specs.Hops.{PagesOk, RushOk}
use Rattle.swift.proofs.rush.Given as goal

abbrev pub invariant-loop-n : goal.invariant-loop-n
invariant-loop-n l =
    (l.n ≤ l.limit) × (length l.mem ≡ length l.initial.mem) × (PagesOk l.mem l.c l.h l.d) × (RushOk l.initial.mem l.initial.e l.c l.initial.r l.n l.mem l.e l.r) × (length l.initial.mem % 4096 ≡ 0)

abbrev pub decreases-loop-n : goal.decreases-loop-n
decreases-loop-n l = l.limit - l.n
