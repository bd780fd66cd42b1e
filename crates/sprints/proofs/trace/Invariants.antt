use Prim.Native.Nat.{◌≤◌}
use Rattle.blocks.specs.Blocks.{size_in}
use Rattle.sprints.proofs.Tracing.{Along}
use Rattle.sprints.specs.Sprints.{Before}
use Rattle.sprints.proofs.trace.Given as goal

abbrev pub invariant-loop-j : goal.invariant-loop-j
invariant-loop-j l = record {
  few : l.size ≤ size_in l.g l.s;
  within : l.size ≤ l.limit;
  before : Before l.initial.mem l.c l.h l.d l.g l.initial.r l.s;
  along : Along l.initial.mem l.initial.e l.c l.initial.r l.h l.d l.g l.s l.mem l.e l.j l.r;
}
