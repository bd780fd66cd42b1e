-- `cells::copy` has put the first k bytes over. Assumes nothing.
use Rattle.std.proofs.Common.{◌≡◌}
use Rattle.cells.specs.Cells.{copied}
use Rattle.cells.proofs.copy.Given as goal

abbrev pub invariant-loop-k : goal.invariant-loop-k
invariant-loop-k l = l.to ≡ copied l.from l.a l.initial.to l.b l.k
