use Rattle.blocks.proofs.Tables.{Begun}
use Rattle.blocks.proofs.Blocks.begin.Given as goal

abbrev pub invariant-loop-k : goal.invariant-loop-k
invariant-loop-k l = Begun l.mem l.i l.s l.self-inside.numbers l.k
