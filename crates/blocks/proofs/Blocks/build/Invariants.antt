use Rattle.blocks.proofs.Building.{Built}
use Rattle.blocks.proofs.Blocks.build.Given as goal

abbrev pub invariant-loop-j : goal.invariant-loop-j
invariant-loop-j l = Built l.mem l.i l.s l.self-inside.numbers l.j l.off
