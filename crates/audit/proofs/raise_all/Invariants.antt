use Rattle.audit.specs.Searched.{Flags}
use Rattle.audit.proofs.raise_all.Given as goal

abbrev pub invariant-loop-d : goal.invariant-loop-d
invariant-loop-d l = Flags l.mem l.c l.d l.held
