use native.Mathlib.Omega.{arith}
use Rattle.audit.proofs.First.{start, stays}
use Rattle.audit.proofs.Search.opening.Goals as goal

pub loop-d-init : goal.loop-d-init
loop-d-init c = start _

pub returns-in-Some : goal.returns-in-Some
returns-in-Some c = stays _ _ _ _ c.in-Some.ensures (omega arith)
