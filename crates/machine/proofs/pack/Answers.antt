use Rattle.machine.specs.Record.{pack}
use native.Mathlib.Omega.{arith}
use Rattle.machine.proofs.pack.Goals as goal

pub returns : goal.returns
unfolding pack
returns c = omega (arith, c.weighed.ensures.0, c.weighed-2.ensures.0, c.weighed-3.ensures.0, c.weighed-4.ensures.0, c.weighed-5.ensures.0, c.weighed-6.ensures.0, c.weighed-7.ensures.0, c.weighed-8.ensures.0)
