use Rattle.outcome.proofs.Effects.{none_shifted}
use Rattle.outcome.proofs.shifted.Goals as goal

pub returns-then-n-eq0 : goal.returns-then-n-eq0
returns-then-n-eq0 c = none_shifted _ _ _ _ (c.if-n-eq0.true)
