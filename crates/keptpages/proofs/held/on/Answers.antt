use Rattle.keptpages.proofs.Holding.{found_on}
use Rattle.std.proofs.Common.{refl, rules}
use Rattle.keptpages.proofs.held.on.Goals as goal

pub returns : goal.returns
returns c = λ m k w h e. found_on (c.args.p) (c.args.l) _ (search rules) refl m k w h e
