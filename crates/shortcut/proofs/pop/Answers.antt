use Rattle.shortcut.specs.Forms.{pop_fast}
use Rattle.shortcut.proofs.pop.Goals as goal

pub returns : goal.returns
unfolding pop_fast
returns c = cc
