use Rattle.shortcut.specs.Forms.{push_fast}
use Rattle.shortcut.proofs.push.Goals as goal

pub returns : goal.returns
unfolding push_fast
returns c = cc
