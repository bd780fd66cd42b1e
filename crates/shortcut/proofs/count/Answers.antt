use Rattle.shortcut.specs.Forms.{count_fast}
use Rattle.shortcut.proofs.count.Goals as goal

pub returns : goal.returns
unfolding count_fast
returns c = cc
