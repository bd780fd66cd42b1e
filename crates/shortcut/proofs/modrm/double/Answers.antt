use Rattle.shortcut.specs.Forms.{double_fast}
use Rattle.shortcut.proofs.modrm.double.Goals as goal

pub returns : goal.returns
unfolding double_fast
returns c = cc
