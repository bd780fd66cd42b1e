use Rattle.shortcut.specs.Forms.{left_fast}
use Rattle.shortcut.proofs.modrm.to_operand.Goals as goal

pub returns : goal.returns
unfolding left_fast
returns c = cc
