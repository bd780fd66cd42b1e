use Rattle.shortcut.specs.Forms.{from_fast}
use Rattle.shortcut.proofs.modrm.from_operand.Goals as goal

pub returns : goal.returns
unfolding from_fast
returns c = cc
