use Rattle.operands.specs.Operands.{address}
use Rattle.shortcut.proofs.bytes.place.Goals as goal

pub returns : goal.returns
unfolding address
returns c = cc
