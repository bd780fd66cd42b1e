use Rattle.shortcut.specs.Forms.{jump_fast}
use Rattle.std.proofs.Common.{refl}
use Rattle.shortcut.proofs.jump.Goals as goal

pub returns : goal.returns
unfolding jump_fast
returns c = refl
