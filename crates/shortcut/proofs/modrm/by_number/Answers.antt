use Rattle.shortcut.specs.Forms.{left_fast}
use Rattle.shortcut.proofs.Small.{four_or_one, small_fits}
use Rattle.std.proofs.Common.{arith}
use Rattle.shortcut.proofs.modrm.by_number.Goals as goal

pub overflow_add-q : goal.overflow_add-q
overflow_add-q c = let h = four_or_one c.args.long in small_fits _ (omega (arith, h, c.either.ensures, c.operand-q.ensures.1.1))

pub returns : goal.returns
unfolding left_fast
returns c = cc
