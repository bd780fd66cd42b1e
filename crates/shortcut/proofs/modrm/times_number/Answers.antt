use Rattle.shortcut.specs.Forms.{times_fast}
use Rattle.shortcut.proofs.Small.{four_or_one, small_fits}
use Rattle.std.proofs.Common.{arith}
use Rattle.shortcut.proofs.modrm.times_number.Goals as goal

pub overflow_add-q : goal.overflow_add-q
overflow_add-q c = let h = four_or_one (c.args.long) in small_fits _ (omega (arith, h, (c.either-2.ensures), (c.operand-q.ensures.1.1)))

pub returns : goal.returns
unfolding times_fast
returns c = cc
