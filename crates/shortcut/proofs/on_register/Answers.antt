use Rattle.shortcut.specs.Forms.{register_fast}
use Rattle.shortcut.proofs.Small.{four_or_one, small_fits}
use Rattle.std.proofs.Common.{arith}
use Rattle.shortcut.proofs.on_register.Goals as goal

pub overflow_add-either : goal.overflow_add-either
overflow_add-either c = let h = four_or_one c.args.w in small_fits _ (omega (arith, h, c.either.ensures))

pub returns : goal.returns
unfolding register_fast
returns c = cc
