use Rattle.std.proofs.Common.{eqb, arith}
use Rattle.shortcut.specs.Forms.{left_fast}
use Rattle.shortcut.proofs.Small.{one_or_none, small_fits}
use Rattle.shortcut.proofs.modrm.by_places.Goals as goal

pub overflow_add-q : goal.overflow_add-q
overflow_add-q c = let h = one_or_none (eqb (c.args.b) 0xc1) in small_fits _ (omega (arith, h, (c.either.ensures), (c.operand-q.ensures.1.1)))

pub returns : goal.returns
unfolding left_fast
returns c = cc
