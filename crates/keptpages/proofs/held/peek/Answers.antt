use Rattle.std.proofs.Common.{refl}
use Rattle.keptpages.proofs.Holding.{page_is}
use Rattle.keptpages.proofs.held.peek.Goals as goal

pub returns : goal.returns
returns c = λ m c' h. (c.on.ensures) m c' (c.args.w) (rw (← (c.slot.ensures)) (page_is m c' _ (c.args.d.now) (c.slot.result) _ _ _ (c.get-x.ensures) (c.if-x-l.false) refl (h (c.slot.result)))) refl
