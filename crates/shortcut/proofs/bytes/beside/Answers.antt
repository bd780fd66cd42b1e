use Rattle.shortcut.proofs.Spots.{form_based}
use Rattle.std.proofs.Common.{refl, ◌∙◌, arith}
use Rattle.shortcut.proofs.bytes.beside.Goals as goal

pub returns : goal.returns
returns c = form_based _ (c.args.e.now) _ _ _ (omega (arith, (c.requires.1.0))) 1 _ (c.requires.1.0) (c.requires.1.1) refl ((c.extend.ensures) ∙ rw (c.byte.ensures.0) refl) (c.place.ensures)
