use Rattle.shortcut.proofs.Spots.{form_based}
use Rattle.std.proofs.Common.{refl, arith, ne_eqb}
use Rattle.shortcut.proofs.bytes.alone.Goals as goal

pub returns : goal.returns
returns c = λ m j. form_based m (c.args.e.now) j _ _ (omega (arith, (c.requires.0))) 0 0 (c.requires.0) (c.requires.1.0) (ne_eqb _ _ (c.requires.1.1)) refl (c.place.ensures)
