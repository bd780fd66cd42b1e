use mathlib.Core.Path.{refl}
use Rattle.swift.proofs.rest_of.Goals as goal

pub returns : goal.returns
returns c = (refl, c.brief_of-flags.ensures (c.requires))
