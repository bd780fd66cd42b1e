use Rattle.micro32.specs.Told.{told}
use mathlib.Core.Path.{ap}
use Rattle.micro32.proofs.step.Goals as goal

pub returns : goal.returns
returns c = ap told c.advance.ensures
