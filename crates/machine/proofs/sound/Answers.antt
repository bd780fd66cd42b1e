use Rattle.machine.specs.Record.{sound_at}
use mathlib.Core.Path.{refl}
use Rattle.machine.proofs.sound.Goals as goal

pub returns : goal.returns
unfolding sound_at
returns c = refl
