use Rattle.strides.proofs.Working.{doubles}
use Rattle.std.proofs.Common.{refl}
use Rattle.strides.proofs.plain.double.Goals as goal

pub returns : goal.returns
returns c = λ m k h d st he. doubles m _ k c.args.r h d c.args.f st he (c.eight.ensures.1.1 c.args.f.b) c.eight.ensures.1.0 c.requires.0 c.register.ensures c.double-g.ensures.0 (rw c.onward.ensures refl) c.requires.1.1 (rw c.onward.ensures refl) (rw c.onward.ensures c.double-g.ensures.1)
