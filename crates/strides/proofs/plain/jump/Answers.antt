use Rattle.std.proofs.Common.{refl}
use Rattle.alu.specs.Brief.{status_in}
use Rattle.strides.proofs.Working.{jumps, a_jump}
use Rattle.strides.proofs.plain.jump.Goals as goal

pub returns : goal.returns
returns c = λ m k h d st he. jumps m _ k c.args.r h d c.args.f st he (c.eight.ensures.1.1 c.args.f.b) c.eight.ensures.1.0 (a_jump c.args.f _ c.args.r.eip (status_in c.args.r.flags) c.requires.0) c.requires.1 refl c.onward.ensures
