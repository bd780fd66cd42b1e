use Rattle.alu.specs.Brief.{status_in}
use Rattle.strides.proofs.Working.{settled, by_register}
use Rattle.strides.proofs.plain.by_register.Goals as goal

pub returns : goal.returns
returns c = λ m k h d st he. settled m _ k c.args.r h d c.args.f st he (c.eight.ensures.1.1 c.args.f.b) c.eight.ensures.1.0 c.dwords-o.result (by_register c.args.f _ c.args.r.eip (status_in c.args.r.flags) c.args.op c.requires.0 c.requires.1.0 c.register.ensures c.register-2.ensures) c.dwords-o.ensures c.settle.ensures.0 c.requires.1.1.1 c.settle.ensures.1
