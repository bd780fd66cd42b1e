use Rattle.std.proofs.Common.{ℕ, ◌+◌, ap, arith}
use Rattle.machine.specs.Record.{wrap}
use Rattle.alu.specs.Brief.{status_in}
use Rattle.strides.proofs.Working.{moves, an_address}
use Rattle.strides.proofs.plain.address.Goals as goal

pub returns : goal.returns
returns c = λ m k h d st he. moves m _ k c.args.r h d c.args.f st he (c.eight.ensures.1.1 c.args.f.b) c.eight.ensures.1.0 (an_address c.args.f _ c.args.r.eip (status_in c.args.r.flags) c.requires.0 (ap (λ (z : ℕ). wrap (z + c.args.f.number)) c.register.ensures)) (omega arith) (omega arith) c.put.ensures c.requires.1.1 c.onward.ensures
