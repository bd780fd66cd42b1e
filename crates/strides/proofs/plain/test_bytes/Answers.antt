use Rattle.alu.specs.Brief.{status_in}
use Rattle.strides.proofs.Working.{to_none, a_byte_test}
use Rattle.strides.proofs.plain.test_bytes.Goals as goal

pub returns : goal.returns
returns c = λ m k h d st he. to_none m _ k c.args.r h d c.args.f st he (c.eight.ensures.1.1 c.args.f.b) c.eight.ensures.1.0 c.bytes-o.result (a_byte_test c.args.f _ c.args.r.eip (status_in c.args.r.flags) c.requires.0 c.byte_register.ensures.0 c.byte_register-2.ensures.0) c.bytes-o.ensures c.requires.1.1 c.onward.ensures
