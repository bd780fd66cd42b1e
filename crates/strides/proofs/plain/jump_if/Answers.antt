use Rattle.alu.specs.Brief.{status_in}
use Rattle.strides.proofs.Working.{jumps, goes_on, on_condition}
use Rattle.std.proofs.Common.{refl, sym, ◌∙◌}
use Rattle.strides.proofs.plain.jump_if.Goals as goal

pub returns-then-holds : goal.returns-then-holds
returns-then-holds c = λ m k h d st he. jumps m _ k c.args.r h d c.args.f st he (c.eight.ensures.1.1 c.args.f.b) c.eight.ensures.1.0 (on_condition c.args.f _ c.args.r.eip (status_in c.args.r.flags) c.args.n c.requires.0 c.requires.1.0 (sym c.if-holds.true ∙ c.holds.ensures)) c.requires.1.1 refl c.onward.ensures

pub returns : goal.returns
returns c = λ m k h d st he. goes_on m _ k c.args.r h d c.args.f st he (c.eight.ensures.1.1 c.args.f.b) c.eight.ensures.1.0 (on_condition c.args.f _ c.args.r.eip (status_in c.args.r.flags) c.args.n c.requires.0 c.requires.1.0 (sym c.if-holds.false ∙ c.holds.ensures)) c.requires.1.1 c.onward-2.ensures
