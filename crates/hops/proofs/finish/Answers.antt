use Rattle.hops.proofs.Swiftly.{left_with, move_out, tidy_few}
use Rattle.outcome.specs.Outcome.{out_of}
use mathlib.Core.Bool.{Bool}
use Rattle.alu.specs.Brief.{status_in}
use mathlib.Core.Path.{sym, ap, ◌∙◌}
use borrow.Author.Rules.{rules}
use Rattle.hops.proofs.finish.Goals as goal

pub returns-then-p : goal.returns-then-p
returns-then-p c = left_with (move_out (c.args.p.op) (c.args.q.x) (c.args.q.y) (c.args.p.wide) (status_in (c.args.f)) (search rules) (search rules) (c.if-p.true)) (c.settle_move.ensures)

pub settle-requires : goal.settle-requires
settle-requires c = (tidy_few (c.args.p) c.requires (c.if-p.false), c.requires.landing)

pub returns-then-p-2 : goal.returns-then-p-2
returns-then-p-2 c = left_with ((c.dwords-o.ensures) ∙ ap (λ (w : Bool). out_of (c.args.p.op) w (c.args.q.x) (c.args.q.y) (status_in (c.args.f))) (sym (c.if-p-2.true))) (c.settle.ensures)

pub settle-requires-2 : goal.settle-requires-2
settle-requires-2 c = (tidy_few (c.args.p) c.requires (c.if-p.false), c.requires.landing)

pub returns : goal.returns
returns c = left_with ((c.bytes-o.ensures) ∙ ap (λ (w : Bool). out_of (c.args.p.op) w (c.args.q.x) (c.args.q.y) (status_in (c.args.f))) (sym (c.if-p-2.false))) (c.settle-2.ensures)
