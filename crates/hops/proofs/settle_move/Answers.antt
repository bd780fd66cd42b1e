use Rattle.hops.proofs.Swiftly.{few_left, moved_left}
use Rattle.outcome.specs.Outcome.{deposit_of}
use Rattle.alu.specs.Brief.{status_in}
use mathlib.Core.Path.{refl, ap, ◌∙◌}
use Rattle.hops.proofs.settle_move.Goals as goal

pub returns-then-p-lt3 : goal.returns-then-p-lt3
returns-then-p-lt3 c = rw (c.onward.ensures) (few_left _ _ (c.args.c) (c.args.table) (c.args.p) (c.args.q) (record { value = (c.args.q.y); status = status_in (c.args.f) }) _ (c.if-p-lt3.true) (c.deposit.ensures) refl refl)

pub returns : goal.returns
returns c = rw (c.onward-2.ensures) (moved_left _ _ (c.args.c) (c.args.table) (c.args.p) (c.args.q) (record { value = (c.args.q.y); status = status_in (c.args.f) }) _ _ (c.save-ending.ensures.0) (c.save-ending.ensures.1) ((c.deposit-2.ensures) ∙ ap (λ (x : _). (deposit_of (c.args.p) (record { e = x }) (c.args.q.y)).e) (c.restack.ensures)) (c.next.ensures) refl)
