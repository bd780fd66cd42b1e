use native.Mathlib.Omega.{arith}
use borrow.Author.Rules.{rules}
use mathlib.Core.Path.{◌≡◌, sym, ◌∙◌}
use Rattle.sprints.proofs.Tracing.{begun, stands, here, follows, stopped, left, through}
use Rattle.sprints.proofs.trace.Goals as goal

pub loop-j-init : goal.loop-j-init
loop-j-init c = record { few = rw (← c.size.ensures.0) c.least-size.ensures.1.0; within = c.least-size.ensures.1.1; before = c.requires; along = begun _ _ _ _ _ _ _ _ c.requires c.size.ensures.1 }

pub carry_out-w-requires : goal.carry_out-w-requires
carry_out-w-requires c = (stands _ _ _ _ _ _ _ _ (c.loop-j.invariant.before) c.size.ensures.1 _ _ _ _ (c.loop-j.invariant.along) (omega (arith, c.loop-j.invariant.few)), here _ _ _ _ _ _ _ _ (c.loop-j.invariant.before) c.size.ensures.1 _ _ _ _ (c.loop-j.invariant.along) _ (c.form-f.ensures) (search rules) (omega (arith, c.loop-j.invariant.few)))

pub returns-then-not-moves : goal.returns-then-not-moves
returns-then-not-moves c = (omega (arith, c.loop-j.invariant.within), stopped _ _ _ _ _ _ _ _ (c.loop-j.invariant.before) c.size.ensures.1 _ _ _ _ (c.loop-j.invariant.along) _ _ _ _ (c.carry_out-w.ensures) (c.carry_out-w.auto.mem) (sym c.moves.ensures ∙ c.if-not-moves.true))

pub returns-then-not-goes_on : goal.returns-then-not-goes_on
returns-then-not-goes_on c = (omega (arith, c.loop-j.invariant.within), left _ _ _ _ _ _ _ _ (c.loop-j.invariant.before) c.size.ensures.1 _ _ _ _ (c.loop-j.invariant.along) _ _ _ _ (c.carry_out-w.ensures) (c.carry_out-w.auto.mem) (sym c.moves.ensures ∙ c.if-not-moves.false))

pub loop-j-preserved : goal.loop-j-preserved
loop-j-preserved c = record {
  few = c.loop-j.invariant.few;
  within = c.loop-j.invariant.within;
  before = c.loop-j.invariant.before;
  along = follows _ _ _ _ _ _ _ _ (c.loop-j.invariant.before) c.size.ensures.1 _ _ _ _ (c.loop-j.invariant.along) _ _ _ _ (c.carry_out-w.ensures) (c.carry_out-w.auto.mem) (c.form-f.ensures) (omega (arith, c.loop-j.invariant.few)) (c.goes_on.ensures c.if-not-goes_on.false);
}

pub returns : goal.returns
returns c =
    let e : c.loop-j.j ≡ c.least-size.result = omega arith in
    (c.loop-j.invariant.within, rw e at (through _ _ _ _ _ _ _ _ (c.loop-j.invariant.before) c.size.ensures.1 _ _ _ _ (c.loop-j.invariant.along)))
