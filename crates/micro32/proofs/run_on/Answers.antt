use mathlib.Core.Path.{refl, ap, ◌∙◌}
use native.Mathlib.Omega.{arith}
use borrow.Author.Rules.{rules}
use Rattle.micro32.specs.Told.{run_told}
use Rattle.machine.proofs.Done.{not_done}
use Rattle.hops.proofs.Onward.{went_on, ended_at}
use Rattle.phases.proofs.Steps.{sound_size}
use Rattle.micro32.proofs.Runs.{begun, spent, rushed, stepped_sound, few_left}
use Prim.Native.Nat.{◌<◌}
use Rattle.micro32.proofs.run_on.Goals as goal

pub loop-n-init : goal.loop-n-init
loop-n-init c = (search rules, refl, c.requires, begun _ _ (c.args.c) c.requires)

pub dash-w-requires : goal.dash-w-requires
dash-w-requires c = sound_size _ _ (c.loop-n.invariant.2)

pub overflow_add-n : goal.overflow_add-n
overflow_add-n c = let f = (few_left _ _ _ (c.loop-n.invariant.0) (c.dash-w.ensures.0)) in omega (arith, f, (c.ranges.budget))

pub shape_of-mem-then-budget-n : goal.shape_of-mem-then-budget-n
shape_of-mem-then-budget-n c = (c.dash-w.auto.mem) ∙ (c.loop-n.invariant.1)

pub returns-then-budget-n : goal.returns-then-budget-n
returns-then-budget-n c = ap run_told (spent _ _ _ _ _ (few_left _ _ _ (c.loop-n.invariant.0) (c.dash-w.ensures.0)) (c.if-budget-n.true) (rushed _ _ _ _ _ (c.loop-n.invariant.3) (c.loop-n.invariant.2) _ _ _ (c.dash-w.ensures.1) (c.dash-w.ensures.0)))

pub shape_of-mem-in_default : goal.shape_of-mem-in_default
shape_of-mem-in_default c = (c.advance-s.auto.mem) ∙ (c.dash-w.auto.mem) ∙ (c.loop-n.invariant.1)

pub returns-in_default : goal.returns-in_default
returns-in_default c = ap run_told (ended_at _ _ _ _ _ _ (c.if-budget-n.false) (rushed _ _ _ _ _ (c.loop-n.invariant.3) (c.loop-n.invariant.2) _ _ _ (c.dash-w.ensures.1) (c.dash-w.ensures.0)) (c.advance-s.ensures) (not_done (c.advance-s.result.reply) c.in_default.not-Done))

pub overflow_add-n-in-loop-n : goal.overflow_add-n-in-loop-n
overflow_add-n-in-loop-n c = let f : _ < _ = (c.if-budget-n.false) in omega (arith, f, (c.ranges.budget))

pub loop-n-smaller : goal.loop-n-smaller
loop-n-smaller c = let f : _ < _ = (c.if-budget-n.false) in omega (arith, f)

pub loop-n-preserved : goal.loop-n-preserved
loop-n-preserved c = (omega (arith, (c.if-budget-n.false)), (c.advance-s.auto.mem) ∙ (c.dash-w.auto.mem) ∙ (c.loop-n.invariant.1), stepped_sound _ _ _ ((c.dash-w.ensures.1.holds) (c.loop-n.invariant.2)) (c.advance-s.ensures), went_on _ _ _ _ _ _ (c.if-budget-n.false) (rushed _ _ _ _ _ (c.loop-n.invariant.3) (c.loop-n.invariant.2) _ _ _ (c.dash-w.ensures.1) (c.dash-w.ensures.0)) (c.advance-s.ensures) (c.in-Done.is))

pub shape_of-mem : goal.shape_of-mem
shape_of-mem c = c.loop-n.invariant.1

pub returns : goal.returns
returns c = ap run_told (spent _ _ _ _ _ (c.loop-n.invariant.0) (c.loop-n-test.false) (c.loop-n.invariant.3))
