use native.Mathlib.Omega.{arith}
use borrow.Author.Rules.{rules}
use mathlib.Core.Bool.{false≢true}
use mathlib.Core.Path.{refl, sym, ap, ◌∙◌}
use Prim.Native.Nat.{◌+◌, ◌%◌}
use Rattle.swift.proofs.Hurrying.{two_tests}
use Rattle.sprints.proofs.Sprinting.{rush_joined}
use Rattle.hops.proofs.Rushing.{rush_begun, rush_on, rush_ended}
use Rattle.swift.proofs.rush.Goals as goal

pub turned-requires : goal.turned-requires
turned-requires c = λ g. absurd (false≢true g)

pub loop-n-init : goal.loop-n-init
loop-n-init c = (search rules, refl, (c.in-Some.ensures.1), rush_begun _ _ (c.args.c) _, c.requires)

pub overflow_sub-limit : goal.overflow_sub-limit
overflow_sub-limit c = let z = c.loop-n.invariant.0 in search rules

pub sprint-w-requires : goal.sprint-w-requires
sprint-w-requires c = (ap (λ x. x % 4096) (c.loop-n.invariant.1) ∙ (c.loop-n.invariant.4), c.loop-n.invariant.2)

pub overflow_add-n : goal.overflow_add-n
overflow_add-n c = let k = c.sprint-w.ensures.0 in let l = c.loop-n-test.true in let z = c.loop-n.invariant.0 in omega (arith, k, l, z, c.ranges.limit)

pub page_for-requires : goal.page_for-requires
page_for-requires c = λ g. (c.sprint-w.ensures.1.kept) (sym c.keeps.ensures ∙ g)

pub shape_of-mem-then-not-n-limit : goal.shape_of-mem-then-not-n-limit
shape_of-mem-then-not-n-limit c = (c.sprint-w.ensures.1.size) ∙ (c.loop-n.invariant.1)

pub returns-then-not-n-limit : goal.returns-then-not-n-limit
returns-then-not-n-limit c = let k = c.sprint-w.ensures.0 in let l = c.loop-n-test.true in let z = c.loop-n.invariant.0 in (omega (arith, k, z, l), rush_joined _ _ _ _ _ _ _ _ (c.loop-n.invariant.3) _ _ _ _ (c.sprint-w.ensures.1.rushed))

pub hop-w-requires : goal.hop-w-requires
hop-w-requires c = let g = two_tests ((c.loop-n.n) + (c.sprint-w.result.count)) (c.args.limit) ((c.sprint-w.result.rest.eip) % 4096) 4080 (c.if-not-n-limit.false) in ((ap (λ x. x % 4096) ((c.sprint-w.ensures.1.size) ∙ (c.loop-n.invariant.1)) ∙ (c.loop-n.invariant.4)), (c.in-Some-page_for.ensures.1, (sym c.in-Some-page_for.ensures.0, (g.1, search rules))))

pub shape_of-mem-then-not-moves : goal.shape_of-mem-then-not-moves
shape_of-mem-then-not-moves c = (c.hop-w.auto.mem) ∙ (c.sprint-w.ensures.1.size) ∙ (c.loop-n.invariant.1)

pub returns-then-not-moves : goal.returns-then-not-moves
returns-then-not-moves c = let k = c.sprint-w.ensures.0 in let l = c.loop-n-test.true in let z = c.loop-n.invariant.0 in (omega (arith, k, z, l), rush_ended _ _ _ _ _ _ _ _ (rush_joined _ _ _ _ _ _ _ _ (c.loop-n.invariant.3) _ _ _ _ (c.sprint-w.ensures.1.rushed)) _ _ _ _ _ (c.hop-w.ensures) (sym c.moves.ensures ∙ c.if-not-moves.true))

pub overflow_add-n-in-loop-n : goal.overflow_add-n-in-loop-n
overflow_add-n-in-loop-n c = let g = two_tests ((c.loop-n.n) + (c.sprint-w.result.count)) (c.args.limit) ((c.sprint-w.result.rest.eip) % 4096) 4080 (c.if-not-n-limit.false) in omega (arith, g.0, c.ranges.limit)

pub page_for-requires-in-loop-n : goal.page_for-requires-in-loop-n
page_for-requires-in-loop-n c = λ g. (c.hop-w.ensures.kept) (sym c.keeps-in-loop-n.ensures ∙ g)

pub returns-in_default-page_for-2 : goal.returns-in_default-page_for-2
returns-in_default-page_for-2 c = let g = two_tests ((c.loop-n.n) + (c.sprint-w.result.count)) (c.args.limit) ((c.sprint-w.result.rest.eip) % 4096) 4080 (c.if-not-n-limit.false) in (omega (arith, g.0), rush_on _ _ _ _ _ _ _ _ (rush_joined _ _ _ _ _ _ _ _ (c.loop-n.invariant.3) _ _ _ _ (c.sprint-w.ensures.1.rushed)) _ _ _ _ _ (c.hop-w.ensures) (sym c.moves.ensures ∙ c.if-not-moves.false))

pub loop-n-smaller : goal.loop-n-smaller
loop-n-smaller c = let g = two_tests ((c.loop-n.n) + (c.sprint-w.result.count)) (c.args.limit) ((c.sprint-w.result.rest.eip) % 4096) 4080 (c.if-not-n-limit.false) in let k = c.sprint-w.ensures.0 in let l = c.loop-n-test.true in let z = c.loop-n.invariant.0 in omega (arith, g.0, k, l, z)

pub loop-n-preserved : goal.loop-n-preserved
loop-n-preserved c = let g = two_tests ((c.loop-n.n) + (c.sprint-w.result.count)) (c.args.limit) ((c.sprint-w.result.rest.eip) % 4096) 4080 (c.if-not-n-limit.false) in (omega (arith, g.0), (c.hop-w.auto.mem) ∙ (c.sprint-w.ensures.1.size) ∙ (c.loop-n.invariant.1), c.in-Some-page_for-2.ensures.1, rush_on _ _ _ _ _ _ _ _ (rush_joined _ _ _ _ _ _ _ _ (c.loop-n.invariant.3) _ _ _ _ (c.sprint-w.ensures.1.rushed)) _ _ _ _ _ (c.hop-w.ensures) (sym c.moves.ensures ∙ c.if-not-moves.false), c.loop-n.invariant.4)

pub shape_of-mem : goal.shape_of-mem
shape_of-mem c = c.loop-n.invariant.1

pub returns : goal.returns
returns c = (c.loop-n.invariant.0, c.loop-n.invariant.3)
