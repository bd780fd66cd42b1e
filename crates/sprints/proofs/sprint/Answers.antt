use native.Mathlib.Omega.{arith}
use borrow.Author.Rules.{rules}
use mathlib.Core.Path.{refl, sym, ◌∙◌}
use Prim.Native.Nat.{◌<◌}
use Rattle.sprints.proofs.Sprinting.{off, paused, room, ready, on, done, goes_on}
use Rattle.sprints.proofs.sprint.Goals as goal

pub returns-then-h-ne0 : goal.returns-then-h-ne0
returns-then-h-ne0 c = (search rules, paused _ _ _ _ _ _ _ _ _ _ (off _ _ _ _ _ _ c.requires.1))

pub loop-n-init : goal.loop-n-init
loop-n-init c = (search rules, c.requires.0, c.if-h-ne0.false, off _ _ _ _ _ _ c.requires.1)

pub returns-then-not-r-h : goal.returns-then-not-r-h
returns-then-not-r-h c = (c.loop-n.invariant.0, paused _ _ _ _ _ _ _ _ _ _ (c.loop-n.invariant.3))

pub find-s-requires : goal.find-s-requires
find-s-requires c = let small : (c.loop-n.r.eip) < 4294967296 = search rules in room _ _ _ _ _ _ _ _ _ _ (c.loop-n.invariant.3) (c.if-not-r-h.false) small _ refl

pub overflow_sub-limit : goal.overflow_sub-limit
overflow_sub-limit c = let k = c.loop-n.invariant.0 in search rules

pub trace-w-requires : goal.trace-w-requires
trace-w-requires c = let small : (c.loop-n.r.eip) < 4294967296 = search rules in ready _ _ _ _ _ _ _ _ _ _ (c.loop-n.invariant.3) (c.loop-n.invariant.1) (c.loop-n.invariant.2) (c.if-not-r-h.false) small _ _ _ refl (c.find-s.ensures.0) (c.find-s.ensures.1.0) (c.find-s.ensures.1.1)

pub overflow_add-n : goal.overflow_add-n
overflow_add-n c = let k = c.trace-w.ensures.0 in let l = c.loop-n-test.true in omega (arith, k, l, c.loop-n.invariant.0, c.ranges.limit)

pub shape_of-mem-then-moves-keeps : goal.shape_of-mem-then-moves-keeps
shape_of-mem-then-moves-keeps c = (c.trace-w.ensures.1.size) ∙ (c.loop-n.invariant.3.same)

pub returns-then-moves-keeps : goal.returns-then-moves-keeps
returns-then-moves-keeps c = let k = c.trace-w.ensures.0 in let l = c.loop-n-test.true in (omega (arith, k, l), done _ _ _ _ _ _ _ _ _ _ (c.loop-n.invariant.3) _ _ _ (c.trace-w.ensures.1))

pub loop-n-smaller : goal.loop-n-smaller
loop-n-smaller c = let q = goes_on _ _ (c.trace-w.result.count) (c.if-moves-keeps.false) in let k = c.trace-w.ensures.0 in let l = c.loop-n-test.true in omega (arith, q.1, k, l)

pub loop-n-preserved : goal.loop-n-preserved
loop-n-preserved c = let q = goes_on _ _ (c.trace-w.result.count) (c.if-moves-keeps.false) in let k = c.trace-w.ensures.0 in let l = c.loop-n-test.true in (omega (arith, k, l), c.loop-n.invariant.1, c.loop-n.invariant.2, on _ _ _ _ _ _ _ _ _ _ (c.loop-n.invariant.3) _ _ _ (c.trace-w.ensures.1) (sym c.keeps.ensures ∙ q.0))

pub returns : goal.returns
returns c = (c.loop-n.invariant.0, paused _ _ _ _ _ _ _ _ _ _ (c.loop-n.invariant.3))
