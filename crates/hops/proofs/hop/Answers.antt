use Rattle.hops.proofs.Swiftly.{unmoved, landed, jumped, double_hopped, room_for}
use borrow.Author.Rules.{rules}
use borrow.Author.Tests.{not-false}
use mathlib.Core.Path.{refl}
use Rattle.hops.proofs.hop.Goals as goal

pub quick-p-requires : goal.quick-p-requires
quick-p-requires c = room_for _ (c.args.c) (c.args.h) (c.args.r.eip) _ (c.requires.1.0.0) (c.requires.1.1.1.1) (c.requires.1.1.0) (c.requires.1.1.1.0) refl

pub returns-then-p : goal.returns-then-p
returns-then-p c = rw (c.onward.ensures) (double_hopped _ _ (c.args.c) (c.args.r) (c.args.h) _ (c.requires.1.0.0) (c.requires.0) (c.requires.1.1.1.1) (c.requires.1.1.0) (c.requires.1.1.1.0) _ (c.quick-p.result) refl (c.quick-p.ensures) _ (c.if-p.true) (c.double-g.ensures.0) refl (c.double-g.ensures.1) (c.requires.1.0))

pub returns-then-not-p : goal.returns-then-not-p
returns-then-not-p c = rw (c.stuck.ensures) (unmoved _ _ (c.args.c) (c.args.r) (c.args.h) _ (c.requires.1.0))

pub returns-then-p-2 : goal.returns-then-p-2
returns-then-p-2 c = rw (c.onward-then-p-2.ensures) (jumped _ _ (c.args.c) (c.args.r) (c.args.h) _ (c.requires.1.0.0) (c.requires.0) (c.requires.1.1.1.1) (c.requires.1.1.0) (c.requires.1.1.1.0) _ (c.quick-p.result) refl (c.quick-p.ensures) _ (not-false _ c.if-not-p.false) (c.if-p-2.true) refl refl (c.requires.1.0))

pub returns-in_default : goal.returns-in_default
returns-in_default c = rw (c.stuck-in_default.ensures) (unmoved _ _ (c.args.c) (c.args.r) (c.args.h) _ ((c.requires.1.0.0), (c.seek.ensures.1)))

pub finish-requires : goal.finish-requires
finish-requires c = c.quick-p.ensures.tidy (not-false _ c.if-not-p.false)

pub returns : goal.returns
returns c = landed _ _ (c.args.c) (c.args.r) (c.args.h) _ (c.requires.1.0.0) (c.requires.0) (c.requires.1.1.1.1) (c.requires.1.1.0) (c.requires.1.1.1.0) _ (c.quick-p.result) refl (c.quick-p.ensures) _ (c.in-Some.q) (not-false _ c.if-not-p.false) (c.in-Some.ensures.0) (search rules) refl (c.finish.ensures) refl ((c.requires.1.0.0), (c.in-Some.ensures.1))
