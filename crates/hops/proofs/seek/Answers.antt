use Prim.Native.Nat.{◌<◌}
use Rattle.hops.proofs.Seeking.{none_reached, reached, near_enough}
use borrow.Author.Rules.{rules}
use mathlib.Core.Path.{refl}
use Rattle.hops.proofs.seek.Goals as goal

pub returns-then-p-eq0 : goal.returns-then-p-eq0
returns-then-p-eq0 c = (none_reached _ _ (c.args.p) _ (c.if-p-eq0.true) refl refl refl, c.requires.1)

pub returns : goal.returns
returns c = let s : (c.args.p.at) < 4294967296 = search rules in (reached _ _ (c.args.p) (c.requires.0) s _ (c.in_ok-i.ensures.0) _ _ (c.if-p-eq0.false) (near_enough _ _ (c.if-p.false)) refl (c.loaded.ensures.0) (c.loaded.ensures.1), c.in_ok-i.ensures.1)
