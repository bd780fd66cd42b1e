use Rattle.hops.proofs.Seeking.{pushed, read}
use mathlib.Core.Path.{refl}
use Rattle.hops.proofs.loaded.Goals as goal

pub returns-then-p-eq4 : goal.returns-then-p-eq4
returns-then-p-eq4 c = (refl, pushed (c.args.p) _ _ (c.if-p-eq4.true) refl refl refl)

pub returns-then-p : goal.returns-then-p
returns-then-p c = (refl, read (c.args.p) _ _ c.requires (c.if-p-eq4.false) (c.load-v.ensures) (rw c.if-p.true (c.load-v.ensures)) (rw c.if-p.true refl))

pub returns : goal.returns
returns c = (refl, read (c.args.p) _ _ c.requires (c.if-p-eq4.false) (c.load-v.ensures) (rw c.if-p.false refl) (rw c.if-p.false (c.load-v.ensures)))
