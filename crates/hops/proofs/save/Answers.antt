use Rattle.hops.proofs.Seeking.{unsaved, saved_all}
use mathlib.Core.Path.{◌∙◌}
use Rattle.hops.proofs.save.Goals as goal

pub returns-then-not-p : goal.returns-then-not-p
returns-then-not-p c = unsaved _ (c.args.c) (c.args.table) (c.args.p) _ _ (c.if-not-p.true)

pub returns : goal.returns
returns c = ((c.store.ensures.0) ∙ saved_all _ (c.args.c) (c.args.table) (c.args.p) _ _ (c.if-not-p.false), (c.store.ensures.1))
