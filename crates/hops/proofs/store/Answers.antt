use Rattle.hops.proofs.Seeking.{sparing}
use mathlib.Core.Path.{refl}
use mathlib.Core.Bool.{false≢true}
use Rattle.hops.proofs.store.Goals as goal

pub returns-then-first-table : goal.returns-then-first-table
returns-then-first-table c = (c.store_at.ensures, (refl, λ g. absurd (false≢true g)))

pub returns : goal.returns
returns c = (c.store_at.ensures, (refl, λ _. sparing _ (c.args.c) (c.args.table) (c.args.p) _ _ (c.store_at.ensures) c.if-first-table.false))
