use Rattle.keptpages.proofs.Holding.{held_set}
use Rattle.std.proofs.Common.{refl, rules}
use Rattle.keptpages.proofs.held.keep.Goals as goal

pub returns : goal.returns
returns c = λ m k h g. rw (c.put.ensures) (held_set m k (c.args.table) c.args.d.now (c.args.k) (c.args.p) _ refl (search rules) (c.if-p-table.false) h g)
