use Rattle.hops.proofs.Seeking.{same_table}
use Rattle.swift.proofs.turned.Goals as goal

pub returns-then-holds-k : goal.returns-then-holds-k
returns-then-holds-k c = (c.in_ok-k.ensures.0, (c.in_ok-k.ensures.1, same_table _ (c.args.c) (c.args.d.now) (c.args.table) (c.args.holds) c.in_ok-k.k (c.if-holds-k.true) (c.requires)))

pub returns : goal.returns
returns c = (c.in_ok-k.ensures.0, (c.in_ok-k.ensures.1, c.clear.ensures _ (c.args.c) _))
