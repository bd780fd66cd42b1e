use Rattle.swift.proofs.Dashing.{joined_is}
use Rattle.swift.proofs.joined.Goals as goal

pub returns : goal.returns
returns c = joined_is c.args.c c.args.e c.args.r c.from-u.result (c.from-u.ensures) (rw (← (c.status_in-status.ensures)) (c.with_core.ensures))
