use Rattle.audit.proofs.Held.{flags_none, flags_more}
use Rattle.audit.proofs.raise_all.Goals as goal

pub loop-d-init : goal.loop-d-init
loop-d-init c = rw c.put.ensures (flags_none _ _ _ c.requires)

pub loop-d-preserved : goal.loop-d-preserved
loop-d-preserved c = rw (c.raise_table.ensures, c.entry.ensures) (flags_more _ _ _ _ c.loop-d.invariant)
