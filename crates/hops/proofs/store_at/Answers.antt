use Rattle.hops.proofs.Seeking.{put_there, put_byte}
use mathlib.Core.Path.{◌∙◌}
use Rattle.hops.proofs.store_at.Goals as goal

pub returns-then-p : goal.returns-then-p
returns-then-p c = c.put_dword.ensures ∙ put_there _ c.args.p _ _ c.if-p.true

pub returns : goal.returns
returns c = c.put.ensures ∙ put_byte _ c.args.p _ _ c.if-p.false
