use Rattle.access.proofs.Laws.{refused_byte, refusing, byte_held}
use Rattle.std.proofs.Common.{rules}
use Rattle.access.proofs.View.single.Goals as goal

pub returns-in_default : goal.returns-in_default
returns-in_default c = refused_byte _ _ _ _ _ (refusing _ c.unwrap_err.ensures c.translate-answer.ensures)

pub returns : goal.returns
returns c = byte_held _ _ _ c.args.l (search rules) _ _ _ (simp (c.byte_at-value.ensures.0, c.index.ensures.0)) c.in-Ok.ensures
