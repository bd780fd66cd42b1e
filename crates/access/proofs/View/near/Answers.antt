use Rattle.access.proofs.Laws.{refused_0, refusing, near_held}
use Rattle.std.proofs.Common.{rules}
use Rattle.access.proofs.View.near.Goals as goal

pub returns-in_default : goal.returns-in_default
returns-in_default c = refused_0 _ _ _ _ _ (refusing _ c.unwrap_err.ensures c.translate-answer.ensures)

pub returns : goal.returns
returns c = near_held _ _ _ c.args.l (search rules) c.args.self.now.size _ _ _ c.requires c.dword_at-value.ensures c.in-Ok.ensures
