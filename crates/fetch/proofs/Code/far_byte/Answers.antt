use Rattle.access.proofs.Laws.{found, refusing}
use Rattle.fetch.proofs.Laws.{fetch_denied, fetch_at}
use Rattle.fetch.proofs.Code.far_byte.Goals as goal

pub returns-in_default : goal.returns-in_default
returns-in_default c = fetch_denied _ _ _ _ _ c.requires (refusing _ c.unwrap_err.ensures c.translate-answer.ensures)

pub returns : goal.returns
returns c = fetch_at _ _ _ _ _ _ c.requires (found c.in-Ok.ensures) (simp (c.byte_at.ensures.0, c.index.ensures.0)) c.byte_at.ensures.1
