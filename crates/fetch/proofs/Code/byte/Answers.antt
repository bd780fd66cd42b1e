use Rattle.fetch.proofs.Laws.{fetch_full, fetch_near}
use Rattle.std.proofs.Common.{arith, rules}
use Rattle.fetch.proofs.Code.byte.Goals as goal

pub returns-then-n-ge15 : goal.returns-then-n-ge15
returns-then-n-ge15 c = fetch_full _ _ _ _ c.if-n-ge15.true

pub returns-in-Some : goal.returns-in-Some
returns-in-Some c = let self = c.args.self.now in fetch_near _ _ _ _ _ _ self.view.size (self.reached _ c.in-Some.is) (search rules) (omega arith) (omega arith) (simp (c.byte_at.ensures.0, c.index.ensures.0)) c.byte_at.ensures.1
