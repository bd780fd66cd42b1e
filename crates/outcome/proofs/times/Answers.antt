use Rattle.outcome.specs.Outcome.{low_out}
use Rattle.std.proofs.Common.{ap}
use Rattle.outcome.proofs.times.Goals as goal

pub returns : goal.returns
returns c = ap low_out (c.multiply_brief-q.ensures)
