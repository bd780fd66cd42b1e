use mathlib.Core.Path.{ap}
use Rattle.micro32.specs.Boundary.{answered}
use Rattle.micro32.proofs.run_answered.Goals as goal

-- `run`'s numbered reply, its count, record and memory are the answer.
-- Assumes nothing.

pub returns : goal.returns
returns c = rw c.answer_of.ensures (ap answered c.run-r.ensures)
