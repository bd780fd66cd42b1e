use mathlib.Core.Path.{ap, ◌∙◌}
use Rattle.micro32.specs.Boundary.{answering}
use Rattle.micro32.proofs.micro32_audit.Goals as goal

-- The audit's numbered reply is the answer.
-- Assumes nothing.

pub returns : goal.returns
returns c = c.answer_of.ensures ∙ ap (λ q. answering q 0) c.audit.ensures
