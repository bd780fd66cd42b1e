use Rattle.machine.specs.Replies.{numbered}
use mathlib.Core.Path.{ap}
use Rattle.micro32.proofs.audit.Goals as goal

pub returns : goal.returns
returns c = ap numbered c.audit.ensures
