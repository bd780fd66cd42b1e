use lib.ListN.{length}
use Rattle.machine.specs.Paging.{entry_of}
use Rattle.machine.specs.Audit.{missing}
use Rattle.audit.proofs.Rights.{missing_of}
use mathlib.Core.Path.{sym, ap, ◌∙◌}
use Rattle.audit.proofs.strays.Goals as goal

pub returns : goal.returns
returns c = rw c.in_memory.ensures (sym (missing_of _ c.entry-e.result) ∙ ap (λ x. missing (length c.args.mem.now) (entry_of x)) c.entry-e.ensures)
