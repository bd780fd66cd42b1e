use Rattle.machine.specs.Paging.{entry_of}
use Rattle.machine.specs.Audit.{names}
use Rattle.frames.proofs.Tables.{names_of}
use Rattle.std.proofs.Common.{sym, ap, ◌∙◌}
use Rattle.frames.proofs.maps.names_at.Goals as goal

-- An entry of the directory read and its frame compared, as the definition does. Assumes nothing.

pub returns : goal.returns
returns c = sym (names_of c.args.f c.entry-e.result) ∙ ap (λ x. names c.args.f (entry_of x)) c.entry-e.ensures
