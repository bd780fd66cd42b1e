use Rattle.audit.proofs.Rights.{open_page}
use mathlib.Core.Path.{sym}
use Rattle.audit.proofs.Search.opens_at.Goals as goal

pub returns : goal.returns
returns c =
    let self = c.args.self.now in
    rw (c.get.ensures, self.flagged) (sym (open_page _ _ _ c.entry-x.result self.sized c.requires.page (rw c.requires.entry.0 at c.requires.entry.1) (rw c.requires.entry.0 at c.entry-x.ensures)))
