use Rattle.std.proofs.Common.{sym}
use Rattle.keptpages.proofs.held.look.Goals as goal

pub returns : goal.returns
returns c = (c.on.ensures _ (c.args.c) (c.args.w) (c.in_ok-p.ensures.1) (sym (c.in_ok-p.ensures.0)), c.keep.ensures _ (c.args.c) (c.requires.0) (rw (c.requires.1) (c.in_ok-p.ensures.1)))
