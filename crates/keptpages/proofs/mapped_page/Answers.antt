use Rattle.keptpages.proofs.Settling.{page_stays}
use Rattle.std.proofs.Common.{refl, sym, ◌∙◌, rules}
use Rattle.keptpages.proofs.mapped_page.Goals as goal

pub returns : goal.returns
returns c = (refl, page_stays _ c.args.c c.args.w c.args.l _ c.in_ok-e.ensures (search rules) c.requires (sym c.usable.ensures ∙ c.if-not-usable.false) c.if-mem-base.false)
