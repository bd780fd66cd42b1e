use Rattle.keptpages.proofs.Settling.{flat_stays}
use Rattle.std.proofs.Common.{refl, rules, eq-eqb, ne_eqb}
use Rattle.keptpages.proofs.page_of.Goals as goal

pub mapped_page-requires : goal.mapped_page-requires
mapped_page-requires c = eq-eqb _ _ c.if-c-eq1.true

pub returns : goal.returns
returns c = (refl, flat_stays _ c.args.c c.args.w c.args.l 0 (search rules) (ne_eqb _ _ c.if-c-eq1.false) c.if-mem-base.false)
