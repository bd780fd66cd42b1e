use Rattle.shifts.proofs.Shifts.{no_place, depends}
use mathlib.Core.Path.{sym, ◌∙◌}
use borrow.Author.Rules.{rules}
use Rattle.shifts.proofs.shift_at.Goals as goal

pub returns-then-n-eq0 : goal.returns-then-n-eq0
returns-then-n-eq0 g c = rw (c.if-n-eq0.true, c.number.ensures.0) (sym (no_place _ _ _ _))

pub returns : goal.returns
returns g c =
    let k = c.kept.ensures in
    c.out_in.ensures ∙ c.shift_brief.ensures ∙ depends _ _ _ _ _ _ (search rules) k.1.0 k.1.1
