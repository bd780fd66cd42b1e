use Rattle.shifts.proofs.Shifts.{status_after}
use mathlib.Core.Path.{◌≡◌, ◌∙◌}
use mathlib.Core.Bool.{cond}
use lib.Dec.{eqb}
use borrow.Author.Tests.{ne_eqb}
use Rattle.alu.specs.Brief.{status_in}
use Rattle.shifts.proofs.after.Goals.{then-first, else-first}
use Rattle.shifts.proofs.after.Goals as goal

pub returns : goal.returns
returns g c =
    let x = c.args in
    let of : c.if-first.of ≡ cond (eqb x.n 1) x.one (status_in x.f).of =
    elim c.if-first.branch [ then-first w ↦ rw w.if-first.true w.of-is | else-first w ↦ rw (ne_eqb _ _ w.if-first.false) (w.of-is ∙ w.overflow-of.ensures) ] in
    let s = rw (c.adjust.ensures, of) at c.beside-flags.ensures ∙ status_after _ x.n (status_in x.f) x.r _ x.last x.one c.requires.0 c.showing.ensures in
    λ i. record { value = x.r; status = s i }
