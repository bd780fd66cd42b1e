use Rattle.alu.proofs.Words.{low_number}
use Rattle.products.specs.Products.{quotient}
use mathlib.Core.Path.{◌∙◌}
use Rattle.products.proofs.divide_at.Goals as goal

pub returns-then-signed : goal.returns-then-signed
unfolding quotient
returns-then-signed g c =
    let w = g.W.Word.wide in
    let v = c.VALUES.ensures ∙ g.met.W.Word.values in
    let h = c.number-2.ensures in
    let l = c.number-3.ensures in
    rw (c.if-signed.true, low_number w h, low_number w l, low_number w c.number.ensures) (rw (v, c.from.ensures ∙ h.0, c.from-2.ensures ∙ l.0) at c.idiv.ensures)

pub returns-else-signed : goal.returns-else-signed
unfolding quotient
returns-else-signed g c =
    let w = g.W.Word.wide in
    let v = c.VALUES.ensures ∙ g.met.W.Word.values in
    let h = c.number-2.ensures in
    let l = c.number-3.ensures in
    rw (c.if-signed.false, low_number w h, low_number w l, low_number w c.number.ensures) (rw (v, c.from.ensures ∙ h.0, c.from-2.ensures ∙ l.0) at c.div.ensures)
