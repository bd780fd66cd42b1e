use Rattle.alu.proofs.Words.{half, tops}
use borrow.Author.Tests.{ne_eqb}
use mathlib.Core.Path.{sym, ◌∙◌}
use Rattle.products.proofs.Bounds.{square, squares}
use Rattle.products.proofs.idiv.Goals as goal

pub returns-then-not-in_range : goal.returns-then-not-in_range
returns-then-not-in_range g c =
    let w = g.W.Word.wide in
    let v = g.met.W.Word.values in
    let n = c.VALUES-top.ensures ∙ v in
    let y = c.from-y.ensures ∙ c.number.ensures.0 in
    let m = rw (n, c.VALUES.ensures ∙ v, half w, square w, squares w) at c.magnitude-m.ensures.0 in
    let e = rw (n, half w, tops w, y) at c.magnitude-e.ensures.0 in
    let fit = rw (n, c.VALUES-2.ensures ∙ v, half w, square w, y, m, e) at c.in_range.ensures.0 in
    simp (ne_eqb _ _ c.requires.0, sym fit ∙ c.if-not-in_range.true)

pub returns : goal.returns
returns g c =
    let w = g.W.Word.wide in
    let v = g.met.W.Word.values in
    let n = c.VALUES-top.ensures ∙ v in
    let y = c.from-y.ensures ∙ c.number.ensures.0 in
    let m = rw (n, c.VALUES.ensures ∙ v, half w, square w, squares w) at c.magnitude-m.ensures.0 in
    let e = rw (n, half w, tops w, y) at c.magnitude-e.ensures.0 in
    let fit = rw (n, c.VALUES-2.ensures ∙ v, half w, square w, y, m, e) at c.in_range.ensures.0 in
    let q = rw (n, c.VALUES-2.ensures ∙ v, half w, square w, tops w, y, m, e) at c.number-2.ensures.0 in
    let r = rw (n, c.VALUES-2.ensures ∙ v, half w, square w, tops w, m, e) at c.number-rest.ensures.0 in
    simp (q, r, ne_eqb _ _ c.requires.0, sym fit ∙ c.if-not-in_range.false)
