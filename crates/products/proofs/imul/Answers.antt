use Rattle.alu.proofs.Words.{half, tops, low_number}
use mathlib.Core.Path.{◌∙◌}
use Rattle.products.proofs.Bounds.{square, squares}
use Rattle.products.specs.Products.{product}
use Rattle.products.proofs.imul.Goals as goal

pub returns : goal.returns
unfolding product
returns g c =
    let w = g.W.Word.wide in
    let n = c.VALUES-top.ensures ∙ g.met.W.Word.values in
    let m = c.VALUES.ensures ∙ g.met.W.Word.values in
    let x = c.from-x.ensures ∙ c.number.ensures.0 in
    let y = c.from-y.ensures ∙ c.number-2.ensures.0 in
    let a = rw (n, half w, tops w, x) at c.magnitude.ensures.0 in
    let b = rw (n, half w, tops w, y) at c.magnitude-2.ensures.0 in
    let kept = rw (n, half w, x, y, a, b) at c.in_range-kept.ensures.0 in
    let all = rw (n, m, half w, square w, squares w, x, y, a, b) at c.number-3.ensures in
    (all.1, λ s. rw (low_number w c.number.ensures, low_number w c.number-2.ensures) (simp (all.0, kept)))
