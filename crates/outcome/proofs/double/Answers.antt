use Rattle.std.proofs.Common.{true, false, set, ap, ◌∙◌}
use Rattle.alu.specs.Brief.{status_in}
use Rattle.products.specs.Products.{product}
use Rattle.outcome.proofs.double.Goals as goal

pub returns : goal.returns
returns c =
    let q = c.multiply_brief-q.ensures ∙ ap (λ z. product false true z c.args.p.x (status_in c.args.f)) c.register.ensures in
    (c.put-2.ensures ∙ ap (λ l. set l 2 c.multiply_brief-q.result.high) c.put.ensures ∙ (λ j. set (set c.args.e.now 0 (q j).low) 2 (q j).high), ap (λ z. z.status) q)
