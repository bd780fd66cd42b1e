use Rattle.products.proofs.Bounds.{number_zero}
use borrow.Author.Rules.{rules}
use Rattle.products.proofs.number.Goals as goal

pub returns-then-m-eq0 : goal.returns-then-m-eq0
returns-then-m-eq0 c = rw c.if-m-eq0.true (number_zero c.args.top c.args.negative, search rules)
