use Rattle.blocks.proofs.Numbers.{packed}
use borrow.Author.Rules.{rules}
use Rattle.blocks.proofs.pack.Goals as goal

pub returns : goal.returns
returns c = packed _ _ (c.requires) (search rules)
