use Rattle.blocks.proofs.Tables.{begun_none, begun_on}
use borrow.Author.Rules.{rules}
use native.Mathlib.Omega.{arith}
use Rattle.blocks.proofs.Blocks.begin.Goals as goal

pub loop-k-init : goal.loop-k-init
loop-k-init c = begun_none _ _ _ _ c.requires.1.0 c.requires.1.1 (search rules) c.self.invariant

pub loop-k-preserved : goal.loop-k-preserved
loop-k-preserved c = begun_on _ _ _ _ c.requires.1.0 c.requires.1.1 _ _ (omega arith) c.loop-k.invariant c.word.ensures

pub invariant_of-self : goal.invariant_of-self
invariant_of-self c = c.loop-k.invariant.known

pub returns : goal.returns
returns c = let b = c.loop-k.invariant in ((λ n l. b.written n (omega arith)), b.none)
