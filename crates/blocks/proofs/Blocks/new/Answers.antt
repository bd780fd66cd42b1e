use Rattle.blocks.proofs.Fresh.{fresh}
use Rattle.blocks.proofs.Blocks.new.Goals as goal

pub invariant_of-result : goal.invariant_of-result
invariant_of-result c = fresh
