use Rattle.outcome.specs.Outcome.{deposit_of}
use Rattle.std.proofs.Common.{refl, le-ltb, lt-ltb}
use Rattle.outcome.proofs.deposit.Goals as goal

pub returns-then-p-lt8 : goal.returns-then-p-lt8
unfolding deposit_of
returns-then-p-lt8 c = rw (lt-ltb _ _ (c.if-p-lt8.true)) (c.write.ensures)

pub returns-else-p-lt8 : goal.returns-else-p-lt8
unfolding deposit_of
returns-else-p-lt8 c = rw (le-ltb _ _ (c.if-p-lt8.false)) refl
