use borrow.Author.Tests.{le-leb, lt-leb}
use Rattle.blocks.proofs.count.Goals as goal

pub returns-then-off-le16 : goal.returns-then-off-le16
returns-then-off-le16 c = rw (le-leb _ _ c.if-off-le16.true)

pub returns : goal.returns
returns c = rw (lt-leb _ _ c.if-off-le16.false)
