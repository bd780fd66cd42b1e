use Rattle.std.proofs.Common.{refl, le-leb}
use borrow.Author.Tests.{lt-leb}
use Rattle.shortcut.proofs.modrm.left_register.Goals as goal

pub returns-then-m-ge192 : goal.returns-then-m-ge192
returns-then-m-ge192 c = rw (le-leb _ _ (c.if-m-ge192.true)) (c.taking.ensures)

pub returns-else-m-ge192 : goal.returns-else-m-ge192
returns-else-m-ge192 c = rw (lt-leb _ _ (c.if-m-ge192.false)) refl
