use Rattle.std.proofs.Common.{sym, refl, ◌∙◌, le-leb}
use borrow.Author.Tests.{lt-leb}
use Rattle.shortcut.proofs.modrm.left_access.Goals as goal

pub returns-then-m-ge192 : goal.returns-then-m-ge192
returns-then-m-ge192 c = rw (le-leb _ _ c.if-m-ge192.true) refl

pub returns-then-writes : goal.returns-then-writes
returns-then-writes c = rw (lt-leb _ _ c.if-m-ge192.false, sym c.writes.ensures ∙ c.if-writes.true) refl

pub returns-else-writes : goal.returns-else-writes
returns-else-writes c = rw (lt-leb _ _ c.if-m-ge192.false, sym c.writes.ensures ∙ c.if-writes.false) refl
