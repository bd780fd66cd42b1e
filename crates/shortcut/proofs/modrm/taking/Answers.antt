use Rattle.std.proofs.Common.{sym, ◌∙◌}
use Rattle.shortcut.proofs.modrm.taking.Goals as goal

pub returns-then-writes : goal.returns-then-writes
returns-then-writes c = rw (sym (c.writes.ensures) ∙ c.if-writes.true)

pub returns-else-writes : goal.returns-else-writes
returns-else-writes c = rw (sym (c.writes.ensures) ∙ c.if-writes.false)
