use Rattle.std.proofs.Common.{sym, ◌∙◌}
use Rattle.shortcut.proofs.jump_if.Goals as goal

pub returns-then-holds : goal.returns-then-holds
returns-then-holds c = rw (sym c.holds.ensures ∙ c.if-holds.true) (cc)

pub returns : goal.returns
returns c = rw (sym c.holds.ensures ∙ c.if-holds.false) (cc)
