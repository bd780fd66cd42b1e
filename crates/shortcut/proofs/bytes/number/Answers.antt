use Rattle.std.proofs.Common.{refl, ◌∙◌}
use Rattle.shortcut.proofs.bytes.number.Goals as goal

pub returns-then-long : goal.returns-then-long
returns-then-long c = rw c.if-long.true c.dword.ensures

pub returns : goal.returns
returns c = rw c.if-long.false (c.extend.ensures ∙ rw c.byte.ensures.0 refl)
