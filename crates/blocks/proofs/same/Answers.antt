use Rattle.blocks.proofs.Keys.{keyed_short, keyed_whole, joined}
use mathlib.Core.Bool.{false≢true}
use Rattle.blocks.proofs.same.Goals as goal

pub returns-then-not-four : goal.returns-then-not-four
returns-then-not-four c = λ e. absurd (false≢true e)

pub returns-then-g-s-lt32 : goal.returns-then-g-s-lt32
returns-then-g-s-lt32 c = λ _. let a = c.args in keyed_short a.mem.now a.i a.g.now a.s c.if-g-s-lt32.true (c.four.ensures (c.if-not-four.false))

pub returns : goal.returns
returns c = λ e. let a = c.args in keyed_whole a.mem.now a.i a.g.now a.s (joined a.mem.now a.i a.g.now a.s (c.four.ensures (c.if-not-four.false)) (c.four-2.ensures e))
