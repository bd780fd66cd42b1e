use Rattle.std.proofs.Common.{◌&&◌, eq-eqb, ne_eqb}
use Rattle.keptpages.specs.Quiet.{usable}
use Rattle.keptpages.proofs.usable.Goals as goal

pub returns-then-w : goal.returns-then-w
unfolding usable
returns-then-w c = rw (eq-eqb _ _ (c.if-c-eq3.true), c.if-w.true) (λ j. (c.passes.ensures) j && (c.passes-then-w.ensures) j)

pub returns-then-c-eq3 : goal.returns-then-c-eq3
unfolding usable
returns-then-c-eq3 c = rw (eq-eqb _ _ (c.if-c-eq3.true), c.if-w.false) (λ j. (c.passes-then-c-eq3.ensures) j && (c.passes-then-c-eq3-2.ensures) j)

pub returns : goal.returns
unfolding usable
returns c = rw (ne_eqb _ _ (c.if-c-eq3.false)) (λ j. (c.passes-2.ensures) j && (c.passes-3.ensures) j)
