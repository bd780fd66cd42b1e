use Rattle.machine.specs.Audit.{audit, need}
use Rattle.audit.proofs.Answers.{whole_frames, few_frames}
use mathlib.Core.Path.{sym, ◌∙◌}
use Rattle.audit.proofs.audit.Goals as goal

pub returns-then-not-sound : goal.returns-then-not-sound
unfolding audit need
returns-then-not-sound c = rw (sym c.sound.ensures ∙ c.if-not-sound.true)

pub tables-requires : goal.tables-requires
tables-requires c = (whole_frames _ _ (sym c.sound.ensures ∙ c.if-not-sound.false), few_frames _ _ (sym c.sound.ensures ∙ c.if-not-sound.false))

pub returns : goal.returns
unfolding audit need
returns c = rw (sym c.sound.ensures ∙ c.if-not-sound.false) c.tables.ensures
