use Rattle.micro32.proofs.Runs.{run_bad}
use Rattle.micro32.specs.Told.{run_told}
use mathlib.Core.Path.{sym, ap, ◌∙◌}
use Rattle.micro32.proofs.run.Goals as goal

pub returns-then-not-sound : goal.returns-then-not-sound
returns-then-not-sound c = ap run_told (run_bad _ _ c.args.c (sym c.sound.ensures ∙ c.if-not-sound.true))

pub run_on-requires : goal.run_on-requires
run_on-requires c = sym c.sound.ensures ∙ c.if-not-sound.false
