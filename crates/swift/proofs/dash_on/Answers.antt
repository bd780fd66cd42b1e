use mathlib.Core.Path.{◌∙◌}
use Rattle.swift.proofs.Dashing.{dashed}
use Rattle.swift.proofs.dash_on.Goals as goal

pub returns : goal.returns
returns c = (c.rush-w.ensures.0, dashed _ (c.args.c) (c.rest_of-from.result) (c.rest_of-from.ensures.0) ((c.rest_of-from.ensures.1) ∙ (c.requires.1.1)) _ _ _ _ (c.rush-w.ensures.1) (c.joined-cpu.ensures))
