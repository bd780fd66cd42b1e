-- The directory itself, or whether one of the entries names the frame. Assumes nothing.
use Rattle.std.proofs.Common.{◌∙◌, refl, rules, eq-eqb}
use Rattle.std.proofs.lemmas.Iterator.{YieldsList-from_range}
use Rattle.std.proofs.lemmas.Iterator.Search.{any_from_yields_List}
use Rattle.frames.proofs.Tables.{named, directory, table}
use Rattle.frames.proofs.maps.holds_table.Goals as goal

pub returns-then-f-c : goal.returns-then-f-c
returns-then-f-c c = eq-eqb _ _ c.if-f-c.true ∙ directory _ _ _ c.if-f-c.true

pub returns-else-f-c : goal.returns-else-f-c
returns-else-f-c c =
    table _ _ _ _ c.if-f-c.false (any_from_yields_List (named c.args.mem.now c.args.c c.args.f) _ _ _ c.any.ensures.ran (YieldsList-from_range 0 1024 1024 refl refl) (λ x b q k. search rules))
