-- Whether one of the entries passes. Assumes nothing.
use Rattle.std.proofs.Common.{◌∙◌, refl, rules}
use Rattle.std.proofs.lemmas.Iterator.{YieldsList-from_range}
use Rattle.std.proofs.lemmas.Iterator.Search.{any_from_yields_List}
use Rattle.frames.specs.Users.{leads_at, users}
use Rattle.frames.proofs.Tables.{any_first}
use Rattle.frames.proofs.maps.is_users.Goals as goal

pub returns : goal.returns
unfolding users
returns c =
    any_from_yields_List (leads_at c.args.mem.now c.args.c c.args.f) _ _ _ c.any.ensures.ran (YieldsList-from_range 0 1024 1024 refl refl) (λ x b q k. search rules)
    ∙ any_first _ 1024
