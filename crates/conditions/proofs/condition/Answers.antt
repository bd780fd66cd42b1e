use mathlib.Core.Path.{sym, ◌∙◌}
use mathlib.Core.Bool.{false}
use mathlib.Core.List.{List, [], ◌∷◌}
use Prim.Native.Nat.{ℕ}
use lib.ListN.{get_or-eq_default}
use Rattle.conditions.specs.Conditions.{holds, conditions}
use Rattle.conditions.proofs.Rows.{rule}
use Rattle.conditions.proofs.condition.Goals as goal

rows : List ℕ
rows = 1 ∷ 65 ∷ 2 ∷ 66 ∷ 4 ∷ 68 ∷ 6 ∷ 70 ∷ 8 ∷ 72 ∷ 16 ∷ 80 ∷ 32 ∷ 96 ∷ 36 ∷ 100 ∷ []

pub returns-then-n-lt16 : goal.returns-then-n-lt16
unfolding holds rows
returns-then-n-lt16 c = c.row_holds.ensures ∙ rule rows _ c.args.n c.args.f c.if-n-lt16.true tt

pub returns : goal.returns
unfolding holds
returns c = sym (get_or-eq_default (conditions c.args.f) false {n = c.args.n} c.if-n-lt16.false)
