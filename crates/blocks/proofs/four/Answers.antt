use Prim.Native.Nat.{◌+◌, ◌*◌}
use lib.ListN.{get_or}
use Rattle.std.proofs.Common.{refl, rules, tests, arith}
use Rattle.std.proofs.lemmas.Iterator.{cases_from_all, YieldsList-from_range}
use Rattle.blocks.specs.Blocks.{Digits}
use Rattle.blocks.proofs.Keys.{written}
use Rattle.blocks.proofs.four.Goals as goal

pub returns : goal.returns
returns c =
    let a = c.args in
    written a.mem.now a.i a.g.now a.s c.all.result
    (cases_from_all _ _ _ (λ k. Digits a.mem.now (a.i + 8 * k) (get_or a.g.now (a.s + k) 0)) (λ _. Unit {0}) c.all.ensures.ran (YieldsList-from_range 0 4 4 refl refl)
    (λ x q k. (search rules, λ l h. grind (arith, tests))) (λ x q k. tt))
