use mathlib.Core.Path.{◌≡◌}
use mathlib.Core.Bool.{true, false}
use Rattle.std.proofs.Common.{rules, tests}
use Rattle.std.proofs.lemmas.Iterator.{first_from_Range}
use Rattle.machine.specs.Audit.{outside}
use Rattle.audit.proofs.First.{start, searched}
use Rattle.audit.proofs.stray.Goals as goal

pub returns : goal.returns
returns c =
    let p = outside c.args.mem.now c.args.c in
    searched p 0 1024 _ (start p)
    (first_from_Range _ _ _ _ (λ i. p i ≡ true) (λ i. p i ≡ false) c.find.ensures.ran (λ x q k. search (rules, tests)) (λ x q k. search (rules, tests)))
