use Rattle.audit.proofs.Rights.{closed}
use Rattle.audit.proofs.First.{skip, searched}
use Rattle.machine.specs.Audit.{exposed}
use Rattle.std.proofs.lemmas.Iterator.{first_from_Range}
use Rattle.std.proofs.Common.{rules, tests}
use Prim.Native.Nat.{ℕ, ◌%◌}
use native.Mathlib.Omega.{arith}
use mathlib.Core.Bool.{true, false}
use mathlib.Core.Path.{◌≡◌, sym, ap, ◌∙◌}
use Rattle.audit.proofs.Search.open_in.Goals as goal

pub returns-then-e-ne7 : goal.returns-then-e-ne7
returns-then-e-ne7 c = sym (skip _ _ _ c.requires.before (λ i h l. closed _ _ c.args.d i (λ q. c.if-e-ne7.true (ap (λ (x : ℕ). x % 8) c.entry-e.ensures ∙ q)) (omega arith)))

pub returns : goal.returns
returns c =
    let p = exposed c.args.self.now.mem.now c.args.self.now.control in
    searched p _ _ _ c.requires.before
    (first_from_Range _ _ _ _ (λ i. p i ≡ true) (λ i. p i ≡ false) c.find.ensures.ran (λ x q k. search (rules, tests)) (λ x q k. search (rules, tests)))
