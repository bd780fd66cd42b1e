-- Quick steps one after another are the definition's steps.
-- Assumes nothing.
use Prim.Native.Nat.{ℕ, ◌+◌, ◌-◌, ◌≤◌}
use mathlib.Core.Path.{◌≡◌, refl, sym, ap, ◌∙◌}
use mathlib.Core.Bool.{Bool, true, false, not, ◌&&◌, ◌||◌, false≢true}
use mathlib.Core.List.{List}
use native.Mathlib.Omega.{arith}
use borrow.Author.Tests.{eqb-true, leb-true}
use lib.Dec.{eqb, leb}
use Rattle.machine.specs.declared.Control.{Control}
use Rattle.machine.specs.declared.Reply.TheVariants.{Done}
use Rattle.machine.specs.Record.{Mem, has, sound, with_core}
use Rattle.machine.specs.Run.{Outcome, step, steps}
use Rattle.isolation.proofs.Ring3.{step_sound}
use Rattle.alu.specs.Brief.{status_in}
use Rattle.shortcut.specs.Shortcut.{core_from}
use Rattle.hops.specs.declared.Rest.{Rest}
use Rattle.hops.specs.declared.Swift.{Swift}
use Rattle.keptpages.specs.declared.Kept.{Kept}
use Rattle.phases.specs.Step.{micro32}
use Rattle.hops.specs.Hops.{moves, current, SwiftOk, after, RushOk}
use Rattle.hops.proofs.Onward.{went_on, no_steps}

pub rush_begun : (m : Mem) (e : List ℕ) (c : Control) (r : Rest) → RushOk m e c r 0 m e r
rush_begun m e c r d hc good = record { holds = good; went = λ b _. no_steps b m (current d e r) }

module _ (m₀ : Mem) (e₀ : List ℕ) (c : Control) (r₀ : Rest) (n : ℕ) (m : Mem) (e : List ℕ) (r : Rest) (k : RushOk m₀ e₀ c r₀ n m e r) (h : Kept) (m' : Mem) (e' d' : List ℕ) (w : Swift)
    (s : SwiftOk m e c r h m' e' d' w) where
  pub rush_on : moves w.ending ≡ true → RushOk m₀ e₀ c r₀ (n + 1) m' e' w.rest
  rush_on g d hc good =
      let l = k d hc good in
      let o : Outcome = record { reply = Done; cpu = current d e' w.rest; mem = m' } in
      let f : o ≡ step micro32 m (current d e r) = s.did g d hc l.holds in
      record {
        holds = rw (← f) at (step_sound micro32 m (current d e r) l.holds);
        went = λ b j. went_on b n _ m (current d e r) o (omega arith) (l.went b (omega arith)) f refl;
      }

  pub rush_ended : moves w.ending ≡ false → RushOk m₀ e₀ c r₀ n m' e' w.rest
  rush_ended g d hc good =
      let l = k d hc good in
      let q = s.not g in
      let f : current d e' w.rest ≡ current d e r = λ j. with_core d (core_from (q.1.0 j) (q.1.1.0 j) (status_in (q.1.1.1 j)) (has 512 d.eflags) (has 1024 d.eflags)) in
      record {
        holds = (λ j. sound (q.0 j) (f j)) ∙ l.holds;
        went = λ b j. l.went b j ∙ ap (after n) (sym (λ t. steps micro32 (b - n) (q.0 t) (f t)));
      }

-- ---- from the code's tests

pub split_test : (a b x y : ℕ) → (eqb a b && leb x y) ≡ true → (a ≡ b) × (x ≤ y)
split_test a b x y h = by (eqb a b) refl
  where
    by : (z : Bool) → eqb a b ≡ z → (a ≡ b) × (x ≤ y)
    by true e = (eqb-true _ _ e, leb-true _ _ (rw e at h))
    by false e = absurd (false≢true (rw e at h))

pub held_on : (a b : Bool) → (not a || b) ≡ false → a ≡ true
held_on true b e = refl
held_on false b e = absurd (false≢true (sym e))
