-- A loop that looks for the lowest number which passes: it goes one further, skips a stretch, or stops at what it found.
-- Assumes nothing.
use Prim.Native.Nat.{ℕ, ◌+◌, ◌<◌, ◌≤◌}
use mathlib.Core.Path.{◌≡◌, refl, sym, ap, ◌∙◌}
use mathlib.Core.Bool.{Bool, true, false, true≢false}
use mathlib.Core.Option.{Option, none, some}
use Rattle.std.specs.Prelude as program
use native.Mathlib.Omega.{arith}
use native.Mathlib.Numerals.{add-one}
use native.Mathlib.Decide.{dec_lt}
use Rattle.machine.specs.Audit.{first}
use Rattle.audit.specs.Searched.{found_of}
use Rattle.isolation.specs.Answers.{Lowest}
use Rattle.isolation.proofs.Audited.{first_none, first_some, all_none}

module _ (p : ℕ → Bool) where
  pub start : first p 0 ≡ none
  unfolding first
  start = refl

  pub next : (n : ℕ) → first p n ≡ none → p n ≡ false → first p (n + 1) ≡ none
  unfolding first
  next n e h = rw (add-one n, e, h)

  pub skip : (n k : ℕ) → first p n ≡ none → ((i : ℕ) → n ≤ i → i < k → p i ≡ false) → first p k ≡ none
  skip n k e h = all_none p k below
    where
      below : (i : ℕ) → i < k → p i ≡ false
      below i l = by (dec_lt i n)
        where
          by : Dec (i < n) → p i ≡ false
          by (yes s) = first_none p n e i s
          by (no s) = h i (omega arith) l

  pub hit : (n k : ℕ) → first p n ≡ none → p n ≡ true → n < k → first p k ≡ some n
  hit n k e h l = by (first p k) refl
    where
      same : (j : ℕ) → Lowest p k j → Dec (j < n) → Dec (n < j) → j ≡ n
      same j w (yes s) b = absurd (true≢false (sym w.passes ∙ first_none p n e j s))
      same j w (no s) (yes b) = absurd (true≢false (sym h ∙ w.before n b))
      same j w (no s) (no b) = omega arith

      by : (o : Option ℕ) → first p k ≡ o → o ≡ some n
      by none q = absurd (true≢false (sym h ∙ first_none p k q n l))
      by (some j) q = ap some (same j (first_some p k j q) (dec_lt j n) (dec_lt n j))

  pub small : (k i : ℕ) → some i ≡ first p k → i < k
  small k i e = (first_some p k i (sym e)).small

  -- what was found stays the lowest
  pub stays : (n k i : ℕ) → some i ≡ first p n → n ≤ k → some i ≡ first p k
  stays n k i e l =
      let w : Lowest p n i = first_some p n i (sym e) in
      sym (hit i k (all_none p i w.before) w.passes (omega (arith, w.small)))

  -- what a search over the numbers from a up to b finds, where none below a passes
  pub searched : (a b : ℕ) (r : program.Option ℕ) → first p a ≡ none
      → program.MatchOption r ((k : ℕ) → a ≤ k → k < b → p k ≡ false) (λ i. (a ≤ i) × (i < b) × (p i ≡ true) × ((k : ℕ) → a ≤ k → k < i → p k ≡ false))
      → found_of r ≡ first p b
  searched a b program.None e h = sym (skip a b e h)
  searched a b (program.Some i) e h = sym (hit i b (skip a i e h.3) h.2 h.1)
