-- The claims for any count of words, from the chain as a whole. Assumes nothing.
use Prim.Native.Nat.{ℕ, ◌+◌, ◌-◌, ◌*◌, ◌/◌, ◌%◌, ◌^◌, ◌<◌}
use native.Mathlib.Nat.{mod-eq_of_lt, mod-lt, add-mod_left}
use native.Mathlib.Numerals.{unary_clauses}
use native.Mathlib.Omega.{arith}
use mathlib.Core.Path.{◌≡◌, refl, sym, ap, ◌∙◌}
use mathlib.Core.Bool.{Bool, true, false, false≢true}
use mathlib.Core.Logic.{◌↔◌}
use mathlib.Core.List.{List, [], ◌∷◌}
use lib.ListN.{length}
use lib.Dec.{leb}
use lib.Pow.{high, low}
use Rattle.alu.specs.declared.Status.{Status}
use Rattle.alu.specs.Arithmetic.{bit, operation}
use Rattle.positions.specs.Chains.{Words, number, Instruction, add, adc, sub, sbb, before, all, chain, added, subtracted}
use Rattle.positions.specs.Claims.{EquallyLong, Sums, Differences, Restored}
use Rattle.positions.proofs.Numbers.{weight, number_below, one_answer}
use Rattle.positions.proofs.Links.{sum_word}
use Rattle.positions.proofs.Long.{all_length, sums_words, differences_words, sums_whole, differences_whole}

-- ---- ADD is ADC without a carry, SUB is SBB without a borrow

abbrev clear : Status
clear = record { cf = false; pf = false; af = false; zf = false; sf = false; of = false }

module _ (w : ℕ) (xs ys : List ℕ) (h : EquallyLong w xs ys) where
  as_long : (f : Instruction) → Words w (all f xs ys clear).words → EquallyLong w (all f xs ys clear).words xs
  as_long f hw = let e = all_length f xs ys clear h.equal in record { some = omega (arith, e, h.some); equal = e; first = hw; second = h.first }

  second_below : number w ys < weight w (length xs)
  second_below = rw h.equal (number_below w ys h.second)

as_all : (w : ℕ) (f g : Instruction) (xs ys : List ℕ) (s : Status) → EquallyLong w xs ys → ((x y : ℕ) → f x y s ≡ g x y clear)
    → chain f g xs ys s ≡ all g xs ys clear
as_all w f g [] ys s h e = absurd (omega (arith, h.some))
as_all w f g (x ∷ xs) [] s h e = absurd (omega (arith, h.equal))
as_all w f g (x ∷ xs) (y ∷ ys) s h e = λ i. before (e x y i) (all g xs ys (e x y i).status)

added_all : (w : ℕ) (xs ys : List ℕ) (s : Status) → EquallyLong w xs ys → added w xs ys s ≡ all (adc w) xs ys clear
unfolding operation
added_all w xs ys s h = as_all w (add w) (adc w) xs ys s h (λ x y. refl)

subtracted_all : (w : ℕ) (xs ys : List ℕ) (s : Status) → EquallyLong w xs ys → subtracted w xs ys s ≡ all (sbb w) xs ys clear
unfolding operation
subtracted_all w xs ys s h = as_all w (sub w) (sbb w) xs ys s h (λ x y. refl)

-- ---- a sum r below 2 ^ p, with the carry k

sum_law : (p x y r k : ℕ) → r < 2 ^ p → x + y + 0 ≡ r + k * 2 ^ p → (r ≡ (x + y) % 2 ^ p) × (k ≡ (x + y) / 2 ^ p)
sum_law p x y r k hr h =
    let e : x + y ≡ k * 2 ^ p + r = omega arith in
    (sym (ap (λ (n : ℕ). n % 2 ^ p) e ∙ low k p hr), sym (ap (λ (n : ℕ). n / 2 ^ p) e ∙ high k p hr))

pub sums : Sums
unfolding weight
sums w xs ys s h =
    let r = all (adc w) xs ys clear in
    let long = as_long w xs ys h (adc w) (sums_words w xs ys clear) in
    let below : number w r.words < 2 ^ (w * length xs) = rw (← long.equal) (number_below w r.words long.first) in
    let whole = sums_whole w xs ys clear h.equal h.first h.second in
    let law = sum_law (w * length xs) (number w xs) (number w ys) (number w r.words) (bit r.status.cf) below whole in
    rw (added_all w xs ys s h) (record { long = long; value = law.0; carry = law.1 })

-- ---- a difference r, with the borrow k, all below m

module _ (m x y r : ℕ) (hx : x < m) (hy : y < m) (hr : r < m) where
  difference_law : (k : Bool) → r + y + 0 ≡ x + bit k * m → (r ≡ (m + x - y) % m) × ((k ≡ true) ↔ (x < y))
  difference_law true h =
      let e : m + x - y ≡ r = omega arith in
      (sym (ap (λ (n : ℕ). n % m) e ∙ mod-eq_of_lt hr), (λ t. omega arith, λ l. refl))
  difference_law false h =
      let e : m + x - y ≡ m + r = omega arith in
      (sym (ap (λ (n : ℕ). n % m) e ∙ add-mod_left m r ∙ mod-eq_of_lt hr), (λ t. absurd (false≢true t), λ l. absurd (omega arith)))

pub differences : Differences
unfolding weight
differences w xs ys s h =
    let r = all (sbb w) xs ys clear in
    let long = as_long w xs ys h (sbb w) (differences_words w xs ys clear) in
    let below : number w r.words < 2 ^ (w * length xs) = rw (← long.equal) (number_below w r.words long.first) in
    let whole = differences_whole w xs ys clear h.equal h.first h.second in
    let law = difference_law (2 ^ (w * length xs)) (number w xs) (number w ys) (number w r.words) (number_below w xs h.first) (second_below w xs ys h) below r.status.cf whole in
    rw (subtracted_all w xs ys s h) (record { long = long; value = law.0; borrow = law.1 })

-- ---- what was added is taken away

back : (m x y : ℕ) → x < m → y < m → (m + (x + y) % m - y) % m ≡ x
back m x y hx hy =
    let h : (x + y) % m + bit (leb m (x + y)) * m ≡ x + y = simp unary_clauses at (sum_word m x y 0 hx hy (omega arith)) in
    sym (difference_law m ((x + y) % m) y x (mod-lt (x + y) (omega arith)) hy hx (leb m (x + y)) (omega (arith, h))).0

pub restored : Restored
unfolding weight
restored w xs ys s t h =
    let a = sums w xs ys s h in
    let d = differences w (added w xs ys s).words ys t
    (record { some = a.long.some; equal = a.long.equal ∙ h.equal; first = a.long.first; second = h.second }) in
    one_answer w (subtracted w (added w xs ys s).words ys t).words xs
    (record { some = d.long.some; equal = d.long.equal ∙ a.long.equal; first = d.long.first; second = h.first })
    (d.value ∙ rw (a.long.equal, a.value) (back _ (number w xs) (number w ys) (number_below w xs h.first) (second_below w xs ys h)))
