-- One word of a chain, over the modulus m of its width, with the carry or borrow c in. Assumes nothing.
use Prim.Native.Nat.{ℕ, ◌+◌, ◌-◌, ◌*◌, ◌%◌, ◌≤◌, ◌<◌}
use native.Mathlib.Nat.{mod-eq_of_lt, mod-eq-sub-mod, add-mod_left}
use native.Mathlib.Omega.{arith}
use mathlib.Core.Path.{◌≡◌, refl, ap, ◌∙◌}
use mathlib.Core.Bool.{Bool, true, false}
use lib.Dec.{leb, ltb}
use borrow.Author.Tests.{leb-true, leb-false, ltb-true, ltb-false}
use Rattle.alu.specs.Arithmetic.{bit}

pub bit_le : (k : Bool) → bit k ≤ 1
bit_le true = omega arith
bit_le false = omega arith

module _ (m a b c : ℕ) (ha : a < m) (hb : b < m) (hc : c ≤ 1) where
  -- the sum: what stays and what is carried
  wrapped : (k : Bool) → leb m (a + b + c) ≡ k → (a + b + c) % m + bit k * m ≡ a + b + c
  wrapped true e = let h = leb-true m (a + b + c) e in omega (arith, mod-eq-sub-mod h ∙ mod-eq_of_lt (omega arith))
  wrapped false e = omega (arith, mod-eq_of_lt (leb-false m (a + b + c) e))

  pub sum_word : (a + b + c) % m + bit (leb m (a + b + c)) * m ≡ a + b + c
  sum_word = wrapped (leb m (a + b + c)) refl

  -- the difference: what stays and what is borrowed
  taken : (k : Bool) → ltb a (b + c) ≡ k → (m + a - (b + c)) % m + b + c ≡ a + bit k * m
  taken true e =
      let h = ltb-true a (b + c) e in
      let r : (m + a - (b + c)) % m ≡ m + a - (b + c) = mod-eq_of_lt (omega arith) in
      omega arith
  taken false e =
      let h = ltb-false a (b + c) e in
      let s : m + a - (b + c) ≡ m + (a - (b + c)) = omega arith in
      let r : (m + a - (b + c)) % m ≡ a - (b + c) = ap (λ (x : ℕ). x % m) s ∙ add-mod_left m (a - (b + c)) ∙ mod-eq_of_lt (omega arith) in
      omega arith

  pub difference_word : (m + a - (b + c)) % m + b + c ≡ a + bit (ltb a (b + c)) * m
  difference_word = taken (ltb a (b + c)) refl
