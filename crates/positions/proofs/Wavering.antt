-- The sync program's test: (d + 1) - 3 borrows where d + 1 is 0, 1 or 2. Assumes nothing.
use Prim.Native.Nat.{ℕ, zero, suc, ◌+◌, ◌-◌, ◌*◌, ◌%◌, ◌^◌, ◌<◌}
use native.Mathlib.Omega.{arith}
use mathlib.Core.Path.{◌≡◌, sym, ap, ◌∙◌}
use mathlib.Core.Logic.{inl, inr}
use mathlib.Core.List.{List, [], ◌∷◌}
use lib.ListN.{length}
use Rattle.positions.specs.Chains.{Words, number, subtracted}
use Rattle.positions.specs.Claims.{EquallyLong, Sum, Difference, plus, Near, Wavering}
use Rattle.positions.proofs.Numbers.{weight, number_below}
use Rattle.positions.proofs.Whole.{sums, differences}

-- ---- u is d + 1

abbrev PlusOne : ℕ → ℕ → ℕ → Type 0
PlusOne x y u = u ≡ ((2 ^ 64 + x - y) % 2 ^ 64 + 1) % 2 ^ 64

near : (x y u : ℕ) → x < 2 ^ 64 → y < 2 ^ 64 → PlusOne x y u → u < 3 → Near x y
near x y zero hx hy e l = inr (inr (omega arith))
near x y (suc zero) hx hy e l = inl (omega arith)
near x y (suc (suc zero)) hx hy e l = inr (inl (omega arith))
near x y (suc (suc (suc u))) hx hy e l = absurd (omega arith)

below_three : (x y u : ℕ) → x < 2 ^ 64 → y < 2 ^ 64 → PlusOne x y u → Near x y → u < 3
below_three x y u hx hy e (inl h) = omega arith
below_three x y u hx hy e (inr (inl h)) = omega arith
below_three x y u hx hy e (inr (inr h)) = omega arith

-- ---- two words are below 2 ^ 64, and so is what they are worked on with

two_below : (xs : List ℕ) → Words 32 xs → length xs ≡ 2 → number 32 xs < 2 ^ 64
unfolding weight
two_below xs h l = rw (← ap (λ (n : ℕ). 2 ^ (32 * n)) l) (number_below 32 xs h)

with_small : (xs : List ℕ) (n : ℕ) → n < 2 ^ 32 → Words 32 xs → length xs ≡ 2 → EquallyLong 32 xs (n ∷ 0 ∷ [])
with_small xs n hn h l = record { some = omega arith; equal = l; first = h; second = (hn, (omega arith, tt)) }

pub wavering : Wavering
wavering xs ys s h l =
    let d = subtracted 32 xs ys s in
    let u = plus d (1 ∷ 0 ∷ []) in
    let D : Difference 32 xs ys d = differences 32 xs ys s h in
    let dl = D.long.equal ∙ l in
    let U : Sum 32 d.words (1 ∷ 0 ∷ []) u = sums 32 d.words (1 ∷ 0 ∷ []) d.status (with_small d.words 1 (omega arith) D.long.first dl) in
    let B = differences 32 u.words (3 ∷ 0 ∷ []) u.status (with_small u.words 3 (omega arith) U.long.first (U.long.equal ∙ dl)) in
    let e : PlusOne (number 32 xs) (number 32 ys) (number 32 u.words) =
    U.value ∙ (λ i. (D.value i + 1) % 2 ^ (32 * dl i)) ∙ ap (λ (n : ℕ). ((2 ^ (32 * n) + number 32 xs - number 32 ys) % 2 ^ (32 * n) + 1) % 2 ^ 64) l in
    let hx = two_below xs h.first l in
    let hy = two_below ys h.second (sym h.equal ∙ l) in
    (λ k. near _ _ _ hx hy e (B.borrow.0 k), λ k. B.borrow.1 (below_three _ _ _ hx hy e k))
