-- Words and the number that they are. Assumes nothing.
use Prim.Native.Nat.{ℕ, suc, ◌+◌, ◌*◌, ◌%◌, ◌/◌, ◌^◌, ◌<◌}
use native.Mathlib.Nat.{mul_comm, mul_left_comm, mul-add, mul-suc, mul-le-mul_left}
use native.Mathlib.Omega.{arith}
use mathlib.Core.Path.{◌≡◌, refl, sym, ap, ◌∙◌}
use mathlib.Core.List.{List, [], ◌∷◌}
use lib.ListN.{length}
use lib.Pow.{pow-add, pow_pos, high, low}
use Rattle.positions.specs.Chains.{Words, number}
use Rattle.positions.specs.Claims.{OneAnswer}

-- how many numbers n words can be
unfoldable pub weight : ℕ → ℕ → ℕ
weight w n = 2 ^ (w * n)

pub weight_suc : (w n : ℕ) → weight w (suc n) ≡ 2 ^ w * weight w n
unfolding weight
weight_suc w n = ap (λ (k : ℕ). 2 ^ k) (mul-suc w n ∙ omega arith) ∙ pow-add 2 w (w * n)

pub number_below : (w : ℕ) (xs : List ℕ) → Words w xs → number w xs < weight w (length xs)
unfolding weight
number_below w [] h = pow_pos (w * 0)
number_below w (x ∷ xs) h =
    rw (weight_suc w (length xs)) (omega (arith, h.0, mul-le-mul_left (2 ^ w) (number_below w xs h.1), mul-suc (2 ^ w) (number w xs)))

-- the lowest word, and the number of the others, by the number
lowest : (w x n : ℕ) → x < 2 ^ w → (x + 2 ^ w * n) % 2 ^ w ≡ x
lowest w x n h = ap (λ (k : ℕ). k % 2 ^ w) (omega (arith, mul_comm n (2 ^ w))) ∙ low n w h

others : (w x n : ℕ) → x < 2 ^ w → (x + 2 ^ w * n) / 2 ^ w ≡ n
others w x n h = ap (λ (k : ℕ). k / 2 ^ w) (omega (arith, mul_comm n (2 ^ w))) ∙ high n w h

same_words : (w : ℕ) (xs ys : List ℕ) → length xs ≡ length ys → Words w xs → Words w ys → number w xs ≡ number w ys → xs ≡ ys
same_words w [] [] l hx hy e = refl
same_words w [] (y ∷ ys) l hx hy e = absurd (omega arith)
same_words w (x ∷ xs) [] l hx hy e = absurd (omega arith)
same_words w (x ∷ xs) (y ∷ ys) l hx hy e =
    let p : x ≡ y = sym (lowest w x (number w xs) hx.0) ∙ ap (λ (k : ℕ). k % 2 ^ w) e ∙ lowest w y (number w ys) hy.0 in
    let q : number w xs ≡ number w ys = sym (others w x (number w xs) hx.0) ∙ ap (λ (k : ℕ). k / 2 ^ w) e ∙ others w y (number w ys) hy.0 in
    let r = same_words w xs ys (omega arith) hx.1 hy.1 q in
    λ i. p i ∷ r i

pub one_answer : OneAnswer
one_answer w xs ys h e = same_words w xs ys h.equal h.first h.second e

-- ---- a sum of one word more: x + y + c is r, d carried; likewise all words above, k carried out of the top

pub longer : (m x y c r d X Y R k p : ℕ) → x + y + c ≡ r + d * m → X + Y + d ≡ R + k * p → x + m * X + (y + m * Y) + c ≡ r + m * R + k * (m * p)
longer m x y c r d X Y R k p g h =
    let above = simp mul-add at (ap (λ (n : ℕ). m * n) h) in
    omega (arith, above, mul_comm d m, mul_left_comm k m p)
