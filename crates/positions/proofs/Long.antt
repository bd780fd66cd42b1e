-- A chain word by word, and so as a whole: its words, and the carry or borrow out of the top one. Assumes nothing.
use Prim.Native.Nat.{ℕ, suc, ◌+◌, ◌*◌, ◌^◌, ◌<◌}
use native.Mathlib.Nat.{mod-lt, mul-zero}
use native.Mathlib.Omega.{arith}
use mathlib.Core.Path.{◌≡◌, refl, sym, ap}
use mathlib.Core.List.{List, [], ◌∷◌}
use lib.ListN.{length}
use lib.Pow.{pow_pos}
use Rattle.alu.specs.declared.Status.{Status}
use Rattle.alu.specs.Arithmetic.{bit, operation, sum_status, difference_status}
use Rattle.positions.specs.Chains.{Words, number, Instruction, adc, sbb, all}
use Rattle.positions.proofs.Numbers.{weight, weight_suc, longer}
use Rattle.positions.proofs.Links.{bit_le, sum_word, difference_word}

-- ---- as many words as before, and each of them a word

pub all_length : (f : Instruction) (xs ys : List ℕ) (s : Status) → length xs ≡ length ys → length (all f xs ys s).words ≡ length xs
all_length f [] ys s e = refl
all_length f (x ∷ xs) [] s e = absurd (omega arith)
all_length f (x ∷ xs) (y ∷ ys) s e = ap suc (all_length f xs ys _ (omega arith))

all_words : (w : ℕ) (f : Instruction) → ((x y : ℕ) (s : Status) → (f x y s).value < 2 ^ w) → (xs ys : List ℕ) (s : Status) → Words w (all f xs ys s).words
all_words w f h [] ys s = tt
all_words w f h (x ∷ xs) [] s = tt
all_words w f h (x ∷ xs) (y ∷ ys) s = (h x y s, all_words w f h xs ys _)

pub sums_words : (w : ℕ) (xs ys : List ℕ) (s : Status) → Words w (all (adc w) xs ys s).words
unfolding operation
sums_words w = all_words w (adc w) (λ x y s. mod-lt _ (pow_pos w))

pub differences_words : (w : ℕ) (xs ys : List ℕ) (s : Status) → Words w (all (sbb w) xs ys s).words
unfolding operation
differences_words w = all_words w (sbb w) (λ x y s. mod-lt _ (pow_pos w))

-- ---- the whole

no_words : (w c : ℕ) → c * weight w 0 ≡ c
unfolding weight
no_words w c = rw mul-zero (omega arith)

pub sums_whole : (w : ℕ) (xs ys : List ℕ) (s : Status) → length xs ≡ length ys → Words w xs → Words w ys
    → number w xs + number w ys + bit s.cf ≡ number w (all (adc w) xs ys s).words + bit (all (adc w) xs ys s).status.cf * weight w (length xs)
unfolding operation sum_status
sums_whole w [] [] s e hx hy = omega (arith, no_words w (bit s.cf))
sums_whole w [] (y ∷ ys) s e hx hy = absurd (omega arith)
sums_whole w (x ∷ xs) [] s e hx hy = absurd (omega arith)
sums_whole w (x ∷ xs) (y ∷ ys) s e hx hy =
    let word = sum_word (2 ^ w) x y (bit s.cf) hx.0 hy.0 (bit_le s.cf) in
    let above = sums_whole w xs ys (adc w x y s).status (omega arith) hx.1 hy.1 in
    rw (weight_suc w (length xs)) (longer (2 ^ w) x y (bit s.cf) _ _ _ _ _ _ (weight w (length xs)) (sym word) above)

-- what is left and the second number are the first number, k of the next word borrowed
pub differences_whole : (w : ℕ) (xs ys : List ℕ) (s : Status) → length xs ≡ length ys → Words w xs → Words w ys
    → number w (all (sbb w) xs ys s).words + number w ys + bit s.cf ≡ number w xs + bit (all (sbb w) xs ys s).status.cf * weight w (length xs)
unfolding operation difference_status
differences_whole w [] [] s e hx hy = omega (arith, no_words w (bit s.cf))
differences_whole w [] (y ∷ ys) s e hx hy = absurd (omega arith)
differences_whole w (x ∷ xs) [] s e hx hy = absurd (omega arith)
differences_whole w (x ∷ xs) (y ∷ ys) s e hx hy =
    let word = difference_word (2 ^ w) x y (bit s.cf) hx.0 hy.0 (bit_le s.cf) in
    let above = differences_whole w xs ys (sbb w x y s).status (omega arith) hx.1 hy.1 in
    rw (weight_suc w (length xs)) (longer (2 ^ w) _ y (bit s.cf) x _ _ _ _ _ (weight w (length xs)) word above)
