-- The carries of an operation: those into its places are where the operands and the result, XORed, have a 1. Assumes nothing.
use Prim.Native.Nat.{ℕ, suc, ◌+◌, ◌-◌, ◌*◌, ◌/◌, ◌%◌, ◌^◌, ◌≤◌, ◌<◌}
use native.Mathlib.Omega.{arith}
use native.Mathlib.Nat.{div-eq_of_lt, div-eq_of_lt-le, pow-suc}
use mathlib.Core.Path.{◌≡◌, refl, sym, ◌∙◌}
use mathlib.Core.Bool.{Bool, true, false, not, beq}
use lib.Dec.{ltb, leb, eqb}
use lib.Bits.{bit_xor, bit_and, xor_shr, xor_add_and, xor_lt, xor_mod}
use borrow.Author.Tests.{leb-true, leb-false, eqb-true, eqb-false}
use Rattle.alu.specs.Arithmetic.{bit}
use Rattle.alu.proofs.Laws.{into_top, leb_same, bit_le}

-- ---- one place

xor_place : (k a b : ℕ) → bit_xor a b / 2 ^ k % 2 ≡ (a / 2 ^ k + b / 2 ^ k) % 2
xor_place k a b = rw (xor_shr a b k) (odd (bit_xor (a / 2 ^ k) (b / 2 ^ k)) _ _ (bit_and (a / 2 ^ k) (b / 2 ^ k)) (xor_add_and (a / 2 ^ k) (b / 2 ^ k)))
  where
    odd : (x m n y : ℕ) → x + y * 2 ≡ m + n → x % 2 ≡ (m + n) % 2
    odd x m n y h = omega arith

place_of_three : (k a b r : ℕ) → bit_xor (bit_xor a b) r / 2 ^ k % 2 ≡ (a / 2 ^ k + b / 2 ^ k + r / 2 ^ k) % 2
place_of_three k a b r = xor_place k (bit_xor a b) r ∙ odd _ _ _ _ (xor_place k a b)
  where
    odd : (x m n y : ℕ) → x % 2 ≡ (m + n) % 2 → (x + y) % 2 ≡ (m + n + y) % 2
    odd x m n y h = omega arith

-- ---- a flag as a number

pub read_bit : (c : Bool) → eqb (bit c % 2) 1 ≡ c
read_bit true = refl
read_bit false = refl

as_bit : (n : ℕ) → n % 2 ≡ bit (eqb (n % 2) 1)
as_bit n = by (eqb (n % 2) 1) refl
  where
    by : (v : Bool) → eqb (n % 2) 1 ≡ v → n % 2 ≡ bit (eqb (n % 2) 1)
    by true e = rw e (eqb-true (n % 2) 1 e)
    by false e = rw e (omega (arith, eqb-false (n % 2) 1 e))

xor_bit : (p q : Bool) → bit_xor (bit p) (bit q) ≡ bit (not (beq p q))
xor_bit true true = refl
xor_bit true false = refl
xor_bit false true = refl
xor_bit false false = refl

-- what a number below 2 m carries beyond m
out_of : (m t : ℕ) → t < m + m → t / m ≡ bit (leb m t)
out_of m t h = by (leb m t) refl
  where
    by : (v : Bool) → leb m t ≡ v → t / m ≡ bit (leb m t)
    by true e = rw e (div-eq_of_lt-le m (omega (arith, leb-true)) (omega arith))
    by false e = rw e (div-eq_of_lt (omega (arith, leb-false)))

pub read_out : (m t : ℕ) → t < m + m → eqb (t / m % 2) 1 ≡ leb m t
read_out m t h = rw (out_of m t h) (read_bit (leb m t))

-- ---- the top place

-- below 2 ^ (k + 1)
abbrev Fits : ℕ → ℕ → Type 0
Fits k a = a < 2 ^ k + 2 ^ k

xor_fits : (k a b : ℕ) → Fits k a → Fits k b → Fits k (bit_xor a b)
xor_fits k a b ha hb = omega (arith, xor_lt (suc k) a b (omega (arith, pow-suc 2 k)) (omega (arith, pow-suc 2 k)), pow-suc 2 k)

top_xor : (k a b : ℕ) → Fits k a → Fits k b → leb (2 ^ k) (bit_xor a b) ≡ not (beq (leb (2 ^ k) a) (leb (2 ^ k) b))
top_xor k a b ha hb =
    sym (read_out (2 ^ k) (bit_xor a b) (xor_fits k a b ha hb))
    ∙ rw (xor_shr a b k, out_of (2 ^ k) a ha, out_of (2 ^ k) b hb, xor_bit (leb (2 ^ k) a) (leb (2 ^ k) b)) (read_bit (not (beq (leb (2 ^ k) a) (leb (2 ^ k) b))))

pub top_of_three : (k a b r : ℕ) → Fits k a → Fits k b → Fits k r → leb (2 ^ k) (bit_xor (bit_xor a b) r) ≡ into_top (leb (2 ^ k) a) (leb (2 ^ k) b) (leb (2 ^ k) r)
top_of_three k a b r ha hb hr =
    top_xor k (bit_xor a b) r (xor_fits k a b ha hb) hr ∙ (λ i. not (beq (top_xor k a b ha hb i) (leb (2 ^ k) r)))

-- ---- AF: the carry into place 4, of results that are right modulo 32

pub add_af : (a b c r q : ℕ) → c ≤ 1 → a + b + c ≡ r + 32 * q → eqb (bit_xor (bit_xor a b) r / 16 % 2) 1 ≡ leb 16 (a % 16 + b % 16 + c)
add_af a b c r q hc h =
    rw (place_of_three 4 a b r, place a b c r q hc h) (read_out 16 (a % 16 + b % 16 + c) (omega arith))
  where
    place : (a b c r q : ℕ) → c ≤ 1 → a + b + c ≡ r + 32 * q → (a / 16 + b / 16 + r / 16) % 2 ≡ (a % 16 + b % 16 + c) / 16 % 2
    place a b c r q hc h = omega arith

pub sub_af : (a b c r q : ℕ) → c ≤ 1 → r + (b + c) ≡ a + 32 * q → eqb (bit_xor (bit_xor a b) r / 16 % 2) 1 ≡ ltb (a % 16) (b % 16 + c)
sub_af a b c r q hc h =
    let d = b % 16 + c + 15 - a % 16 in
    rw (place_of_three 4 a b r, odd (a / 16) (b / 16) (r / 16) (d / 16) q (borrow a b c r q d hc h (omega arith))) (read_out 16 d (omega arith))
    ∙ leb_same 16 d (suc (a % 16)) (b % 16 + c) (omega arith)
  where
    borrow : (a b c r q d : ℕ) → c ≤ 1 → r + (b + c) ≡ a + 32 * q → d + a % 16 ≡ b % 16 + c + 15 → r / 16 + b / 16 + d / 16 ≡ a / 16 + 2 * q
    borrow a b c r q d hc h e = omega arith

    odd : (x y z d q : ℕ) → z + y + d ≡ x + 2 * q → (x + y + z) % 2 ≡ d % 2
    odd x y z d q h = omega arith

-- ---- CF put back: the carry into the top place changes where CF does, and so OF does not

pub kept_place : (n x : ℕ) → bit_xor n (x % 2 * 2147483648) / 16 % 2 ≡ n / 16 % 2
kept_place n x = xor_place 4 n (x % 2 * 2147483648) ∙ even (n / 16) x
  where
    even : (m x : ℕ) → (m + x % 2 * 2147483648 / 16) % 2 ≡ m % 2
    even m x = omega arith

flips : (t p q : Bool) → not (beq (not (beq t (not (beq p q)))) p) ≡ not (beq t q)
flips true true true = refl
flips true true false = refl
flips true false true = refl
flips true false false = refl
flips false true true = refl
flips false true false = refl
flips false false true = refl
flips false false false = refl

top_bit : (v : Bool) → leb 2147483648 (bit v * 2147483648) ≡ v
top_bit true = refl
top_bit false = refl

pub kept_top : (n f g : ℕ) → n < 4294967296
    → not (beq (leb 2147483648 (bit_xor n (bit_xor f g % 2 * 2147483648))) (eqb (f % 2) 1)) ≡ not (beq (leb 2147483648 n) (eqb (g % 2) 1))
kept_top n f g h =
    let p = eqb (f % 2) 1 in
    let q = eqb (g % 2) 1 in
    let v = not (beq p q) in
    let e : bit_xor f g % 2 ≡ bit v = xor_mod f g 1 ∙ (λ i. bit_xor (as_bit f i) (as_bit g i)) ∙ xor_bit p q in
    rw (e, top_xor 31 n (bit v * 2147483648) h (omega (arith, bit_le v)), top_bit v) (flips (leb 2147483648 n) p q)
