-- The flags of sums, differences and logic at either width, by what the dwords of a brief show.
-- Assumes nothing.
use Prim.Native.Nat.{ℕ, ◌+◌, ◌-◌, ◌*◌, ◌/◌, ◌%◌, ◌^◌, ◌<◌, ◌≤◌}
use native.Mathlib.Omega.{arith}
use Rattle.std.proofs.Math.Nat.{mod-lt, mod-mod, mod-eq_of_lt, mod-add-div', mul_left_comm}
use mathlib.Core.Path.{◌≡◌, refl, sym, ap, ◌∙◌}
use Rattle.std.specs.Int.{from_bool}
use mathlib.Core.Bool.{Bool, true, false, not, beq}
use lib.Bits.{bit_xor, xor_lt}
use lib.Dec.{ltb, leb, eqb}
use borrow.Author.Tests.{ltb-true, ltb-false}
use Rattle.alu.proofs.Laws.{mod_once, add_of, sub_of}
use Rattle.alu.proofs.Carries.{read_bit, read_out, add_af, sub_af, top_of_three}
use Rattle.alu.specs.declared.brief.Brief.{Brief}
use Rattle.alu.specs.Arithmetic.{bit, bits, top, low, parity, is_zero, sign, sum, sum_value, sum_status, difference, difference_value, difference_status}
use Rattle.alu.specs.Brief.{carry_out, status_in, out_in}
use Rattle.alu.specs.Word.{CarriesAlike, ShowsAlike}

-- what holds of both widths
pub at_widths : (P : ℕ → Type 0) → P 8 → P 32 → (wide : Bool) → P (bits wide)
at_widths P p q true = q
at_widths P p q false = p

-- ---- the weight of the top bit

pub half : (wide : Bool) → 2 ^ bits wide / 2 ≡ top (bits wide)
half true = refl
half false = refl

pub tops : (wide : Bool) → top (bits wide) + top (bits wide) ≡ 2 ^ bits wide
tops true = refl
tops false = refl

-- ---- low parts

-- the number of a word is its own low part
pub low_number : (wide : Bool) {n x : ℕ} → (n ≡ x) × (n < 2 ^ bits wide) → low wide x ≡ x
low_number wide h = rw (← h.0) (mod-eq_of_lt h.1)

pub low_low : (wide : Bool) (x : ℕ) → low wide (low wide x) ≡ low wide x
low_low wide x = mod-mod x (2 ^ bits wide)

-- ---- flags

pub bit_is : (c : Bool) → from_bool c ≡ bit c
bit_is true = refl
bit_is false = refl

-- the flags of an operation whose carries into its places are those of m
shows : (w : ℕ) (f : Brief) (cf : Bool) (m r : ℕ) → carry_out f ≡ cf → CarriesAlike w f.into m → ShowsAlike w f.seen r
    → status_in f ≡ record { cf = cf; pf = parity r; af = eqb (m / 16 % 2) 1; zf = is_zero r; sf = sign w r; of = not (beq (sign w m) cf) }
shows w f cf m r e c s = rw (e, c.0, c.1, s.0, s.1.0, s.1.1)

abbrev pub carries : ℕ → ℕ → ℕ → ℕ
carries a b r = bit_xor (bit_xor a b) r

abbrev pub Added : ℕ → Type 0
Added w = (a b k : ℕ) (f : Brief) → a < 2 ^ w → b < 2 ^ w → k ≤ 1 → f.out ≡ (a + b + k) / 2 ^ w → CarriesAlike w f.into (carries a b (sum_value w a b k))
    → ShowsAlike w f.seen (sum_value w a b k) → status_in f ≡ sum_status w a b k

abbrev pub Subtracted : ℕ → Type 0
Subtracted w = (a b k : ℕ) (f : Brief) → a < 2 ^ w → b < 2 ^ w → k ≤ 1 → carry_out f ≡ ltb a (b + k) → CarriesAlike w f.into (carries a b (difference_value w a b k))
    → ShowsAlike w f.seen (difference_value w a b k) → status_in f ≡ difference_status w a b k

-- the weight of the top bit, 2 ^ j, is a number of sixteens
module _ (w j q : ℕ) (ew : w - 1 ≡ j) (ep : 2 ^ w ≡ 2 ^ j + 2 ^ j) (eq : 2 ^ j ≡ 16 * q) where
  double : 2 ^ j + 2 ^ j ≡ 32 * q
  double = omega (arith, eq)

  -- what is left of t modulo 2 ^ w is right modulo 32
  whole : (t : ℕ) → t ≡ t % (2 ^ j + 2 ^ j) + 32 * (t / (2 ^ j + 2 ^ j) * q)
  whole t = sym (mod-add-div' t (2 ^ j + 2 ^ j)) ∙ ap (λ n. t % (2 ^ j + 2 ^ j) + n) (by _)
    where
      by : (n : ℕ) → n * (2 ^ j + 2 ^ j) ≡ 32 * (n * q)
      by n = (λ i. n * double i) ∙ mul_left_comm n 32 q

  added_by : Added w
  unfolding sum_status
  added_by a b k f ha hb hk eo ec es =
      let t = a + b + k in
      let H = 2 ^ j in
      let r = t % (H + H) in
      let e = shows w f (leb (2 ^ w) t) (carries a b (t % 2 ^ w)) (t % 2 ^ w) (rw eo (read_out (2 ^ w) t (omega arith))) ec es in
      let af = add_af a b k r (t / (H + H) * q) hk (whole t) in
      let top = top_of_three j a b r (rw (← ep) ha) (rw (← ep) hb) (mod-lt t (omega (arith, ep))) in
      e ∙ rw (ep, ew, af, top, add_of H a b k (rw (← ep) ha) (rw (← ep) hb) hk)

  -- and so is a difference with what it borrowed
  borrowed : (a b k : ℕ) → a < 2 ^ j + 2 ^ j → b + k ≤ 2 ^ j + 2 ^ j
      → (2 ^ j + 2 ^ j + a - (b + k)) % (2 ^ j + 2 ^ j) + (b + k) ≡ a + 32 * (bit (ltb a (b + k)) * q)
  borrowed a b k ha hb = by (ltb a (b + k)) refl
    where
      by : (v : Bool) → ltb a (b + k) ≡ v → (2 ^ j + 2 ^ j + a - (b + k)) % (2 ^ j + 2 ^ j) + (b + k) ≡ a + 32 * (bit (ltb a (b + k)) * q)
      by true e =
          let l = mod-eq_of_lt {n = 2 ^ j + 2 ^ j + a - (b + k)} {m = 2 ^ j + 2 ^ j} (omega (arith, ltb-true _ _ e)) in
          rw (e, l) (omega (arith, ltb-true _ _ e, double))
      by false e =
          let l = mod_once (2 ^ j + 2 ^ j) (2 ^ j + 2 ^ j + a - (b + k)) (omega (arith, ltb-false _ _ e)) (omega (arith, ltb-false _ _ e)) in
          rw (e, l) (omega (arith, ltb-false _ _ e))

  subtracted_by : Subtracted w
  unfolding difference_status
  subtracted_by a b k f ha hb hk eo ec es =
      let H = 2 ^ j in
      let t = H + H + a - (b + k) in
      let r = t % (H + H) in
      let e = shows w f (ltb a (b + k)) (carries a b (difference_value w a b k)) (difference_value w a b k) eo ec es in
      let af = sub_af a b k r (bit (ltb a (b + k)) * q) hk (borrowed a b k (rw (← ep) ha) (omega (arith, ep, hb))) in
      let top = top_of_three j a b r (rw (← ep) ha) (rw (← ep) hb) (mod-lt t (omega (arith, ep))) in
      e ∙ rw (ep, ew, af, top, sub_of H a b k (rw (← ep) ha) (rw (← ep) hb) hk)

pub added : (wide : Bool) → Added (bits wide)
added = at_widths Added (added_by 8 7 8 refl refl refl) (added_by 32 31 134217728 refl refl refl)

pub subtracted : (wide : Bool) → Subtracted (bits wide)
subtracted = at_widths Subtracted (subtracted_by 8 7 8 refl refl refl) (subtracted_by 32 31 134217728 refl refl refl)

module _ (wide : Bool) (x y k : ℕ) (hx : x < 2 ^ bits wide) (hy : y < 2 ^ bits wide) (hk : k ≤ 1) where
  abbrev w : ℕ
  w = bits wide

  pub sum_in : (f : Brief) → f.out ≡ (x + y + k) / 2 ^ w → CarriesAlike w f.into (carries x y (sum_value w x y k)) → ShowsAlike w f.seen (sum_value w x y k)
      → out_in (record { value = sum_value w x y k; flags = f }) ≡ sum w x y k
  sum_in f eo ec es i = record { value = sum_value w x y k; status = added wide x y k f hx hy hk eo ec es i }

  pub sum_carries : carries x y (sum_value w x y k) < 2 ^ w
  sum_carries = xor_lt w (bit_xor x y) _ (xor_lt w x y hx hy) (mod-lt (x + y + k) (omega (arith, hx)))

  pub difference_in : (f : Brief) → f.out ≡ bit (ltb x (y + k)) → CarriesAlike w f.into (carries x y (difference_value w x y k))
      → ShowsAlike w f.seen (difference_value w x y k) → out_in (record { value = difference_value w x y k; flags = f }) ≡ difference w x y k
  difference_in f eo ec es i =
      record { value = difference_value w x y k; status = subtracted wide x y k f hx hy hk (rw eo (read_bit (ltb x (y + k)))) ec es i }

  pub difference_carries : carries x y (difference_value w x y k) < 2 ^ w
  difference_carries = xor_lt w (bit_xor x y) _ (xor_lt w x y hx hy) (mod-lt (2 ^ w + x - (y + k)) (omega (arith, hx)))
