-- Which dword shows a byte's flags, and which one shows flags that are given.
-- Assumes nothing.
use Prim.Native.Nat.{ℕ, ◌+◌, ◌%◌, ◌<◌, ◌≤◌}
use native.Mathlib.Omega.{arith}
use mathlib.Core.Path.{◌≡◌, refl, sym, subst}
use mathlib.Core.Bool.{Bool, true, false, false≢true}
use lib.Count.{ones}
use lib.Dec.{ltb, leb, eqb}
use borrow.Author.Tests.{ltb-true, ltb-false, le-leb, lt-leb, ne_eqb}
use Rattle.alu.specs.declared.Status.{Status}
use Rattle.alu.specs.Arithmetic.{parity, signed_byte}
use Rattle.alu.specs.Brief.{seeing, tellable}
use Rattle.alu.specs.Word.{ShowsAlike}

-- a byte with its sign shows the byte's zero, sign and parity
pub byte_shows : (r : ℕ) → r < 256 → ShowsAlike 8 (signed_byte r) r
unfolding parity
byte_shows r h = by (ltb r 128) refl
  where
    by : (b : Bool) → ltb r 128 ≡ b → ShowsAlike 8 (signed_byte r) r
    by true e =
        let k : r < 128 = ltb-true _ _ e in
        let n : leb 2147483648 r ≡ false = lt-leb 2147483648 r (omega (arith, k)) in
        let m : leb 128 r ≡ false = lt-leb 128 r k in
        rw (e, n, m) (refl, (refl, refl))
    by false e =
        let k : 128 ≤ r = ltb-false _ _ e in
        let n : leb 2147483648 (r + 4294967040) ≡ true = le-leb 2147483648 (r + 4294967040) (omega (arith, k)) in
        let m : leb 128 r ≡ true = le-leb 128 r k in
        let z : (r + 4294967040) % 256 ≡ r % 256 = omega arith in
        let y : eqb r 0 ≡ false = ne_eqb r 0 (λ q. omega (arith, k, q)) in
        let x : eqb (r + 4294967040) 0 ≡ false = ne_eqb (r + 4294967040) 0 (λ q. omega (arith, q)) in
        rw (e, n, m, z, y, x) (refl, (refl, refl))

abbrev pub Shows : Status → ℕ → Type 0
Shows s r = tellable s ≡ true → seeing s.cf s.af s.of r ≡ s

module _ (s : Status) where
  abbrev with : Bool → Bool → Bool → Status
  with p z n = record { cf = s.cf; pf = p; af = s.af; zf = z; sf = n; of = s.of }

  fields : {p z n : Bool} (r : ℕ) → s.pf ≡ p → s.zf ≡ z → s.sf ≡ n → Shows (with p z n) r → Shows s r
  fields r ep ez en h = subst (λ (x : Status). Shows x r) (λ j. record { cf = s.cf; pf = sym ep j; af = s.af; zf = sym ez j; sf = sym en j; of = s.of }) h

  pub shows_zero : s.zf ≡ true → Shows s 0
  unfolding parity ones
  shows_zero ez = by s.pf refl s.sf refl
    where
      by : (p : Bool) → s.pf ≡ p → (n : Bool) → s.sf ≡ n → Shows s 0
      by true ep false en = fields 0 ep ez en (λ _. refl)
      by true ep true en = fields 0 ep ez en (λ h. absurd (false≢true h))
      by false ep false en = fields 0 ep ez en (λ h. absurd (false≢true h))
      by false ep true en = fields 0 ep ez en (λ h. absurd (false≢true h))

  pub shows_negative_even : s.zf ≡ false → s.sf ≡ true → s.pf ≡ true → Shows s 0x80000000
  unfolding parity ones
  shows_negative_even ez en ep = fields 0x80000000 ep ez en (λ _. refl)

  pub shows_negative_odd : s.zf ≡ false → s.sf ≡ true → s.pf ≡ false → Shows s 0x80000001
  unfolding parity ones
  shows_negative_odd ez en ep = fields 0x80000001 ep ez en (λ _. refl)

  pub shows_even : s.zf ≡ false → s.sf ≡ false → s.pf ≡ true → Shows s 3
  unfolding parity ones
  shows_even ez en ep = fields 3 ep ez en (λ _. refl)

  pub shows_odd : s.zf ≡ false → s.sf ≡ false → s.pf ≡ false → Shows s 1
  unfolding parity ones
  shows_odd ez en ep = fields 1 ep ez en (λ _. refl)
