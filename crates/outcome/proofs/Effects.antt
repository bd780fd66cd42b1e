-- What comes of an operation on dwords, by its number, and of a result that is or is not written.
-- Assumes nothing.
use Rattle.std.proofs.Common.{◌≡◌, ℕ, ◌%◌, ◌^◌, ◌<◌, ◌≤◌, Bool, true, false, cond, eqb, ltb, ◌≢◌, refl, arith, w32, Fits, ltb-false, ne_eqb, le-ltb}
use Rattle.std.proofs.lemmas.Bool.{eqb-false}
use Rattle.alu.specs.declared.Status.{Status}
use Rattle.alu.specs.declared.Out.{Out}
use Rattle.alu.specs.Arithmetic.{bits, low, operation, operate, operate_one}
use Rattle.alu.proofs.Words.{low_number}
use Rattle.shifts.specs.Shifts.{times, shift_status, shift_left, shift_right, shift_right_signed, shifted, shift}
use Rattle.products.specs.Products.{product}
use Rattle.outcome.specs.Outcome.{low_out, operated, out_of}

whole : (x : ℕ) → Fits w32 x → low true x ≡ x
whole x h = low_number true (refl, omega arith)

-- an operation of two operands, up to MOV, where op is the number k
numbered_at : (wide : Bool) (x y : ℕ) (s : Status) {op k : ℕ} {r : Out} → x < 2 ^ bits wide → y < 2 ^ bits wide → op ≡ k → ltb k 10 ≡ true
    → r ≡ operation k (bits wide) x y s → r ≡ out_of op wide x y s
unfolding out_of operate
numbered_at wide x y s hx hy h l e = rw (h, l, low_number wide (refl, hx), low_number wide (refl, hy)) e

pub numbered : (x y : ℕ) (s : Status) → Fits w32 x → {op k : ℕ} {r : Out} → Fits w32 y → op ≡ k → ltb k 10 ≡ true → r ≡ operation k 32 x y s
    → r ≡ out_of op true x y s
numbered x y s hx hy = numbered_at true x y s (omega arith) (omega arith)

pub byte_numbered : (x y : ℕ) (s : Status) → x < 256 → y < 256 → {op k : ℕ} {r : Out} → op ≡ k → ltb k 10 ≡ true → r ≡ operation k 8 x y s
    → r ≡ out_of op false x y s
byte_numbered x y s hx hy = numbered_at false x y s hx hy

module _ (x y : ℕ) (s : Status) (hx : Fits w32 x) where
  -- what dwords have in common with bytes
  pub in_common : (op : ℕ) → Fits w32 y → op ≤ 11 → operated op 32 x y s ≡ out_of op true x y s
  unfolding operated out_of operate operate_one
  in_common op hy h = by (ltb op 10) (eqb op 10) refl refl
    where
      by : (p q : Bool) → ltb op 10 ≡ p → eqb op 10 ≡ q → operated op 32 x y s ≡ out_of op true x y s
      by true q e z = rw (e, whole x hx, whole y hy)
      by false true e z = rw (e, z, whole x hx)
      by false false e z =
          let k : op ≡ 11 = omega (arith, ltb-false op 10 e, eqb-false op 10 z) in
          rw (k, whole x hx)

  pub multiplied : {op : ℕ} {r : Out} → op ≡ 14 → r ≡ low_out (product true true x y s) → r ≡ out_of op true x y s
  unfolding out_of
  multiplied h e = rw h e

  pub moved_by : (op : ℕ) {r : Out} → 11 < op → op ≢ 14 → r ≡ shifted (op % 8) 32 (y % 32) x s → r ≡ out_of op true x y s
  unfolding out_of shift
  moved_by op h n e =
      let k : eqb op 10 ≡ false = ne_eqb op 10 (λ q. omega (arith, q)) in
      let l : eqb op 11 ≡ false = ne_eqb op 11 (λ q. omega (arith, q)) in
      rw (le-ltb op 10 (omega arith), k, l, ne_eqb op 14 n, whole x hx) e

-- no place at all
pub none_shifted : (op n x : ℕ) (s : Status) → n ≡ 0 → record { value = x; status = s } ≡ shifted op 32 n x s
unfolding shifted shift_status times
none_shifted op n x s h = by (eqb op 4) (eqb op 5)
  where
    by : (p q : Bool) → record { value = x; status = s } ≡ cond p (shift_left 32 n x s) (cond q (shift_right 32 n x s) (shift_right_signed 32 n x s))
    by true q = rw h
    by false true = rw h
    by false false = rw h

-- bytes
pub of_bytes : (op x y : ℕ) (s : Status) → operated op 8 (low false x) (low false y) s ≡ out_of op false x y s
unfolding operated out_of operate operate_one
of_bytes op x y s = refl
