-- Shifts one place at a time, in closed form, over the count and the width, or the weight H of the top bit. Assumes nothing.
use Prim.Native.Nat.{ℕ, zero, suc, ◌+◌, ◌-◌, ◌*◌, ◌/◌, ◌%◌, ◌^◌, ◌≤◌, ◌<◌}
use native.Mathlib.Nat.{mod-eq_of_lt, add-mod, mul_assoc}
use native.Mathlib.Numerals.{add-one}
use native.Mathlib.Omega.{arith}
use mathlib.Core.Path.{◌≡◌, refl, sym, ap, ◌∙◌}
use mathlib.Core.Bool.{Bool, true, false, cond}
use lib.Dec.{leb, eqb}
use lib.Pow.{pow-add, shr-shr, shr_le, mod-mod-pow}
use lib.Bits.{bit_and, bit_xor, and_mask, xor_add_and, xor_zero_r}
use borrow.Author.Tests.{le-leb, lt-leb, leb-true, leb-false, ne_eqb}
use Rattle.alu.specs.declared.Status.{Status}
use Rattle.alu.specs.declared.Out.{Out}
use Rattle.alu.specs.Arithmetic.{bits, low}
use Rattle.alu.specs.Word.{ShowsAlike}
use Rattle.alu.specs.Brief.{seeing}
use Rattle.shifts.specs.Shifts.{times, left, right, shift_status, shifted}

pow-suc : (v m : ℕ) → v * 2 ^ suc m ≡ v * 2 ^ m + v * 2 ^ m
pow-suc v m =
    let e : 2 ^ suc m ≡ 2 ^ m * 2 = rw (← add-one m) (pow-add 2 m 1) in
    ap (λ (k : ℕ). v * k) e ∙ sym (mul_assoc v (2 ^ m) 2) ∙ omega arith

pub shl_times : (w m v : ℕ) → v < 2 ^ w → v * 2 ^ m % 2 ^ w ≡ times (left w) m v
unfolding times
shl_times w zero v h = ap (λ (k : ℕ). k % 2 ^ w) (omega arith) ∙ mod-eq_of_lt h
shl_times w (suc m) v h =
    ap (λ (k : ℕ). k % 2 ^ w) (pow-suc v m) ∙ add-mod (v * 2 ^ m) (v * 2 ^ m) (2 ^ w)
    ∙ rw (shl_times w m v h) (ap (λ (k : ℕ). k % 2 ^ w) (omega arith))

pub shl_wide : (j w m v : ℕ) → v < 2 ^ w → v * 2 ^ m % 2 ^ (j + w) % 2 ^ w ≡ times (left w) m v
shl_wide j w m v h = mod-mod-pow (v * 2 ^ m) j w ∙ shl_times w m v h

-- what is shifted out of a dword was above its low part
pub shl_low : (wide : Bool) (m v : ℕ) → v < 2 ^ bits wide → low wide (v * 2 ^ m % 4294967296) ≡ times (left (bits wide)) m v
shl_low true m v h = shl_wide 0 32 m v h
shl_low false m v h = shl_wide 24 8 m v h

div_suc : (v m : ℕ) → v / 2 ^ m / 2 ≡ v / 2 ^ suc m
div_suc v m = shr-shr v m 1 ∙ ap (λ (k : ℕ). v / 2 ^ k) (add-one m)

pub shr_times : (m v : ℕ) → v / 2 ^ m ≡ times right m v
unfolding times
shr_times zero v = omega arith
shr_times (suc m) v = sym (div_suc v m) ∙ ap (λ (k : ℕ). k / 2) (shr_times m v)

abbrev sar_h : ℕ → ℕ → ℕ
sar_h H v = cond (leb H v) (v / 2 + H) (v / 2)

pub sar_low : (H m a : ℕ) → a < H → a / 2 ^ m ≡ times (sar_h H) m a
unfolding times
sar_low H zero a h = omega arith
sar_low H (suc m) a h =
    rw (← sar_low H m a h) (simp (lt-leb H (a / 2 ^ m) (omega (arith, shr_le a m))) (sym (div_suc a m)))

pub sar_high : (H m a : ℕ) → H ≤ a → a < H + H → H + H - 1 - (H + H - 1 - a) / 2 ^ m ≡ times (sar_h H) m a
unfolding times
sar_high H zero a h k = omega arith
sar_high H (suc m) a h k =
    let q = (H + H - 1 - a) / 2 ^ m in
    let l = shr_le (H + H - 1 - a) m in
    rw (← sar_high H m a h k) (simp (le-leb H (H + H - 1 - q) (omega arith)) (omega (arith, div_suc (H + H - 1 - a) m)))

-- a number with its bits turned over
flipped : (k a : ℕ) → a < 2 ^ k → bit_xor a (2 ^ k - 1) ≡ 2 ^ k - 1 - a
flipped k a h =
    let e : bit_and a (2 ^ k - 1) ≡ a = and_mask a k ∙ mod-eq_of_lt h in
    omega (arith, xor_add_and a (2 ^ k - 1), e)

-- t turns over the bits of a negative number
pub sar_times : (k H m a t : ℕ) → 2 ^ k ≡ H + H → a < 2 ^ k → t ≡ cond (leb H a) (2 ^ k - 1) 0 → bit_xor (bit_xor a t / 2 ^ m) t ≡ times (sar_h H) m a
sar_times k H m a t w h e = by (leb H a) refl e
  where
    by : (b : Bool) → leb H a ≡ b → t ≡ cond b (2 ^ k - 1) 0 → bit_xor (bit_xor a t / 2 ^ m) t ≡ times (sar_h H) m a
    by true p q =
        let l = shr_le (2 ^ k - 1 - a) m in
        rw (q, flipped k a h, flipped k ((2 ^ k - 1 - a) / 2 ^ m) (omega arith), w) (sar_high H m a (leb-true _ _ p) (omega arith))
    by false p q = rw (q, xor_zero_r a, xor_zero_r (a / 2 ^ m)) (sar_low H m a (leb-false _ _ p))

some_place : (n : ℕ) → 0 < n → eqb n 0 ≡ false
some_place n h = ne_eqb n 0 (λ e. omega arith)

-- the status after some places
pub status_after : (w n : ℕ) (s : Status) (r seen : ℕ) (last one : Bool) → 0 < n → ShowsAlike w seen r
    → seeing last s.af (cond (eqb n 1) one s.of) seen ≡ shift_status w n s r last one
unfolding shift_status
status_after w n s r seen last one h a = rw (some_place n h, a.0, a.1.0, a.1.1)

-- some places ask only for AF and OF of the status before
pub depends : (op w n v : ℕ) (s t : Status) → 0 < n → s.af ≡ t.af → s.of ≡ t.of → shifted op w n v s ≡ shifted op w n v t
unfolding shifted shift_status
depends op w n v s t h a o = rw (some_place n h, a, o)

-- count 0 changes nothing
abbrev kept : ℕ → Status → Out
kept v s = record { value = v; status = s }

alike : {A : Type 0} (p q : Bool) (x : A) → cond p x (cond q x x) ≡ x
alike true q x = refl
alike false true x = refl
alike false false x = refl

pub no_place : (op w v : ℕ) (s : Status) → shifted op w 0 v s ≡ kept v s
unfolding shifted times shift_status
no_place op w v s = alike (eqb op 4) (eqb op 5) (kept v s)
