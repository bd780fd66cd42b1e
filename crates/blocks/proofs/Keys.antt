-- The bytes of a block: where two memories have them, the forms of the one are the forms of the other.
-- Assumes nothing.
use Prim.Native.Nat.{ℕ, zero, suc, ◌+◌, ◌-◌, ◌*◌, ◌/◌, ◌%◌, ◌<◌, ◌≤◌}
use mathlib.Core.Path.{◌≡◌, refl, sym, ap, ◌∙◌}
use mathlib.Core.Bool.{Bool, true, false, cond, false≢true}
use mathlib.Core.List.{List}
use native.Mathlib.Omega.{arith}
use borrow.Author.Tests.{ltb-true, ltb-false, lt-ltb}
use lib.Dec.{ltb}
use lib.ListN.{get_or}
use Rattle.std.specs.Bool.{MatchBool}
use Rattle.std.specs.List.{AllWithin, HoldsAt, range_with_len}
use Rattle.machine.specs.Record.{Mem, at}
use Rattle.machine.specs.Paging.{Byte}
use Rattle.forms.specs.declared.Form.{Form}
use Rattle.forms.specs.Forms.{FormOk}
use Rattle.blocks.specs.Blocks.{Digits, asked, Written, Keyed}

-- where each of four numbers has its bytes there
pub written : (m : Mem) (i : ℕ) (g : List ℕ) (s : ℕ) (r : Bool)
    → MatchBool r (AllWithin (λ k. Digits m (i + 8 * k) (get_or g (s + k) 0)) (range_with_len 0 4) 0 4) ((k : ℕ) × (k < 4) × HoldsAt (λ k. Unit {0}) (range_with_len 0 4) k) → r ≡ true → Written m i g s 4
written m i g s true w e zero h = w 0 0 (omega arith) h
written m i g s true w e (suc zero) h = w 1 0 (omega arith) h
written m i g s true w e (suc (suc zero)) h = w 2 0 (omega arith) h
written m i g s true w e (suc (suc (suc zero))) h = w 3 0 (omega arith) h
written m i g s true w e (suc (suc (suc (suc k)))) h = absurd (omega arith)
written m i g s false w e k h = absurd (false≢true e)

-- ---- how many numbers are asked for

pub asked_most : (g : List ℕ) (s : ℕ) → asked g s ≤ 8
asked_most g s = by (ltb (get_or g (s + 8) 0) 32)
  where
    by : (z : Bool) → cond {A = ℕ} z 4 8 ≤ 8
    by true = omega arith
    by false = omega arith

module _ (m : Mem) (i : ℕ) (g : List ℕ) (s : ℕ) where
  pub keyed_short : get_or g (s + 8) 0 < 32 → Written m i g s 4 → Keyed m i g s
  keyed_short h w = rw (lt-ltb _ _ h) w

  pub keyed_whole : Written m i g s 8 → Keyed m i g s
  keyed_whole w k h = let b = asked_most g s in w k (omega arith)

  -- the first four and the others
  pub joined : Written m i g s 4 → Written m (i + 32) g (s + 4) 4 → Written m i g s 8
  joined a b k h = by (ltb k 4) refl
    where
      by : (z : Bool) → ltb k 4 ≡ z → Digits m (i + 8 * k) (get_or g (s + k) 0)
      by true e = a k (ltb-true _ _ e)
      by false e =
          let l : 4 ≤ k = ltb-false _ _ e in
          let p : i + 32 + 8 * (k - 4) ≡ i + 8 * k = omega arith in
          let q : s + 4 + (k - 4) ≡ s + k = omega arith in
          rw (← p, ← q) (b (k - 4) (omega arith))

-- ---- two memories with the same numbers' bytes

module _ (m m' : Mem) (i i' : ℕ) (g : List ℕ) (s c : ℕ) (k : Written m i g s c) (k' : Written m' i' g s c) where
  bytes : (n : ℕ) → n < 8 * c → at m' (i' + n) ≡ at m (i + n)
  bytes n h =
      let q : n / 8 < c = omega arith in
      let r : n % 8 < 8 = omega arith in
      let e : i + 8 * (n / 8) + n % 8 ≡ i + n = omega arith in
      let e' : i' + 8 * (n / 8) + n % 8 ≡ i' + n = omega arith in
      sym (ap (at m') e') ∙ k' (n / 8) q (n % 8) r ∙ sym (k (n / 8) q (n % 8) r) ∙ ap (at m) e

  pub window : (o : ℕ) → o + 16 ≤ 8 * c → (n : ℕ) → n < 16 → at m' (i' + o + n) ≡ at m (i + o + n)
  window o l n h =
      let b : o + n < 8 * c = omega arith in
      let e : i + (o + n) ≡ i + o + n = omega arith in
      let e' : i' + (o + n) ≡ i' + o + n = omega arith in
      sym (ap (at m') e') ∙ bytes (o + n) b ∙ ap (at m) e

-- ---- a form where another memory has the same sixteen bytes

pub form_there : (m m' : Mem) (i i' : ℕ) (f : Form) → ((n : ℕ) → n < 16 → at m' (i' + n) ≡ at m (i + n)) → FormOk m i f → FormOk m' i' f
form_there m m' i i' f w k e s eip h none =
    let q = k e s eip h none in
    record {
      fits = λ t interrupt direction v shows. q.fits t interrupt direction v (λ n l. shows n l ∙ ap Byte (w n l));
      tidy = q.tidy;
      idle = q.idle;
      doubles = λ t. ((q.doubles t).0, λ interrupt direction v shows. (q.doubles t).1 interrupt direction v (λ n l. shows n l ∙ ap Byte (w n l)));
    }
