-- When a page lets the user write a frame: P, R/W and U/S are set in both of its entries.
-- Assumes nothing.
use Prim.Native.Nat.{ℕ, ◌+◌, ◌*◌, ◌/◌, ◌%◌, ◌<◌}
use mathlib.Core.Path.{◌≡◌, refl, sym, ◌∙◌}
use mathlib.Core.Bool.{Bool, true, false, not, ◌&&◌, cond, true≢false}
use native.Mathlib.Omega.{arith}
use lib.ListN.{length}
use lib.Dec.{ltb, eqb}
use borrow.Author.Tests.{lt-ltb, ltb-true, eq-eqb, ne_eqb, eqb-true, eqb-false, not-false}
use Rattle.machine.specs.declared.Control.{Control}
use Rattle.machine.specs.Record.{Mem, has}
use Rattle.machine.specs.Paging.{Entry, Gone, Names, entry_of, dword_at, slot, dir_frame, Page, within, leaf, under, page_at}
use Rattle.machine.specs.Audit.{in_memory, missing, outside, opens, holds_table, exposed}
use Rattle.audit.specs.Searched.{Sized}
use Rattle.isolation.proofs.Audited.{first_none}

pub missing_of : (n e : ℕ) → missing n (entry_of e) ≡ (eqb (e % 2) 1 && not (in_memory n (e / 4096)))
unfolding entry_of
missing_of n e = by (eqb (e % 2) 1)
  where
    by : (b : Bool) → missing n (cond b (Names (has 4 e) (has 2 e) (e / 4096)) Gone) ≡ (b && not (in_memory n (e / 4096)))
    by true = refl
    by false = refl

-- a present table exists, where none is outside
pub table_in : (m : Mem) (c : Control) (d : ℕ) → Sized m c → d < 1024 → dword_at m (slot (dir_frame c) d) % 2 ≡ 1
    → dword_at m (slot (dir_frame c) d) / 4096 * 4096 < length m
table_in m c d s h q =
    let e : ℕ = dword_at m (slot (dir_frame c) d) in
    let g : (eqb (e % 2) 1 && not (in_memory (length m) (e / 4096))) ≡ false =
    sym (missing_of (length m) e) ∙ first_none (outside m c) 1024 s.tabs_in d h in
    ltb-true _ _ (not-false _ (rw (eq-eqb (e % 2) 1 q) at g))

-- P, R/W and U/S together
set_bits : (e : ℕ) → e % 2 ≡ 1 → e / 4 % 2 ≡ 1 → e / 2 % 2 ≡ 1 → e % 8 ≡ 7
set_bits e x y z =
    let s : e / 4 ≡ e / 2 / 2 = omega arith in
    let k : e ≡ 8 * (e / 4 / 2) + 7 = omega arith in
    omega arith

bits : (e : ℕ) → e % 8 ≡ 7 → (e % 2 ≡ 1) × (e / 4 % 2 ≡ 1) × (e / 2 % 2 ≡ 1)
bits e h = (omega arith, omega arith, omega arith)

-- a frame that exists has all its entries
slot_in : (n f i : ℕ) → n % 4096 ≡ 0 → f * 4096 < n → i < 1024 → slot f i < n
slot_in n f i w h l = omega arith

module _ (q : ℕ → Bool) where
  within_closed : (n a : ℕ) (k : Page) → opens q k ≡ false → opens q (within n a k) ≡ false
  unfolding within
  within_closed n a k h = by (ltb a n) refl
    where
      by : (b : Bool) → ltb a n ≡ b → opens q (within n a k) ≡ false
      by true e = rw (e, h)
      by false e = rw e

  leaf_closed : (u w : Bool) → u && w ≡ false → (a b : ℕ) (e : Entry) → opens q (leaf u w a b e) ≡ false
  unfolding leaf
  leaf_closed u w h a b Gone = refl
  leaf_closed false w h a b (Names u' w' f) = refl
  leaf_closed true false h a b (Names true w' f) = refl
  leaf_closed true false h a b (Names false w' f) = refl
  leaf_closed true true h a b (Names u' w' f) = absurd (true≢false h)

  -- an entry with one of the three bits clear opens nothing
  dir_closed : (m : Mem) (a t e : ℕ) → (e % 8 ≡ 7 → ⊥) → opens q (under m a t (entry_of e)) ≡ false
  unfolding under entry_of
  dir_closed m a t e h = by (eqb (e % 2) 1) (has 4 e) (has 2 e) refl refl refl
    where
      by : (p u w : Bool) → eqb (e % 2) 1 ≡ p → has 4 e ≡ u → has 2 e ≡ w → opens q (under m a t (cond p (Names u w (e / 4096)) Gone)) ≡ false
      by false u w x y z = refl
      by true false w x y z = within_closed _ _ _ (leaf_closed false w refl _ _ _)
      by true true false x y z = within_closed _ _ _ (leaf_closed true false refl _ _ _)
      by true true true x y z = absurd (h (set_bits e (eqb-true _ _ x) (eqb-true _ _ y) (eqb-true _ _ z)))

  leaf_opens : (a b e : ℕ) → opens q (leaf true true a b (entry_of e)) ≡ (eqb (e % 8) 7 && q (e / 4096))
  unfolding leaf entry_of
  leaf_opens a b e = by (eqb (e % 2) 1) (has 4 e) (has 2 e) refl refl refl
    where
      clear : (x : ℕ) → eqb x 1 ≡ false → (e % 8 ≡ 7 → x ≡ 1) → eqb (e % 8) 7 ≡ false
      clear x h k = ne_eqb _ _ (λ s. eqb-false _ _ h (k s))

      by : (p u w : Bool) → eqb (e % 2) 1 ≡ p → has 4 e ≡ u → has 2 e ≡ w
          → opens q (leaf true true a b (cond p (Names u w (e / 4096)) Gone)) ≡ (eqb (e % 8) 7 && q (e / 4096))
      by false u w x y z = rw (clear (e % 2) x (λ s. (bits e s).0))
      by true false w x y z = rw (clear (e / 4 % 2) y (λ s. (bits e s).1))
      by true true false x y z = rw (clear (e / 2 % 2) z (λ s. (bits e s).2))
      by true true true x y z = rw (eq-eqb (e % 8) 7 (set_bits e (eqb-true _ _ x) (eqb-true _ _ y) (eqb-true _ _ z)))

module _ (m : Mem) (c : Control) (d : ℕ) where
  abbrev entry_d : ℕ
  entry_d = dword_at m (slot (dir_frame c) d)

  pub closed : (p : ℕ) → (entry_d % 8 ≡ 7 → ⊥) → p / 1024 ≡ d → exposed m c p ≡ false
  unfolding page_at
  closed p h e = rw e (within_closed (holds_table m c) _ _ _ (dir_closed (holds_table m c) m _ _ entry_d h))

module _ (m : Mem) (c : Control) (p : ℕ) where
  abbrev entry_p : ℕ
  entry_p = dword_at m (slot (dir_frame c) (p / 1024))

  pub open_page : (x : ℕ) → Sized m c → p < 1048576 → entry_p % 8 ≡ 7 → x ≡ dword_at m (slot (entry_p / 4096) (p % 1024))
      → exposed m c p ≡ (eqb (x % 8) 7 && holds_table m c (x / 4096))
  unfolding page_at within under entry_of
  open_page x s hp h e =
      let b = bits entry_p h in
      let hd : p / 1024 < 1024 = omega arith in
      let in1 : slot (dir_frame c) (p / 1024) < length m = slot_in _ _ _ s.whole s.dir_in hd in
      let in2 : slot (entry_p / 4096) (p % 1024) < length m = slot_in _ _ _ s.whole (table_in m c _ s hd b.0) (omega arith) in
      rw (lt-ltb _ _ in1, eq-eqb _ _ b.0, eq-eqb _ _ b.1, eq-eqb _ _ b.2, lt-ltb _ _ in2, ← e)
      (leaf_opens (holds_table m c) _ _ x)
