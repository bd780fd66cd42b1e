-- Two memories whose maps say the same: the walk and the audit cannot tell them apart.
-- Assumes nothing.
use Prim.Native.Nat.{ℕ, zero, suc, ◌*◌, ◌/◌, ◌%◌, ◌<◌}
use mathlib.Core.Path.{◌≡◌, refl, ◌∙◌}
use mathlib.Core.Bool.{Bool, ◌||◌, cond}
use native.Mathlib.Omega.{arith}
use lib.ListN.{length}
use lib.Dec.{eqb}
use Rattle.machine.specs.declared.Control.{Control}
use Rattle.machine.specs.declared.Reply.TheVariants.{Safe, TableOutside, Exposed}
use Rattle.machine.specs.Record.{Mem, paging}
use Rattle.machine.specs.Paging.{Entry, Gone, Names, entry_of, slot, entry, dir_frame, dir_index, tab_index}
use Rattle.machine.specs.Paging.{within, leaf, under, page_at, page, page_of, exists, reach, translate}
use Rattle.machine.specs.Audit.{first, later, is_some, in_memory, missing, names, holds_table, opens}
use Rattle.machine.specs.Audit.{found, need, outside, exposed, tables}
use Rattle.isolation.specs.Guarded.{Alike}

-- ---- numbers that differ in bits 5 and 6 at most entry_of alike

module _ (a b : ℕ) (h : Alike a b) where
  bit0 : a % 2 ≡ b % 2
  bit0 = omega arith

  bit1 : a / 2 % 2 ≡ b / 2 % 2
  bit1 = omega arith

  bit2 : a / 4 % 2 ≡ b / 4 % 2
  bit2 = omega arith

  high : a / 4096 ≡ b / 4096
  high = omega arith

  pub entry_of_alike : entry_of a ≡ entry_of b
  unfolding entry_of
  entry_of_alike = λ i. cond (eqb (bit0 i) 1) (Names (eqb (bit2 i) 1) (eqb (bit1 i) 1) (high i)) Gone

-- ---- maps that say the same

pub record SameMaps (c : Control) (m n : Mem) : Type 0 where
  pub size : length m ≡ length n
  pub dirs : (d : ℕ) → d < 1024 → entry m (dir_frame c) d ≡ entry n (dir_frame c) d
  pub tabs : (d t : ℕ) → d < 1024 → t < 1024 → (us rw' : Bool) (f : ℕ) → entry m (dir_frame c) d ≡ Names us rw' f
      → entry m f t ≡ entry n f t

first_same : (p q : ℕ → Bool) (n : ℕ) → ((i : ℕ) → i < n → p i ≡ q i) → first p n ≡ first q n
unfolding first
first_same p q zero h = refl
first_same p q (suc n) h = λ i. later (first_same p q n (λ j b. h j (omega arith)) i) (h n (omega arith) i) n

under_same : (m n : Mem) → length m ≡ length n → (a t : ℕ) (e : Entry)
    → ((us rw' : Bool) (f : ℕ) → e ≡ Names us rw' f → entry m f t ≡ entry n f t) → under m a t e ≡ under n a t e
unfolding under
under_same m n s a t Gone h = refl
under_same m n s a t (Names us rw' f) h = λ i. within (s i) (slot f t) (leaf us rw' a (slot f t) (h us rw' f refl i))

module _ (c : Control) (m n : Mem) (s : SameMaps c m n) where
  pub page_same : (d t : ℕ) → d < 1024 → t < 1024 → page m c d t ≡ page n c d t
  unfolding page_at
  page_same d t hd ht =
      let a : ℕ = slot (dir_frame c) d in
      (λ i. within (s.size i) a (under_same m n s.size a t (entry m (dir_frame c) d) (s.tabs d t hd ht) i))
      ∙ (λ i. within (length n) a (under n a t (s.dirs d hd i)))

  pub page_of_same : (l : ℕ) → page_of m c l ≡ page_of n c l
  page_of_same l = page_same (dir_index l) (tab_index l) (omega arith) (omega arith)

  pub translate_same : (w : Bool) (l : ℕ) → translate m c w l ≡ translate n c w l
  unfolding translate
  translate_same w l = λ i. cond (paging c) (reach (s.size i) c w l (page_of_same l i)) (exists (s.size i) l)

  named_same : (f d : ℕ) → d < 1024 → names f (entry m (dir_frame c) d) ≡ names f (entry n (dir_frame c) d)
  named_same f d h = λ i. names f (s.dirs d h i)

  outside_same : (d : ℕ) → d < 1024 → outside m c d ≡ outside n c d
  outside_same d h = λ i. missing (s.size i) (s.dirs d h i)

  holds_table_same : (f : ℕ) → holds_table m c f ≡ holds_table n c f
  unfolding holds_table
  holds_table_same f = λ i. eqb f (dir_frame c) || is_some (first_same _ _ 1024 (named_same f) i)

  exposed_same : (p : ℕ) → p < 1048576 → exposed m c p ≡ exposed n c p
  exposed_same p h = λ i. opens (λ f. holds_table_same f i) (page_same (p / 1024) (p % 1024) (omega arith) (omega arith) i)

  pub tables_same : tables m c ≡ tables n c
  unfolding tables
  tables_same = λ i.
      need (in_memory (s.size i) (dir_frame c)) (TableOutside 1024)
      (found (first_same (outside m c) (outside n c) 1024 outside_same i) TableOutside
      (found (first_same (exposed m c) (exposed n c) 1048576 exposed_same i) (λ p. Exposed (p * 4096)) Safe))
