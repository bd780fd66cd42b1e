-- What the guest's maps say, whatever the records hold: entry 0 of the directory and entries 0 and 1 of its table, and no other.
-- Assumes nothing.
use Prim.Native.Nat.{ℕ, zero, suc, ◌+◌, ◌*◌, ◌-◌, ◌<◌, ◌≤◌}
use mathlib.Core.Path.{◌≡◌, refl, sym, ap, ◌∙◌}
use mathlib.Core.Bool.{Bool, true, false, false≢true}
use mathlib.Core.List.{List, [], ◌∷◌, ◌++◌}
use mathlib.Core.Logic.{◌≢◌}
use native.Mathlib.Omega.{arith}
use native.Mathlib.Decide.{ℕ_discrete}
use lib.ListN.{length, length-append, length-replicate, replicate, get_or-append, get_or-eq_default}
use lib.Seq.{get_or-append-add}
use Rattle.machine.specs.Record.{at}
use Rattle.machine.specs.Paging.{dword_at, Gone, Names, entry_of, slot, entry, Mapped, leaf, under, page_at}
use Rattle.isolation.proofs.Entries.{dword_same, zeros_gone, absent_mapped}
use Rattle.isolation.proofs.Isolation.{within_mapped}
use Rattle.leaks.specs.Guest.{frame, directory, table, program, shown, memory}

-- ---- a byte of a frame, and of the memory

zeros : (n i : ℕ) → at (replicate n 0) i ≡ 0
zeros zero i = refl
zeros (suc n) zero = refl
zeros (suc n) (suc i) = zeros n i

padded : (bytes : List ℕ) (n i : ℕ) → at (bytes ++ replicate n 0) i ≡ at bytes i
padded [] n i = zeros n i
padded (b ∷ bytes) n zero = refl
padded (b ∷ bytes) n (suc i) = padded bytes n i

frame_at : (bytes : List ℕ) (i : ℕ) → at (frame bytes) i ≡ at bytes i
unfolding frame
frame_at bytes i = padded bytes (4096 - length bytes) i

frame_length : (bytes : List ℕ) → length bytes ≤ 4096 → length (frame bytes) ≡ 4096
unfolding frame
frame_length bytes h =
    length-append bytes _ ∙ ap (λ (x : ℕ). length bytes + x) (length-replicate (4096 - length bytes) 0) ∙ omega arith

shown_length : length shown ≡ 12288
unfolding shown
shown_length =
    length-append (frame directory) _ ∙ (λ i. frame_length directory (omega arith) i + length-append (frame table) (frame program) i)
    ∙ (λ i. 4096 + (frame_length table (omega arith) i + frame_length program (omega arith) i))

pub memory_length : (k : ℕ) → length (memory k) ≡ 16384
unfolding memory
memory_length k = length-append shown _ ∙ (λ i. shown_length i + frame_length (k ∷ []) (omega arith) i)

-- below the records' frame the memory is what is shown
pub shown_at : (k i : ℕ) → i < 12288 → at (memory k) i ≡ at shown i
unfolding memory
shown_at k i h = get_or-append shown (frame (k ∷ [])) 0 i (rw shown_length h)

directory_at : (k i : ℕ) → i < 4096 → at (memory k) i ≡ at directory i
unfolding shown
directory_at k i h =
    shown_at k i (omega arith) ∙ get_or-append (frame directory) _ 0 i (rw (frame_length directory (omega arith)) h) ∙ frame_at directory i

table_at : (k i : ℕ) → i < 4096 → at (memory k) (4096 + i) ≡ at table i
unfolding shown
table_at k i h =
    shown_at k (4096 + i) (omega arith)
    ∙ ap (λ (x : ℕ). at (frame directory ++ (frame table ++ frame program)) (x + i)) (sym (frame_length directory (omega arith)))
    ∙ get_or-append-add (frame directory) _ i 0
    ∙ get_or-append (frame table) _ 0 i (rw (frame_length table (omega arith)) h) ∙ frame_at table i

-- ---- the entries

-- the frame of a page that is the user's
leaf_frame : (us' rw'' rw' : Bool) (g f a b x y : ℕ) → leaf true true x y (Names us' rw'' g) ≡ Mapped true rw' f a b → (us' ≡ true) × (g ≡ f)
unfolding leaf
leaf_frame us' rw'' rw' g f a b x y e = (cc, cc)

past_gone : (bytes : List ℕ) (a : ℕ) → length bytes ≤ a → entry_of (dword_at bytes a) ≡ Gone
past_gone bytes a h = zeros_gone bytes a (λ j l. get_or-eq_default bytes 0 (omega arith))

-- the entries that are written out
listed_table : entry_of (dword_at directory 0) ≡ Names true true 1
unfolding entry_of
listed_table = refl

listed_pages : (entry_of (dword_at table 0) ≡ Names true true 2) × (entry_of (dword_at table 4) ≡ Names false true 3)
unfolding entry_of
listed_pages = (refl, refl)

module _ (k : ℕ) where
  -- an entry of the directory or the table is the one of its bytes
  directory_entry : (d : ℕ) → d < 1024 → entry (memory k) 0 d ≡ entry_of (dword_at directory (slot 0 d))
  directory_entry d h = ap entry_of (dword_same (memory k) directory _ _ (λ j l. directory_at k (slot 0 d + j) (omega arith)))

  table_entry : (t : ℕ) → t < 1024 → entry (memory k) 1 t ≡ entry_of (dword_at table (t * 4))
  table_entry t h = ap entry_of (dword_same (memory k) table _ _ (λ j l.
      let e : slot 1 t + j ≡ 4096 + (t * 4 + j) = omega arith in
      ap (at (memory k)) e ∙ table_at k (t * 4 + j) (omega arith)))

  pub the_table : entry (memory k) 0 0 ≡ Names true true 1
  the_table = directory_entry 0 (omega arith) ∙ listed_table

  pub no_table : (d : ℕ) → d ≢ 0 → d < 1024 → entry (memory k) 0 d ≡ Gone
  no_table d o h = directory_entry d h ∙ past_gone directory (slot 0 d) (omega arith)

  the_pages : (entry (memory k) 1 0 ≡ Names true true 2) × (entry (memory k) 1 1 ≡ Names false true 3)
  the_pages = (table_entry 0 (omega arith) ∙ listed_pages.0, table_entry 1 (omega arith) ∙ listed_pages.1)

  no_page : (t : ℕ) → t ≢ 0 → t ≢ 1 → t < 1024 → entry (memory k) 1 t ≡ Gone
  no_page t o o' h = table_entry t h ∙ past_gone table (t * 4) (omega arith)

  -- ---- the pages

  -- an entry of the table that opens a page to the user is entry 0, and the page is frame 2
  leaf_2 : (t : ℕ) → t < 1024 → (rw' : Bool) (f a b x y : ℕ) → leaf true true x y (entry (memory k) 1 t) ≡ Mapped true rw' f a b → f ≡ 2
  unfolding leaf
  leaf_2 t ht rw' f a b x y e = by (ℕ_discrete t 0) (ℕ_discrete t 1)
    where
      by : Dec (t ≡ 0) → Dec (t ≡ 1) → f ≡ 2
      by (yes z) w = sym (leaf_frame true true rw' 2 f a b x y (rw (z, the_pages.0) at e)).1
      by (no o) (yes z) = absurd (false≢true (leaf_frame false true rw' 3 f a b x y (rw (z, the_pages.1) at e)).0)
      by (no o) (no o') = absurd (absent_mapped true rw' f a b (rw (no_page t o o' ht) at e))

  -- only frame 2 is the user's to read
  pub page_2 : (d t : ℕ) → d < 1024 → t < 1024 → (rw' : Bool) (f a b : ℕ) → page_at (memory k) 0 d t ≡ Mapped true rw' f a b → f ≡ 2
  unfolding page_at under
  page_2 d t hd ht rw' f a b e = by (ℕ_discrete d 0) (within_mapped _ _ _ true rw' f a b e)
    where
      by : Dec (d ≡ 0) → under (memory k) (slot 0 d) t (entry (memory k) 0 d) ≡ Mapped true rw' f a b → f ≡ 2
      by (no o) e = absurd (absent_mapped true rw' f a b (rw (no_table d o hd) at e))
      by (yes z) e = leaf_2 t ht rw' f a b _ _ (within_mapped _ _ _ true rw' f a b (rw (z, the_table) at e))
