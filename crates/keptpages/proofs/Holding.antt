-- Pages of data that are kept: one that is found there, one more, and none. Assumes nothing.
use Rattle.std.proofs.Common.{◌≡◌, ℕ, ◌+◌, ◌*◌, ◌/◌, ◌%◌, ◌<◌, ◌≤◌, Bool, true, false, leb, List, length, set, refl, ap, ◌∙◌, arith, get_or-set_other, get_or-set_same, le-leb}
use native.Mathlib.Decide.{ℕ_discrete, dec_lt}
use borrow.Author.Tests.{lt-leb}
use lib.ListN.{get_or-eq_default}
use lib.Seq.{set_out}
use Rattle.machine.specs.declared.Control.{Control}
use Rattle.machine.specs.Record.{Mem}
use Rattle.keptpages.specs.declared.Kept.{Kept}
use Rattle.keptpages.specs.Quiet.{Quiet, KeptOk, HeldOk, entry_in, page_in}
use Rattle.keptpages.proofs.Settling.{no_page_ok}

-- ---- a byte of a kept page

pub found_on : (p : Kept) (l q : ℕ) → l < 4294967296 → q ≡ (p.base + l % 4096) % 4294967296 → (m : Mem) (c : Control) (w : Bool) → KeptOk m c w p → l / 4096 ≡ p.page
    → Quiet m c w l (record { 0 = q })
found_on p l q small e m c w k h =
    let page : p.page < 1048576 = below p.page l small h in
    let same : q ≡ p.base + l % 4096 = e ∙ within p.base l (k.low page) in
    rw same (k.stays page m refl (λ _ _. refl) (λ _ _. refl) l small h)
  where
    below : (x l : ℕ) → l < 4294967296 → l / 4096 ≡ x → x < 1048576
    below x l s h = omega arith

    within : (b l : ℕ) → b + 4096 ≤ 4294967296 → (b + l % 4096) % 4294967296 ≡ b + l % 4096
    within b l h = omega arith

-- ---- the places: sixteen for reading, then those for writing

pub high_place : (x : ℕ) → leb 16 (16 + x % 16) ≡ true
high_place x = le-leb 16 (16 + x % 16) (omega arith)

pub low_place : (x : ℕ) → leb 16 (x % 16) ≡ false
low_place x = lt-leb 16 (x % 16) (omega arith)

-- ---- the pages of data

module _ (m : Mem) (c : Control) (t : ℕ) where
  -- an entry is read as the page that it was made of
  pub page_is : (d : List ℕ) (k : ℕ) (x page base : ℕ) → x ≡ entry_in d k → x / 4294967296 ≡ page → base ≡ x % 4294967296 → KeptOk m c (leb 16 k) (page_in d t k)
      → KeptOk m c (leb 16 k) (record { page = page; base = base; table = t })
  page_is d k x page base ex ep eb h = rw (eb, ← ep, ex) h

  -- one more
  pub held_set : (d : List ℕ) (k : ℕ) (p : Kept) (x : ℕ) → x ≡ p.page * 4294967296 + p.base → p.base < 4294967296 → p.table ≡ t → HeldOk m c t d → KeptOk m c (leb 16 k) p
      → HeldOk m c t (set d k x)
  held_set d k p x ex small et h hp j = by (ℕ_discrete j k) (dec_lt k (length d))
    where
      high : (a b : ℕ) → b < 4294967296 → (a * 4294967296 + b) / 4294967296 ≡ a
      high a b s = omega arith

      low : (a b : ℕ) → b < 4294967296 → (a * 4294967296 + b) % 4294967296 ≡ b
      low a b s = omega arith

      taken : (y : ℕ) → y ≡ x → KeptOk m c (leb 16 k) (record { page = y / 4294967296; base = y % 4294967296; table = t })
      taken y ey =
          let a : y / 4294967296 ≡ p.page = ap (λ (z : ℕ). z / 4294967296) (ey ∙ ex) ∙ high p.page p.base small in
          let b : y % 4294967296 ≡ p.base = ap (λ (z : ℕ). z % 4294967296) (ey ∙ ex) ∙ low p.page p.base small in
          rw (a, b, ← et) hp

      by : Dec (j ≡ k) → Dec (k < length d) → KeptOk m c (leb 16 j) (page_in (set d k x) t j)
      by (yes e) (yes l) = rw e (taken (entry_in (set d k x) k) (get_or-set_same d k x _ l))
      by (yes e) (no l) = rw (set_out d k x (omega arith)) (h j)
      by (no e) _ = rw (get_or-set_other d k j x 18446744073709551615 e) (h j)

  -- none
  pub held_none : (d : List ℕ) → ((k : ℕ) → k < length d → entry_in d k ≡ 18446744073709551615) → HeldOk m c t d
  held_none d h k = no_page_ok m c (leb 16 k) (page_in d t k) (ap (λ (x : ℕ). x / 4294967296) (by (dec_lt k (length d))))
    where
      by : Dec (k < length d) → entry_in d k ≡ 18446744073709551615
      by (yes l) = h k l
      by (no l) = get_or-eq_default d 18446744073709551615 (omega arith)
