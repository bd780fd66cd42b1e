-- One walk serves a page: its other bytes are reached and marked alike.
-- Assumes nothing.
use Prim.Native.Nat.{ℕ, ◌+◌, ◌*◌, ◌/◌, ◌%◌, ◌<◌, ◌≤◌}
use mathlib.Core.Path.{◌≡◌, refl, sym, ap, ◌∙◌}
use mathlib.Core.Bool.{Bool, true, false, cond}
use mathlib.Core.List.{List, []}
use native.Mathlib.Omega.{arith}
use native.Mathlib.Decide.{dec_lt}
use lib.ListN.{length}
use borrow.Author.Tests.{lt-ltb, le-ltb}
use Rattle.machine.specs.declared.Control.{Control}
use Rattle.machine.specs.declared.Reply.{Reply}
use Rattle.machine.specs.Record.{Mem, paging}
use Rattle.machine.specs.Paging.{Page, Beyond, Absent, Mapped, dir_index, tab_index, offset, page_of, Translation, At, No, ask, exists, rights, reach, translate}
use Rattle.machine.specs.Commit.{Patch, marks_of, if_at, marks}
use Rattle.machine.specs.Act.{touch}

not_at : {r : Reply} {p : ℕ} → No r ≡ At p → ⊥
not_at e = let z : ◌≡◌ {A = ℕ} 0 1 = cc in omega arith

at_is : {p q : ℕ} → At p ≡ At q → p ≡ q
at_is e = cc

-- ---- what the walk reaches is there, at the same place in its page

exists_there : (n q p : ℕ) → exists n q ≡ At p → (q < n) × (q ≡ p)
unfolding ask
exists_there n q p e = by (dec_lt q n)
  where
    by : Dec (q < n) → (q < n) × (q ≡ p)
    by (yes k) = (k, at_is (rw (lt-ltb q n k) at e))
    by (no k) = let k' : n ≤ q = omega arith in absurd (not_at (rw (le-ltb q n k') at e))

ask_there : (b : Bool) (r : Reply) (n q p : ℕ) → ask b r (exists n q) ≡ At p → (q < n) × (q ≡ p)
unfolding ask
ask_there true r n q p e = exists_there n q p e
ask_there false r n q p e = absurd (not_at e)

module _ (n : ℕ) (c : Control) (w : Bool) (l p : ℕ) where
  reach_there : (f : Page) → reach n c w l f ≡ At p → (p < n) × (p % 4096 ≡ l % 4096)
  unfolding reach
  reach_there (Beyond a) e = absurd (not_at e)
  reach_there Absent e = absurd (not_at e)
  reach_there (Mapped us rw' f a b) e =
      let k = ask_there (rights c w us rw') _ n (f * 4096 + offset l) p e in
      (omega (arith, k.0, k.1), omega (arith, k.1))

pub there : (m : Mem) (c : Control) (w : Bool) (l p : ℕ) → translate m c w l ≡ At p → (p < length m) × (p % 4096 ≡ l % 4096)
unfolding translate
there m c w l p e = by (paging c) refl
  where
    by : (g : Bool) → paging c ≡ g → (p < length m) × (p % 4096 ≡ l % 4096)
    by true on = reach_there (length m) c w l p (page_of m c l) (rw on at e)
    by false on = let k = exists_there (length m) l p (rw on at e) in (omega (arith, k.0, k.1), omega (arith, k.1))

-- ---- the other bytes of a page need no walk of their own

module _ (n : ℕ) (size : n % 4096 ≡ 0) (c : Control) (w : Bool) (l j p : ℕ) (fits : l % 4096 + j < 4096) where
  exists_on : (q : ℕ) → q % 4096 ≡ l % 4096 → exists n q ≡ At p → exists n (q + j) ≡ At (p + j)
  unfolding ask
  exists_on q h e =
      let k = exists_there n q p e in
      let k' : q + j < n = omega (arith, size, fits, h, k.0) in
      rw (lt-ltb (q + j) n k') (ap (λ (x : ℕ). At (x + j)) k.1)

  ask_on : (b : Bool) (r r' : Reply) (q q' : ℕ) → q % 4096 ≡ l % 4096 → q + j ≡ q' → ask b r (exists n q) ≡ At p → ask b r' (exists n q') ≡ At (p + j)
  unfolding ask
  ask_on true r r' q q' h h' e = rw (← h') (exists_on q h e)
  ask_on false r r' q q' h h' e = absurd (not_at e)

  reach_on : (f : Page) → reach n c w l f ≡ At p → reach n c w (l + j) f ≡ At (p + j)
  unfolding reach
  reach_on (Beyond a) e = absurd (not_at e)
  reach_on Absent e = absurd (not_at e)
  reach_on (Mapped us rw' f a b) e = ask_on (rights c w us rw') _ _ (f * 4096 + offset l) (f * 4096 + offset (l + j)) (omega arith) (omega arith) e

module _ (m : Mem) (size : length m % 4096 ≡ 0) (c : Control) (w : Bool) (l j p : ℕ) (fits : l % 4096 + j < 4096) where
  pub same_page : translate m c w l ≡ At p → translate m c w (l + j) ≡ At (p + j)
  unfolding translate
  same_page e = by (paging c) refl
    where
      hd : dir_index (l + j) ≡ dir_index l
      hd = omega arith

      ht : tab_index (l + j) ≡ tab_index l
      ht = omega arith

      by : (g : Bool) → paging c ≡ g → cond (paging c) (reach (length m) c w (l + j) (page_of m c (l + j))) (exists (length m) (l + j)) ≡ At (p + j)
      by true on = rw (on, hd, ht) (reach_on (length m) size c w l j p fits (page_of m c l) (rw on at e))
      by false on = rw on (exists_on (length m) size c w l j p fits l refl (rw on at e))

-- ---- the marks of a page are those of any of its bytes

module _ (n : ℕ) (size : n % 4096 ≡ 0) (c : Control) (w : Bool) (l l' : ℕ) (ps : List Patch) where
  exists_same : (q q' : ℕ) → q / 4096 ≡ q' / 4096 → if_at (exists n q) ps ≡ if_at (exists n q') ps
  unfolding ask if_at
  exists_same q q' h = by (dec_lt q n)
    where
      by : Dec (q < n) → if_at (exists n q) ps ≡ if_at (exists n q') ps
      by (yes k) = let k' : q' < n = omega arith in rw (lt-ltb q n k, lt-ltb q' n k')
      by (no k) =
          let k₀ : n ≤ q = omega arith in
          let k' : n ≤ q' = omega arith in
          rw (le-ltb q n k₀, le-ltb q' n k')

  ask_same : (b : Bool) (r r' : Reply) (q q' : ℕ) → q / 4096 ≡ q' / 4096 → if_at (ask b r (exists n q)) ps ≡ if_at (ask b r' (exists n q')) ps
  unfolding ask if_at
  ask_same true r r' q q' h = exists_same q q' h
  ask_same false r r' q q' h = refl

  reach_same : (f : Page) → if_at (reach n c w l f) ps ≡ if_at (reach n c w l' f) ps
  unfolding reach if_at
  reach_same (Beyond a) = refl
  reach_same Absent = refl
  reach_same (Mapped us rw' f a b) = ask_same (rights c w us rw') _ _ (f * 4096 + offset l) (f * 4096 + offset l') (omega arith)

pub if_none : (t : Translation) → if_at t [] ≡ []
unfolding if_at
if_none (At p) = refl
if_none (No r) = refl

pub marks_page : (m : Mem) → length m % 4096 ≡ 0 → (c : Control) (w : Bool) (l l' : ℕ) → l / 4096 ≡ l' / 4096 → marks m c (touch w l) ≡ marks m c (touch w l')
unfolding marks translate
marks_page m size c w l l' h = by (paging c) refl
  where
    hd : dir_index l ≡ dir_index l'
    hd = omega arith

    ht : tab_index l ≡ tab_index l'
    ht = omega arith

    by : (g : Bool) → paging c ≡ g
        → if_at (cond (paging c) (reach (length m) c w l (page_of m c l)) (exists (length m) l)) (cond (paging c) (marks_of w (page_of m c l)) [])
        ≡ if_at (cond (paging c) (reach (length m) c w l' (page_of m c l')) (exists (length m) l')) (cond (paging c) (marks_of w (page_of m c l')) [])
    by true on = rw (on, hd, ht) (reach_same (length m) size c w l l' (marks_of w (page_of m c l')) (page_of m c l'))
    by false on = rw on (if_none (exists (length m) l) ∙ sym (if_none (exists (length m) l')))
