-- What the log calls the user's own is what demand 3 means by a frame that the maps let the user write.
-- Assumes nothing.
use Rattle.std.proofs.Common.{◌≡◌, ℕ, ◌+◌, ◌*◌, ◌/◌, ◌%◌, ◌<◌, ◌≤◌, Bool, true, false, cond, ◌&&◌, eqb, ◌↔◌, length, sym, refl, ap, ◌∙◌, arith, lt-ltb, eq-eqb, eqb-true}
use mathlib.Core.Bool.{false≢true}
use native.Mathlib.Decide.{dec_lt}
use lib.ListN.{get_or-eq_default}
use Rattle.machine.specs.declared.Control.{Control}
use Rattle.machine.specs.Record.{Mem, at, has}
use Rattle.machine.specs.Paging.{Entry, Gone, Names, entry_of, dword_at, slot, entry, dir_frame, Mapped, within, leaf, under, page_at, page}
use Rattle.machine.specs.Audit.{first, is_some}
use Rattle.isolation.specs.Answers.{Lowest}
use Rattle.isolation.specs.Guarded.{UserFrame}
use Rattle.isolation.proofs.Audited.{and_true, first_none, first_some, some_of, some_is}
use Rattle.isolation.proofs.Isolation.{within_mapped}
use Rattle.frames.specs.Users.{opens_at, opened, leads_at, users}

-- ---- an entry with all three bits

open_entry : (e : ℕ) → e % 8 ≡ 7 → entry_of e ≡ Names true true (e / 4096)
unfolding entry_of
open_entry e h =
    let p : eqb (e % 2) 1 ≡ true = eq-eqb (e % 2) 1 (omega arith) in
    let w : has 2 e ≡ true = eq-eqb (e / 2 % 2) 1 (omega arith) in
    let u : has 4 e ≡ true = eq-eqb (e / 4 % 2) 1 (omega arith) in
    rw (p, w, u) refl

-- an entry past memory is 0
past : (m : Mem) (a : ℕ) → length m ≤ a → dword_at m a ≡ 0
past m a h =
    let z0 : at m a ≡ 0 = get_or-eq_default m 0 h in
    let z1 : at m (a + 1) ≡ 0 = get_or-eq_default m 0 (omega arith) in
    let z2 : at m (a + 2) ≡ 0 = get_or-eq_default m 0 (omega arith) in
    let z3 : at m (a + 3) ≡ 0 = get_or-eq_default m 0 (omega arith) in
    rw (z0, z1, z2, z3) refl

inside : (m : Mem) (a : ℕ) → dword_at m a % 8 ≡ 7 → a < length m
inside m a h = by (dec_lt a (length m))
  where
    by : Dec (a < length m) → a < length m
    by (yes l) = l
    by (no l) = let z : dword_at m a ≡ 0 = past m a (omega arith) in absurd (seven (rw z at h))
      where
        seven : 0 % 8 ≡ 7 → ⊥
        seven e = omega arith

-- ---- a page that such entries make

module _ (m : Mem) (c : Control) (d t : ℕ) (hd : dword_at m (slot (dir_frame c) d) % 8 ≡ 7) where
  abbrev table : ℕ
  table = dword_at m (slot (dir_frame c) d) / 4096

  open_page : dword_at m (slot table t) % 8 ≡ 7 → page m c d t ≡ Mapped true true (dword_at m (slot table t) / 4096) (slot (dir_frame c) d) (slot table t)
  unfolding page_at within under leaf
  open_page ht =
      rw (lt-ltb _ _ (inside m (slot (dir_frame c) d) hd), open_entry _ hd)
      (rw (lt-ltb _ _ (inside m (slot table t) ht), open_entry _ ht) refl)

-- ---- and what makes such a page

three : (e : ℕ) → e % 2 ≡ 1 → e / 2 % 2 ≡ 1 → e ≡ 4 * (e / 4) + 3
three e p w =
    let q = e / 2 / 2 in
    let f : e ≡ 4 * q + 3 = omega (arith, p, w) in
    let g : e / 4 ≡ q = omega (arith, f) in
    omega (arith, f, g)

seven : (e : ℕ) → e % 2 ≡ 1 → e / 2 % 2 ≡ 1 → e / 4 % 2 ≡ 1 → e % 8 ≡ 7
seven e p w u =
    let q = e / 4 / 2 in
    let f : e / 4 ≡ 2 * q + 1 = omega (arith, u) in
    let g : e ≡ 8 * q + 7 = three e p w ∙ (omega (arith, f)) in
    rest e q g
  where
    rest : (e q : ℕ) → e ≡ 8 * q + 7 → e % 8 ≡ 7
    rest e q g = omega arith

-- a present entry of which both bits are set
open_back : (e : ℕ) (us rw' : Bool) (f : ℕ) → entry_of e ≡ Names us rw' f → us ≡ true → rw' ≡ true → (e % 8 ≡ 7) × (f ≡ e / 4096)
unfolding entry_of
open_back e us rw' f h eu ew = by (eqb (e % 2) 1) refl h
  where
    by : (b : Bool) → eqb (e % 2) 1 ≡ b → cond b (Names (has 4 e) (has 2 e) (e / 4096)) Gone ≡ Names us rw' f → (e % 8 ≡ 7) × (f ≡ e / 4096)
    by true p q =
        let u : has 4 e ≡ us = cc in
        let w : has 2 e ≡ rw' = cc in
        let g : e / 4096 ≡ f = cc in
        (seven e (eqb-true _ _ p) (eqb-true _ _ (w ∙ ew)) (eqb-true _ _ (u ∙ eu)), sym g)
    by false p q = let z : ◌≡◌ {A = ℕ} 0 1 = cc in absurd (omega arith)

module _ (m : Mem) (c : Control) (f d t x y : ℕ) where
  -- both entries of a page that the user may write
  abbrev Opens : Type 0
  Opens = (dword_at m (slot (dir_frame c) d) % 8 ≡ 7) × ((dword_at m (slot (dword_at m (slot (dir_frame c) d) / 4096) t) % 8 ≡ 7) × (f ≡ dword_at m (slot (dword_at m (slot (dir_frame c) d) / 4096) t) / 4096))

  open_both : page m c d t ≡ Mapped true true f x y → Opens
  unfolding page_at under leaf
  open_both h = by (entry m (dir_frame c) d) refl (within_mapped _ _ _ _ _ _ _ _ h)
    where
      leafed : (us rw' : Bool) (g : ℕ) → entry m (dir_frame c) d ≡ Names us rw' g → (z : Entry) → entry m g t ≡ z → leaf us rw' (slot (dir_frame c) d) (slot g t) z ≡ Mapped true true f x y → Opens
      leafed us rw' g q Gone r k = let z : ◌≡◌ {A = ℕ} 0 1 = cc in absurd (omega arith)
      leafed us rw' g q (Names us' rw'' f') r k =
          let a : true ≡ (us && us') = cc in
          let b : true ≡ (rw' && rw'') = cc in
          let n : f' ≡ f = cc in
          let u = and_true us us' (sym a) in
          let w = and_true rw' rw'' (sym b) in
          let top = open_back _ us rw' g q u.0 w.0 in
          let low = open_back _ us' rw'' f' r u.1 w.1 in
          (top.0, rw (← top.1) (low.0, sym n ∙ low.1))

      by : (z : Entry) → entry m (dir_frame c) d ≡ z → under m (slot (dir_frame c) d) t z ≡ Mapped true true f x y → Opens
      by Gone q k = let z : ◌≡◌ {A = ℕ} 0 1 = cc in absurd (omega arith)
      by (Names us rw' g) q k = leafed us rw' g q (entry m g t) refl (within_mapped _ _ _ _ _ _ _ _ k)

-- ---- the searches

module _ (p : ℕ → Bool) (i : ℕ) where
  some_there : i < 1024 → p i ≡ true → is_some (first p 1024) ≡ true
  some_there l h = some_of (first p 1024) (λ q. false≢true (sym (first_none p 1024 q i l) ∙ h))

found_there : (p : ℕ → Bool) → is_some (first p 1024) ≡ true → (i : ℕ) × (Lowest p 1024 i)
found_there p h = let o = some_is (first p 1024) h in (o.0, first_some p 1024 o.0 o.1)

module _ (m : Mem) (c : Control) (f : ℕ) where
  users_mapped : users m c f ≡ true → UserFrame m c f
  unfolding users opened
  users_mapped h =
      let d = found_there (leads_at m c f) h in
      let top = and_true _ _ d.1.passes in
      let t = found_there (opens_at m (dword_at m (slot (dir_frame c) d.0) / 4096) f) top.1 in
      let low = and_true _ _ t.1.passes in
      let k = open_page m c d.0 t.0 (eqb-true _ _ top.0) (eqb-true _ _ low.0) in
      record {
        dir = d.0;
        tab = t.0;
        dir_slot = slot (dir_frame c) d.0;
        tab_slot = slot (dword_at m (slot (dir_frame c) d.0) / 4096) t.0;
        dir_small = d.1.small;
        tab_small = t.1.small;
        maps = k ∙ ap (λ (g : ℕ). Mapped true true g (slot (dir_frame c) d.0) (slot (dword_at m (slot (dir_frame c) d.0) / 4096) t.0)) (sym (eqb-true _ _ low.1));
      }

  mapped_users : UserFrame m c f → users m c f ≡ true
  unfolding users opened
  mapped_users u =
      let k = open_both m c f u.dir u.tab _ _ u.maps in
      let low = some_there (opens_at m (dword_at m (slot (dir_frame c) u.dir) / 4096) f) u.tab u.tab_small (rw (eq-eqb _ _ k.1.0) (eq-eqb _ _ k.1.1)) in
      some_there (leads_at m c f) u.dir u.dir_small (rw (eq-eqb _ _ k.0) low)

  pub users_are : users m c f ≡ true ↔ UserFrame m c f
  users_are = (users_mapped, mapped_users)
