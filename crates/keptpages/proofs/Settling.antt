-- A page whose two entries let an access through, with their marks set already: it is reached, and marking it changes nothing.
-- Assumes nothing.
use Rattle.std.proofs.Common.{◌≡◌, ℕ, zero, suc, ◌+◌, ◌*◌, ◌/◌, ◌%◌, ◌<◌, ◌≤◌, Bool, true, false, not, ◌&&◌, ◌||◌, eqb, [], ◌∷◌, length, get_or, set, sym, refl, ap, ◌∙◌, arith, eqb-true}
use mathlib.Core.Bool.{false≢true}
use Rattle.machine.specs.declared.Control.{Control}
use Rattle.machine.specs.Record.{Mem, at, has, paging, user}
use Rattle.machine.specs.Paging.{dword_at, slot, dir_frame, dir_index, tab_index, rights}
use Rattle.machine.specs.Commit.{patch, patches, mark}
use Rattle.std.specs.Prelude.{Some, None}
use Rattle.keptpages.specs.declared.Pair.{Pair}
use Rattle.keptpages.specs.declared.Kept.{Kept}
use Rattle.paging.specs.Walked.{patches_of}
use Rattle.keptpages.specs.Quiet.{Quiet, Pairs, held_to_write, passes, usable, Agree, KeptOk}
use Rattle.paging.proofs.Cases.{mapped, on_at, paged, unpaged, flat_at}

-- ---- bits

both : (a b : Bool) → a && b ≡ true → (a ≡ true) × (b ≡ true)
both true b e = (refl, e)
both false b e = absurd (false≢true e)

-- what passing says of an entry
record Passed (us rw' d : Bool) (x : ℕ) : Type 0 where
  present : x % 2 ≡ 1
  accessed : x / 32 % 2 ≡ 1
  user' : not us || has 4 x ≡ true
  writable : not rw' || has 2 x ≡ true
  dirty : not d || has 64 x ≡ true

passed : (us rw' d : Bool) (x : ℕ) → passes us rw' d x ≡ true → Passed us rw' d x
passed us rw' d x e =
    let p : Bool = eqb (x % 2) 1 in
    let a : Bool = has 32 x in
    let u : Bool = not us || has 4 x in
    let w : Bool = not rw' || has 2 x in
    let e4 = both (p && a && u && w) (not d || has 64 x) e in
    let e3 = both (p && a && u) w e4.0 in
    let e2 = both (p && a) u e3.0 in
    let e1 = both p a e2.0 in
    record { present = eqb-true _ _ e1.0; accessed = eqb-true _ _ e1.1; user' = e2.1; writable = e3.1; dirty = e4.1 }

-- both entries allow it, so together they do
together : (n a b : Bool) → not n || a ≡ true → not n || b ≡ true → not n || (a && b) ≡ true
together true true b e f = f
together true false b e f = e
together false a b e f = refl

allowed_both : (c : Control) (w : Bool) (x y : ℕ) {d e : Bool} → Passed (user c) (held_to_write c w) d x → Passed (user c) (held_to_write c w) e y
    → rights c w (has 4 x && has 4 y) (has 2 x && has 2 y) ≡ true
unfolding rights
allowed_both c w x y p q =
    rw (together (user c) (has 4 x) (has 4 y) p.user' q.user') (together (held_to_write c w) (has 2 x) (has 2 y) p.writable q.writable)

-- ---- marks that are there already

set_back : (m : Mem) (i : ℕ) → set m i (get_or m i 0) ≡ m
set_back [] i = refl
set_back (x ∷ m) zero = refl
set_back (x ∷ m) (suc i) = ap (λ (l : Mem). x ∷ l) (set_back m i)

mark_there : (b : ℕ) → b / 32 % 2 ≡ 1 → mark false b ≡ b
mark_there b h = omega arith

by_fives : (b q r : ℕ) → b ≡ 32 * q + r → r < 32 → q % 2 ≡ 1 → q / 2 % 2 ≡ 1 → r + 96 + q / 4 * 128 ≡ b
by_fives b q r e h k k' = omega arith

sixth : (b : ℕ) → b / 64 ≡ b / 32 / 2
sixth b = omega arith

seventh : (b : ℕ) → b / 128 ≡ b / 32 / 4
seventh b = omega arith

both_there : (b : ℕ) → b / 32 % 2 ≡ 1 → b / 64 % 2 ≡ 1 → mark true b ≡ b
both_there b h k = rw (seventh b) (by_fives b (b / 32) (b % 32) (omega arith) (omega arith) h (rw (sixth b) at k))

low_bit : (x0 y : ℕ) → (x0 + 256 * y) / 32 % 2 ≡ x0 / 32 % 2
low_bit x0 y = omega arith

low_bit_6 : (x0 y : ℕ) → (x0 + 256 * y) / 64 % 2 ≡ x0 / 64 % 2
low_bit_6 x0 y = omega arith

gathered : (a b c d : ℕ) → a + 256 * b + 65536 * c + 16777216 * d ≡ a + 256 * (b + 256 * c + 65536 * d)
gathered a b c d = omega arith

module _ (m : Mem) (a : ℕ) where
  low : (x : ℕ) → x ≡ dword_at m a → x / 32 % 2 ≡ 1 → at m a / 32 % 2 ≡ 1
  low x e h = sym (low_bit (at m a) _) ∙ ap (λ (z : ℕ). z / 32 % 2) (sym (e ∙ gathered (at m a) (at m (a + 1)) (at m (a + 2)) (at m (a + 3)))) ∙ h

  low_6 : (x : ℕ) → x ≡ dword_at m a → x / 64 % 2 ≡ 1 → at m a / 64 % 2 ≡ 1
  low_6 x e h = sym (low_bit_6 (at m a) _) ∙ ap (λ (z : ℕ). z / 64 % 2) (sym (e ∙ gathered (at m a) (at m (a + 1)) (at m (a + 2)) (at m (a + 3)))) ∙ h

  patch_there : (w : Bool) → mark w (at m a) ≡ at m a → patch (record { place = a; becomes = mark w }) m ≡ m
  unfolding patch
  patch_there w e = ap (set m a) e ∙ set_back m a

marked_there : (w : Bool) (m : Mem) (a x : ℕ) {us rw' : Bool} → x ≡ dword_at m a → Passed us rw' w x → patch (record { place = a; becomes = mark w }) m ≡ m
marked_there false m a x e p = patch_there m a false (mark_there _ (low m a x e p.accessed))
marked_there true m a x e p = patch_there m a true (both_there _ (low m a x e p.accessed) (low_6 m a x e (eqb-true _ _ p.dirty)))

-- ---- a byte of the page

module _ (m : Mem) (c : Control) (w : Bool) (l : ℕ) (e : Pair) (k : Pairs m c l e) (on : paging c ≡ true) (free : usable c w e ≡ true) where
  tests : (passes (user c) (held_to_write c w) false e.pde ≡ true) × (passes (user c) (held_to_write c w) w e.pte ≡ true)
  unfolding usable
  tests = both _ _ free

  pub quiet_at : (p : ℕ) → p ≡ e.pte / 4096 * 4096 + l % 4096 → p < length m → Quiet m c w l (record { 0 = p })
  unfolding patches_of patches
  quiet_at p ep inside =
      let f = passed _ _ _ e.pde tests.0 in
      let s = passed _ _ _ e.pte tests.1 in
      let page = mapped m c l e.dir k.dir_at k.dir_in e.pde k.dir_is f.present e.tab k.tab_at k.tab_in e.pte k.tab_is s.present in
      record {
        entries = Some (record { dir = record { 0 = e.dir }; table = record { 0 = e.tab } });
        walked = paged m c w l _ on (on_at m c w l _ _ _ _ _ page (allowed_both c w e.pde e.pte f s) p ep inside);
        marked = ap (patch (record { place = e.tab; becomes = mark w })) (marked_there false m e.dir e.pde k.dir_is f) ∙ marked_there w m e.tab e.pte k.tab_is s;
      }

pub quiet_flat : (m : Mem) (c : Control) (w : Bool) (l : ℕ) → paging c ≡ false → l < length m → Quiet m c w l (record { 0 = l })
unfolding patches_of patches
quiet_flat m c w l off inside = record { entries = None; walked = unpaged m c w l _ off (flat_at m l inside); marked = refl }

-- ---- a page that stays

in_frame : (f i j : ℕ) → i < 1024 → j < 4 → (f * 4096 + i * 4 + j) / 4096 ≡ f
in_frame f i j h k = omega arith

dword_agrees : (m m' : Mem) (f i : ℕ) → i < 1024 → Agree m m' f → dword_at m' (slot f i) ≡ dword_at m (slot f i)
dword_agrees m m' f i h g =
    let a0 : at m' (slot f i) ≡ at m (slot f i) = g _ (omega arith) in
    let a1 : at m' (slot f i + 1) ≡ at m (slot f i + 1) = g _ (in_frame f i 1 h (omega arith)) in
    let a2 : at m' (slot f i + 2) ≡ at m (slot f i + 2) = g _ (in_frame f i 2 h (omega arith)) in
    let a3 : at m' (slot f i + 3) ≡ at m (slot f i + 3) = g _ (in_frame f i 3 h (omega arith)) in
    rw (a0, a1, a2, a3)

-- the entries of another byte of the page, in a memory that agrees
pairs_agree : (m m' : Mem) (c : Control) (l l' : ℕ) (e : Pair) → Pairs m c l e → length m' ≡ length m → l / 4096 ≡ l' / 4096
    → Agree m m' (dir_frame c) → Agree m m' (e.pde / 4096) → Pairs m' c l' e
pairs_agree m m' c l l' e k n h g g' =
    let d : dir_index l ≡ dir_index l' = omega arith in
    let t : tab_index l ≡ tab_index l' = omega arith in
    record {
      dir_at = k.dir_at ∙ ap (slot (dir_frame c)) d;
      dir_in = rw n k.dir_in;
      dir_is = k.dir_is ∙ ap (dword_at m) k.dir_at ∙ sym (dword_agrees m m' (dir_frame c) (dir_index l) (omega arith) g) ∙ ap (dword_at m') (sym k.dir_at);
      tab_at = k.tab_at ∙ ap (slot (e.pde / 4096)) t;
      tab_in = rw n k.tab_in;
      tab_is = k.tab_is ∙ ap (dword_at m) k.tab_at ∙ sym (dword_agrees m m' (e.pde / 4096) (tab_index l) (omega arith) g') ∙ ap (dword_at m') (sym k.tab_at);
    }

low_base : (x : ℕ) → x < 4294967296 → x / 4096 * 4096 + 4096 ≤ 4294967296
low_base x h = omega arith

module _ (m : Mem) (c : Control) (w : Bool) (l : ℕ) where
  pub page_stays : (e : Pair) → Pairs m c l e → e.pte < 4294967296 → paging c ≡ true → usable c w e ≡ true → e.pte / 4096 * 4096 + 4096 ≤ length m
      → KeptOk m c w (record { page = l / 4096; base = e.pte / 4096 * 4096; table = e.pde / 4096 })
  page_stays e k small on free fits = record {
    low = λ _. low_base e.pte small;
    whole = λ _. omega (arith, fits);
    stays = λ _ m' n g g' l' s h.
        quiet_at m' c w l' e (pairs_agree m m' c l l' e k n (sym h) g g') on free _ refl (rw n (inside (e.pte / 4096 * 4096) l' fits));
  }
    where
      inside : (b x : ℕ) → b + 4096 ≤ length m → b + x % 4096 < length m
      inside b x h = omega arith

  pub flat_stays : (z : ℕ) → l < 4294967296 → paging c ≡ false → l / 4096 * 4096 + 4096 ≤ length m → KeptOk m c w (record { page = l / 4096; base = l / 4096 * 4096; table = z })
  flat_stays z small off fits = record {
    low = λ _. low_base l small;
    whole = λ _. omega (arith, fits);
    stays = λ _ m' n g g' l' s h. rw (← same l' h) (quiet_flat m' c w l' off (rw n (inside l' h)));
  }
    where
      same : (l' : ℕ) → l' / 4096 ≡ l / 4096 → l' ≡ l / 4096 * 4096 + l' % 4096
      same l' h = omega arith

      inside : (l' : ℕ) → l' / 4096 ≡ l / 4096 → l' < length m
      inside l' h = omega arith

pub no_page_ok : (m : Mem) (c : Control) (w : Bool) (h : Kept) → h.page ≡ 4294967295 → KeptOk m c w h
no_page_ok m c w h e = record { low = λ k. absurd (far h.page e k); whole = λ k. absurd (far h.page e k); stays = λ k. absurd (far h.page e k) }
  where
    far : (p : ℕ) → p ≡ 4294967295 → p < 1048576 → ⊥
    far p e k = omega arith
