-- What a step's patches can change, where the audit says Safe and the step is ring 3's.
-- Assumes nothing.
use Prim.Native.Nat.{ℕ, ◌+◌, ◌*◌, ◌/◌, ◌%◌, ◌<◌}
use mathlib.Core.Path.{◌≡◌, refl, sym, ap, ◌∙◌, subst₂}
use mathlib.Core.Logic.{◌≢◌, ◌⊎◌, inl, inr}
use mathlib.Core.Bool.{Bool, true, false, not, ◌&&◌, ◌||◌, cond, false≢true}
use mathlib.Core.List.{List, [], ◌∷◌, ◌++◌}
use native.Mathlib.Omega.{arith}
use native.Mathlib.Decide.{dec_lt, ℕ_discrete}
use lib.ListN.{length, length-set}
use lib.Seq.{get_or-set_same, get_or-set_other, set_out}
use lib.Dec.{ltb}
use Rattle.machine.specs.declared.Control.{Control}
use Rattle.machine.specs.declared.Reply.{Reply}
use Rattle.machine.specs.declared.Reply.TheVariants.{Safe}
use Rattle.machine.specs.Record.{Mem, at, paging, user, write_protect}
use Rattle.machine.specs.Paging.{Entry, Gone, Names, dword_at, slot, entry, dir_frame, dir_index, tab_index, offset}
use Rattle.machine.specs.Paging.{Page, Beyond, Absent, Mapped, within, leaf, under, page_at, page, page_of}
use Rattle.machine.specs.Paging.{Translation, At, No, ask, exists, rights, reach, translate}
use Rattle.machine.specs.Commit.{Patch, patch, patches, Touch, Store, mark, marks_of, if_at, marks, stored, touched, written, commit}
use Rattle.machine.specs.Audit.{tables}
use Rattle.isolation.specs.Guarded.{TableFrame, directory, table, MappedFrame, UserFrame}
use Rattle.isolation.specs.Guarded.{Alike, Change, kept, in_user, marked, Isolated}
use Rattle.isolation.proofs.Same.{entry_of_alike, SameMaps}
use Rattle.isolation.proofs.Audited.{and_true, tables_safe}

-- ---- what patches change

abbrev All : (Patch → Type 0) → List Patch → Type 0
All P [] = Unit {0}
All P (p ∷ ps) = P p × All P ps

all_append : (P : Patch → Type 0) (ps qs : List Patch) → All P ps → All P qs → All P (ps ++ qs)
all_append P [] qs a b = b
all_append P (p ∷ ps) qs a b = (a.0, all_append P ps qs a.1 b)

-- a patch that marks an entry, or stores where the user may write
data Allowed (m : Mem) (c : Control) (p : Patch) : Type 0 where
  marking : TableFrame m c (p.place / 4096) → p.place % 4 ≡ 0 → ((b : ℕ) → Alike b (p.becomes b)) → Allowed m c p
  storing : UserFrame m c (p.place / 4096) → Allowed m c p

pub change_trans : (m : Mem) (c : Control) (i a b d : ℕ) → Change m c i a b → Change m c i b d → Change m c i a d
change_trans m c i a b d (kept e) y = rw e y
change_trans m c i a b d (in_user u) y = in_user u
change_trans m c i a b d (marked t z h) (kept e) = marked t z (rw e at h)
change_trans m c i a b d (marked t z h) (in_user u) = in_user u
change_trans m c i a b d (marked t z h) (marked t' z' h') = marked t z (omega arith)

-- byte i after one patch: as before, or it is the patch's and becomes what the patch says
abbrev Patched : Patch → Mem → ℕ → Type 0
Patched p n i = (at (patch p n) i ≡ at n i) ⊎ ((i ≡ p.place) × (at (patch p n) i ≡ p.becomes (at n i)))

at_patch : (p : Patch) (n : Mem) (i : ℕ) → Patched p n i
unfolding patch
at_patch p n i = by (ℕ_discrete i p.place) (dec_lt i (length n))
  where
    by : Dec (i ≡ p.place) → Dec (i < length n) → Patched p n i
    by (no e) l = inl (get_or-set_other n p.place i _ 0 e)
    by (yes e) (yes l) = inr (e, rw (← e) (get_or-set_same n i _ 0 l))
    by (yes e) (no l) = inl (ap (λ (x : Mem). at x i) (set_out n p.place _ (omega arith)))

patch_change : (m : Mem) (c : Control) (p : Patch) (n : Mem) (i : ℕ) → Allowed m c p → Change m c i (at n i) (at (patch p n) i)
patch_change m c p n i a = by (at_patch p n i) a
  where
    by : Patched p n i → Allowed m c p → Change m c i (at n i) (at (patch p n) i)
    by (inl e) a = kept (sym e)
    by (inr e) (marking t z h) = marked (rw e.0 t) (rw e.0 z) (rw e.1 (h (at n i)))
    by (inr e) (storing u) = in_user (rw e.0 u)

patches_change : (m : Mem) (c : Control) (ps : List Patch) (n : Mem) (i : ℕ) → All (Allowed m c) ps
    → Change m c i (at n i) (at (patches ps n) i)
unfolding patches
patches_change m c [] n i a = kept refl
patches_change m c (p ∷ ps) n i a =
    change_trans m c i _ _ _ (patch_change m c p n i a.0) (patches_change m c ps (patch p n) i a.1)

pub patches_length : (ps : List Patch) (n : Mem) → length n ≡ length (patches ps n)
unfolding patches patch
patches_length [] n = refl
patches_length (p ∷ ps) n = sym (length-set n _ _) ∙ patches_length ps (patch p n)

-- ---- the patches of a step

alike_mark : (w : Bool) (b : ℕ) → Alike b (mark w b)
alike_mark true b = omega arith
alike_mark false b = omega arith

-- where the entries of a mapped page lie: in the directory, and in a table that it names
data Slots (m : Mem) (c : Control) : ℕ → ℕ → Type 0 where
  pair : (d t f : ℕ) (us rw' : Bool) → d < 1024 → t < 1024 → entry m (dir_frame c) d ≡ Names us rw' f
      → Slots m c (slot (dir_frame c) d) (slot f t)

pub within_mapped : (n a : ℕ) (k : Page) (us rw' : Bool) (f x y : ℕ) → within n a k ≡ Mapped us rw' f x y → k ≡ Mapped us rw' f x y
unfolding within
within_mapped n a k us rw' f x y e = by (ltb a n) e
  where
    by : (b : Bool) → cond b k (Beyond a) ≡ Mapped us rw' f x y → k ≡ Mapped us rw' f x y
    by true e = e
    by false e = let z : ◌≡◌ {A = ℕ} 0 1 = cc in absurd (omega arith)

leaf_slots : (us rw' us' rw'' : Bool) (f a b x y : ℕ) (e : Entry) → leaf us rw' a b e ≡ Mapped us' rw'' f x y → (a ≡ x) × (b ≡ y)
unfolding leaf
leaf_slots us rw' us' rw'' f a b x y Gone e = let z : ◌≡◌ {A = ℕ} 0 1 = cc in absurd (omega arith)
leaf_slots us rw' us' rw'' f a b x y (Names u w g) e = (cc, cc)

page_slots : (m : Mem) (c : Control) (d t : ℕ) → d < 1024 → t < 1024 → (us rw' : Bool) (f x y : ℕ)
    → page m c d t ≡ Mapped us rw' f x y → Slots m c x y
unfolding page_at under
page_slots m c d t hd ht us rw' f x y e = by (entry m (dir_frame c) d) refl (within_mapped _ _ _ us rw' f x y e)
  where
    by : (z : Entry) → entry m (dir_frame c) d ≡ z → under m (slot (dir_frame c) d) t z ≡ Mapped us rw' f x y → Slots m c x y
    by Gone q e = let z : ◌≡◌ {A = ℕ} 0 1 = cc in absurd (omega arith)
    by (Names u w g) q e =
        let h = leaf_slots u w us rw' f _ _ x y (entry m g t) (within_mapped _ _ _ us rw' f x y e) in
        subst₂ (Slots m c) h.0 h.1 (pair d t g u w hd ht q)

marks_of_allowed : (m : Mem) (c : Control) (w : Bool) (d t : ℕ) → d < 1024 → t < 1024 → (p : Page) → page m c d t ≡ p
    → All (Allowed m c) (marks_of w p)
unfolding marks_of
marks_of_allowed m c w d t hd ht (Beyond a) e = tt
marks_of_allowed m c w d t hd ht Absent e = tt
marks_of_allowed m c w d t hd ht (Mapped us rw' f x y) e = by x y (page_slots m c d t hd ht us rw' f x y e)
  where
    by : (x y : ℕ) → Slots m c x y
        → All (Allowed m c) (record { place = x; becomes = mark false } ∷ record { place = y; becomes = mark w } ∷ [])
    by x y (pair d t f us rw' hd ht e) =
        let e1 : dir_frame c ≡ slot (dir_frame c) d / 4096 = omega arith in
        let e2 : f ≡ slot f t / 4096 = omega arith in
        let a : Allowed m c (record { place = slot (dir_frame c) d; becomes = mark false }) =
        marking (directory (sym e1)) (omega arith) (alike_mark false) in
        let b : Allowed m c (record { place = slot f t; becomes = mark w }) =
        marking (rw (← e2) (table d us rw' hd e)) (omega arith) (alike_mark w) in
        (a, (b, tt))

marks_allowed : (m : Mem) (c : Control) (t : Touch) → All (Allowed m c) (marks m c t)
unfolding marks if_at
marks_allowed m c t = by (translate m c t.write t.linear) (paging c)
  where
    ps : List Patch
    ps = marks_of t.write (page_of m c t.linear)

    by : (r : Translation) (g : Bool) → All (Allowed m c) (if_at r (cond g ps []))
    by (No q) g = tt
    by (At p) true = marks_of_allowed m c t.write (dir_index t.linear) (tab_index t.linear) (omega arith) (omega arith) _ refl
    by (At p) false = tt

ask_at : (b : Bool) (r : Reply) (k : Translation) (p : ℕ) → ask b r k ≡ At p → (b ≡ true) × (k ≡ At p)
unfolding ask
ask_at true r k p e = (refl, e)
ask_at false r k p e = let z : ◌≡◌ {A = ℕ} 0 1 = cc in absurd (omega arith)

at_inj : (p q : ℕ) → At p ≡ At q → p ≡ q
at_inj p q e = cc

-- ring 3 needs U/S to read, and R/W too to write
may_read : (c : Control) (w us rw' : Bool) → user c ≡ true → rights c w us rw' ≡ true → us ≡ true
unfolding rights
may_read c w us rw' r e = by (user c) r (and_true (not (user c) || us) _ e).0
  where
    by : (u : Bool) → u ≡ true → not u || us ≡ true → us ≡ true
    by true r e = e
    by false r e = absurd (false≢true r)

may_write : (c : Control) (us rw' : Bool) → user c ≡ true → rights c true us rw' ≡ true → rw' ≡ true
unfolding rights
may_write c us rw' r e = by (user c) r (and_true (not (user c) || us) _ e).1
  where
    by : (u : Bool) → u ≡ true → not (true && (u || write_protect c)) || rw' ≡ true → rw' ≡ true
    by true r e = e
    by false r e = absurd (false≢true r)

-- what ring 3 reaches is mapped for it, with the rights to it
abbrev pub Reached : Mem → Control → Bool → ℕ → Type 0
Reached m c w p = (rw' : Bool) × (MappedFrame m c rw' (p / 4096)) × (rights c w true rw' ≡ true)

reach_mapped : (m : Mem) (c : Control) (w : Bool) (l p : ℕ) → user c ≡ true → (g : Page) → page_of m c l ≡ g
    → reach (length m) c w l g ≡ At p → Reached m c w p
unfolding reach
reach_mapped m c w l p r (Beyond a) e h = let z : ◌≡◌ {A = ℕ} 0 1 = cc in absurd (omega arith)
reach_mapped m c w l p r Absent e h = let z : ◌≡◌ {A = ℕ} 0 1 = cc in absurd (omega arith)
reach_mapped m c w l p r (Mapped us rw' f x y) e h =
    let a = ask_at (rights c w us rw') _ _ p h in
    let b = ask_at _ _ _ p a.1 in
    let q : f * 4096 + offset l ≡ p = at_inj _ _ b.1 in
    let g : f ≡ p / 4096 = omega arith in
    let u : us ≡ true = may_read c w us rw' r a.0 in
    let f' : MappedFrame m c rw' (p / 4096) = record {
      dir = dir_index l;
      tab = tab_index l;
      dir_slot = x;
      tab_slot = y;
      dir_small = omega arith;
      tab_small = omega arith;
      maps = rw (← g, ← u) e;
    } in
    (rw', f', rw u at a.0)

-- ring 3, with paging on
module _ (m : Mem) (c : Control) (on : paging c ≡ true) (ring3 : user c ≡ true) where
  pub translate_mapped : (w : Bool) (l p : ℕ) → translate m c w l ≡ At p → Reached m c w p
  unfolding translate
  translate_mapped w l p e =
      reach_mapped m c w l p ring3 (page_of m c l) refl
      (sym (ap (λ (b : Bool). cond b (reach (length m) c w l (page_of m c l)) (exists (length m) l)) on) ∙ e)

  stored_allowed : (s : Store) (r : Translation) → translate m c true s.linear ≡ r → All (Allowed m c) (stored s r)
  unfolding stored
  stored_allowed s (No q) e = tt
  stored_allowed s (At p) e =
      let t = translate_mapped true s.linear p e in
      (storing (rw (may_write c true t.0 ring3 t.2) at t.1), tt)

  touched_allowed : (ts : List Touch) → All (Allowed m c) (touched m c ts)
  unfolding touched
  touched_allowed [] = tt
  touched_allowed (t ∷ ts) = all_append _ (marks m c t) _ (marks_allowed m c t) (touched_allowed ts)

  written_allowed : (ss : List Store) → All (Allowed m c) (written m c ss)
  unfolding written
  written_allowed [] = tt
  written_allowed (s ∷ ss) =
      all_append _ (stored s (translate m c true s.linear)) _ (stored_allowed s _ refl) (written_allowed ss)

  pub commit_isolated : (ts : List Touch) (ss : List Store) → Isolated m c (commit m c ts ss)
  unfolding commit
  commit_isolated ts ss =
      let ps : List Patch = touched m c ts ++ written m c ss in
      let allowed : All (Allowed m c) ps = all_append _ (touched m c ts) _ (touched_allowed ts) (written_allowed ss) in
      record {
        size = patches_length ps m;
        changes = λ i. patches_change m c ps m i allowed;
      }

-- ---- an isolated change leaves the maps saying the same

dword_low : (b x y z : ℕ) → (b + 256 * x + 65536 * y + 16777216 * z) % 32 ≡ b % 32
dword_low b x y z = omega arith

dword_high : (b x y z : ℕ) → (b + 256 * x + 65536 * y + 16777216 * z) / 128 ≡ b / 128 + 2 * x + 512 * y + 131072 * z
dword_high b x y z = omega arith

-- a byte of a table: the low ones of entries alike, the others kept
pub record TableBytes (m : Mem) (c : Control) (n : Mem) : Type 0 where
  pub low : (i : ℕ) → TableFrame m c (i / 4096) → Alike (at m i) (at n i)
  pub high : (i : ℕ) → TableFrame m c (i / 4096) → i % 4 ≢ 0 → at m i ≡ at n i

pub table_bytes : (m n : Mem) (c : Control) → tables m c ≡ Safe → Isolated m c n → TableBytes m c n
table_bytes m n c safe iso = record { low = λ i t. lo i t (iso.changes i); high = λ i t o. hi i t o (iso.changes i) }
  where
    lo : (i : ℕ) → TableFrame m c (i / 4096) → Change m c i (at m i) (at n i) → Alike (at m i) (at n i)
    lo i t (kept e) = (ap (λ (x : ℕ). x % 32) e, ap (λ (x : ℕ). x / 128) e)
    lo i t (in_user u) = absurd ((tables_safe m c safe).apart _ u t)
    lo i t (marked t' z h) = h

    hi : (i : ℕ) → TableFrame m c (i / 4096) → i % 4 ≢ 0 → Change m c i (at m i) (at n i) → at m i ≡ at n i
    hi i t o (kept e) = e
    hi i t o (in_user u) = absurd ((tables_safe m c safe).apart _ u t)
    hi i t o (marked t' z h) = absurd (o z)

module _ (m n : Mem) (c : Control) (size : length m ≡ length n) (b : TableBytes m c n) where
  entry_same : (f i : ℕ) → i < 1024 → TableFrame m c f → entry m f i ≡ entry n f i
  entry_same f i h t =
      let a : ℕ = slot f i in
      let e0 : f ≡ a / 4096 = omega arith in
      let e1 : f ≡ (a + 1) / 4096 = omega arith in
      let e2 : f ≡ (a + 2) / 4096 = omega arith in
      let e3 : f ≡ (a + 3) / 4096 = omega arith in
      let b0 : Alike (at m a) (at n a) = b.low a (rw (← e0) t) in
      let b1 : at m (a + 1) ≡ at n (a + 1) = b.high (a + 1) (rw (← e1) t) (omega arith) in
      let b2 : at m (a + 2) ≡ at n (a + 2) = b.high (a + 2) (rw (← e2) t) (omega arith) in
      let b3 : at m (a + 3) ≡ at n (a + 3) = b.high (a + 3) (rw (← e3) t) (omega arith) in
      entry_of_alike (dword_at m a) (dword_at n a) (
        dword_low _ _ _ _ ∙ b0.0 ∙ sym (dword_low _ _ _ _),
        dword_high _ _ _ _ ∙ (λ j. b0.1 j + 2 * b1 j + 512 * b2 j + 131072 * b3 j) ∙ sym (dword_high _ _ _ _),
      )

  pub bytes_same : SameMaps c m n
  bytes_same = record {
    size = size;
    dirs = λ d h. entry_same (dir_frame c) d h (directory refl);
    tabs = λ d t hd ht us rw' f e. entry_same f t ht (table d us rw' hd e);
  }
