-- The one access of a short form is the definition's two, found with nothing to mark; and a store elsewhere leaves kept pages as they are.
-- Assumes nothing.
use Prim.Native.Nat.{ℕ, ◌+◌, ◌/◌, ◌%◌, ◌<◌, ◌≤◌}
use mathlib.Core.Path.{◌≡◌, refl, sym, ap, ◌∙◌}
use mathlib.Core.Logic.{◌≢◌}
use mathlib.Core.Bool.{Bool, true, false, cond, ◌&&◌, ◌||◌, false≢true}
use mathlib.Core.List.{List, [], append-nil}
use native.Mathlib.Omega.{arith}
use native.Mathlib.Decide.{ℕ_discrete}
use borrow.Author.Tests.{ne_eqb, eqb-true, eqb-false, ltb-false}
use lib.Dec.{eqb, ltb}
use lib.ListN.{length, set, length-set}
use lib.Seq.{get_or-set_other}
use Rattle.machine.specs.declared.Control.{Control}
use Rattle.machine.specs.declared.Want.TheVariants.{Nothing}
use Rattle.machine.specs.Record.{Mem, at}
use Rattle.machine.specs.Paging.{dword_at, dir_frame}
use Rattle.machine.specs.Commit.{Patch, patch, patches}
use Rattle.std.specs.Prelude.{None}
use Rattle.paging.specs.declared.Physical.{Physical}
use Rattle.keptpages.specs.declared.Kept.{Kept}
use Rattle.paging.specs.Walked.{patches_of}
use Rattle.keptpages.specs.Quiet.{Quiet, Agree, KeptOk, page_in, HeldOk}
use Rattle.access.specs.declared.Access.{Access}
use Rattle.access.specs.Located.{asked, trail_marks, placed, puts, nowhere, Held}
use Rattle.access.proofs.Laws.{nothing_held, near_held, byte_held}
use Rattle.outcome.specs.declared.Fast.{Fast}
use Rattle.outcome.specs.Outcome.{asks, want_first, want_second, stores, left_of, right_of}
use Rattle.shortcut.proofs.Small.{or_left, or_right}
use Rattle.hops.specs.declared.Sought.{Sought}
use Rattle.phases.specs.Planned.{access_marks}
use Rattle.hops.specs.Hops.{spotted, saved, Holds, Reaches, Spared, PagesOk}

-- ---- what is asked

module _ (p : Fast) where
  want_first_lem : (p.access ≡ 0 → ⊥) → asks 4 p ≡ false → want_first p ≡ asked (stores p) p.wide p.at
  unfolding want_first
  want_first_lem n h = by (asks 3 p) refl
    where
      by : (w : Bool) → asks 3 p ≡ w → want_first p ≡ asked (stores p) p.wide p.at
      by true h' = rw (ne_eqb _ _ n, h, h')
      by false h' = rw (ne_eqb _ _ n, h, h')

  want_no_first : asks 4 p ≡ true → want_first p ≡ Nothing
  unfolding want_first
  want_no_first h = rw (eqb-true p.access 4 h)

  want_second_lem : asks 4 p ≡ true → want_second p ≡ asked (stores p) p.wide p.at
  unfolding want_second
  want_second_lem h = rw (eqb-true p.access 4 h)

  want_no_second : asks 4 p ≡ false → want_second p ≡ Nothing
  unfolding want_second
  want_no_second h = rw h

-- ---- the value and the operands

pub pushed : (p : Fast) (v : ℕ) (q : Sought) → p.access ≡ 4 → q.value ≡ 0 → q.x ≡ p.x → q.y ≡ p.y → Holds p v q
pushed p v q h ev ex ey = record { value = ev ∙ rw h; left = ex ∙ rw h; right = ey ∙ rw h }

pub read : (p : Fast) (v : ℕ) (q : Sought) → p.access ≢ 0 → (p.access ≡ 4 → ⊥) → q.value ≡ v → q.x ≡ left_of p v → q.y ≡ cond (asks 1 p || asks 3 p) p.y v → Holds p v q
read p v q z n ev ex ey =
    let right : cond (asks 1 p || asks 3 p) p.y v ≡ right_of p v = rw (ne_eqb p.access 0 z, ne_eqb p.access 4 n) refl in
    record { value = ev ∙ rw (ne_eqb p.access 4 n) refl; left = ex ∙ ap (left_of p) (sym ev); right = ey ∙ right ∙ ap (right_of p) (sym ev) }

-- ---- the access that was found

module _ (m : Mem) (c : Control) (p : Fast) where
  pub none_reached : (q : Sought) → p.access ≡ 0 → q.value ≡ 0 → q.x ≡ p.x → q.y ≡ p.y → Reaches m c p q
  unfolding want_first want_second trail_marks patches_of patches puts saved
  none_reached q h v x y = record {
    one = nowhere;
    two = nowhere;
    firstly = rw h (nothing_held m c);
    secondly = rw h (nothing_held m c);
    value = sym v;
    operands = (x ∙ rw h, y ∙ rw h);
    quiet = refl;
    left = λ x. rw h;
  }

  module _ (size : length m % 4096 ≡ 0) (small : p.at < 4294967296) (i : Physical) (k : Quiet m c (stores p) p.at i) where
    abbrev found : ℕ → Access
    found v = record { place = spotted p i.0; value = v; write = stores p; trail = record { first = k.entries; last = None } }

    found_held : (v : ℕ) → v ≡ cond p.wide (dword_at m i.0) (at m i.0) → (p.wide ≡ true → p.at % 4096 ≤ 4092) → Held m c (asked (stores p) p.wide p.at) (found v)
    found_held v e fits = by p.wide refl
      where
        by : (w : Bool) → p.wide ≡ w → Held m c (asked (stores p) p.wide p.at) (found v)
        by true h = rw h (near_held m c (stores p) p.at small size v i k.entries (fits h) (rw h at e) k.walked)
        by false h = rw h (byte_held m c (stores p) p.at small v i k.entries (rw h at e) k.walked)

    found_quiet : (v : ℕ) → access_marks (found v) m ≡ m
    unfolding trail_marks patches_of
    found_quiet v = ap (λ (ps : List Patch). patches ps m) (append-nil (patches_of (stores p) k.entries)) ∙ k.marked

    found_left : (v x : ℕ) → patches (puts (found v) x) m ≡ saved p i.0 x m
    unfolding puts saved patches
    found_left v x = by (stores p)
      where
        by : (b : Bool) → patches (cond b (placed (spotted p i.0) x) []) m ≡ cond b (patches (placed (spotted p i.0) x) m) m
        by true = refl
        by false = refl

    pub reached : (q : Sought) (v : ℕ) → (p.access ≡ 0 → ⊥) → (p.wide ≡ true → p.at % 4096 ≤ 4092) → v ≡ cond p.wide (dword_at m i.0) (at m i.0)
        → q.at ≡ i.0 → Holds p v q → Reaches m c p q
    unfolding trail_marks patches_of puts patches
    reached q v n fits ev ei k' = by (asks 4 p) refl
      where
        by : (b : Bool) → asks 4 p ≡ b → Reaches m c p q
        by true h = record {
          one = nowhere;
          two = found v;
          firstly = rw (want_no_first p h) (nothing_held m c);
          secondly = rw (want_second_lem p h) (found_held v ev fits);
          value = sym (k'.value ∙ ap (λ (b : Bool). cond b 0 v) h);
          operands = (k'.left, k'.right);
          quiet = found_quiet v;
          left = λ x. rw ei (found_left v x);
        }
        by false h = record {
          one = found v;
          two = nowhere;
          firstly = rw (want_first_lem p n h) (found_held v ev fits);
          secondly = rw (want_no_second p h) (nothing_held m c);
          value = sym (k'.value ∙ ap (λ (b : Bool). cond b 0 v) h);
          operands = (k'.left, k'.right);
          quiet = found_quiet v;
          left = λ x. rw ei (found_left v x);
        }

-- ---- a store

pub put_there : (m : Mem) (p : Fast) (i v : ℕ) → p.wide ≡ true
    → set (set (set (set m i (v % 256)) (i + 1) (v / 256 % 256)) (i + 2) (v / 65536 % 256)) (i + 3) (v / 16777216 % 256) ≡ patches (placed (spotted p i) v) m
unfolding placed patches patch
put_there m p i v h = rw h

pub put_byte : (m : Mem) (p : Fast) (i v : ℕ) → p.wide ≡ false → set m i (v % 256) ≡ patches (placed (spotted p i) v) m
unfolding placed patches patch
put_byte m p i v h = rw h

-- ---- kept pages, after a store in another frame

apart_four : (x y t d : ℕ) → (eqb x t || eqb y t || eqb x d || eqb y d) ≡ false
    → (x ≡ t → ⊥) × ((y ≡ t → ⊥) × ((x ≡ d → ⊥) × (y ≡ d → ⊥)))
apart_four x y t d e =
    let three = or_left (eqb x t || eqb y t || eqb x d) (eqb y d) e in
    let two = or_left (eqb x t || eqb y t) (eqb x d) three in (
      eqb-false _ _ (or_left (eqb x t) (eqb y t) two),
      (
        eqb-false _ _ (or_right (eqb x t) (eqb y t) two),
        (eqb-false _ _ (or_right (eqb x t || eqb y t) (eqb x d) three), eqb-false _ _ (or_right (eqb x t || eqb y t || eqb x d) (eqb y d) e)),
      ),
    )

-- nothing but four bytes from i on is changed
module _ (m : Mem) (i v : ℕ) where
  abbrev one : Mem
  one = set m i (v % 256)

  abbrev two : Mem
  two = set one (i + 1) (v / 256 % 256)

  abbrev three : Mem
  three = set two (i + 2) (v / 65536 % 256)

  abbrev pub four : Mem
  four = set three (i + 3) (v / 16777216 % 256)

  pub four_length : length four ≡ length m
  four_length = length-set three (i + 3) (v / 16777216 % 256) ∙ length-set two (i + 2) (v / 65536 % 256) ∙ length-set one (i + 1) (v / 256 % 256) ∙ length-set m i (v % 256)

  pub four_agree : (f : ℕ) → (i / 4096 ≡ f → ⊥) → ((i + 3) / 4096 ≡ f → ⊥) → Agree m four f
  four_agree f a b j h =
      let n0 : j ≡ i → ⊥ = λ e. a (omega arith) in
      let n1 : j ≡ i + 1 → ⊥ = λ e. apart j 1 h a b (omega arith) e in
      let n2 : j ≡ i + 2 → ⊥ = λ e. apart j 2 h a b (omega arith) e in
      let n3 : j ≡ i + 3 → ⊥ = λ e. b (omega arith) in
      get_or-set_other three (i + 3) j (v / 16777216 % 256) 0 n3 ∙ get_or-set_other two (i + 2) j (v / 65536 % 256) 0 n2
      ∙ get_or-set_other one (i + 1) j (v / 256 % 256) 0 n1 ∙ get_or-set_other m i j (v % 256) 0 n0
    where
      apart : (j k : ℕ) → j / 4096 ≡ f → (i / 4096 ≡ f → ⊥) → ((i + 3) / 4096 ≡ f → ⊥) → k ≤ 3 → j ≡ i + k → ⊥
      apart j k h a b l e = by (ℕ_discrete (j / 4096) (i / 4096))
        where
          by : Dec (j / 4096 ≡ i / 4096) → ⊥
          by (yes z) = a (sym z ∙ h)
          by (no z) = let q : (i + 3) / 4096 ≡ j / 4096 = omega arith in b (q ∙ h)

  one_agree : (f : ℕ) → (i / 4096 ≡ f → ⊥) → Agree m (set m i (v % 256)) f
  one_agree f a j h = let n : j ≡ i → ⊥ = λ e. a (omega arith) in get_or-set_other m i j (v % 256) 0 n

agree_on : (m m' m'' : Mem) (f : ℕ) → Agree m m' f → Agree m' m'' f → Agree m m'' f
agree_on m m' m'' f g g' i h = g' i h ∙ g i h

-- a page that stays in one memory stays in another that has its entries' frames
moves_on : (m m' : Mem) (c : Control) (w : Bool) (h : Kept) → Spared m m' c h.table → KeptOk m c w h → KeptOk m' c w h
moves_on m m' c w h g k = record {
  low = k.low;
  whole = λ s. rw g.0 (k.whole s);
  stays = λ s m'' n a a'. k.stays s m'' (n ∙ g.0) (agree_on m m' m'' (dir_frame c) g.1.0 a) (agree_on m m' m'' h.table g.1.1 a');
}

pub pages_move_on : (m m' : Mem) (c : Control) (h : Kept) (d : List ℕ) → Spared m m' c h.table → PagesOk m c h d → PagesOk m' c h d
pages_move_on m m' c h d g k = (moves_on m m' c false h g k.0, λ j. moves_on m m' c _ (page_in d h.table j) g (k.1 j))

module _ (m : Mem) (c : Control) (t : ℕ) (p : Fast) (i v : ℕ) where
  pub saved_all : stores p ≡ true → patches (placed (spotted p i) v) m ≡ saved p i v m
  unfolding saved
  saved_all s = rw s

  pub unsaved : stores p ≡ false → (m ≡ saved p i v m) × ((true ≡ true) × (true ≡ true → Spared m m c t))
  unfolding saved
  unsaved s = (rw s, (refl, λ _. (refl, (λ _ _. refl, λ _ _. refl))))

  spared : {m' : Mem} → m' ≡ patches (placed (spotted p i) v) m → (i / 4096 ≡ t → ⊥) → ((i + 3) / 4096 ≡ t → ⊥) → (i / 4096 ≡ dir_frame c → ⊥) → ((i + 3) / 4096 ≡ dir_frame c → ⊥)
      → Spared m m' c t
  unfolding placed patches patch
  spared {m' = m'} e a a' b b' = by p.wide refl
    where
      by : (w : Bool) → p.wide ≡ w → Spared m m' c t
      by true w =
          let e' : m' ≡ four m i v = e ∙ rw w refl in
          rw e' (four_length m i v, (four_agree m i v (dir_frame c) b b', four_agree m i v t a a'))
      by false w =
          let e' : m' ≡ set m i (v % 256) = e ∙ rw w refl in
          rw e' (length-set m i _, (one_agree m i v (dir_frame c) b, one_agree m i v t a))

  -- the code's test of the frames
  pub sparing : {m' : Mem} → m' ≡ patches (placed (spotted p i) v) m
      → (eqb (i / 4096) t || eqb ((i + 3) / 4096) t || eqb (i / 4096) (dir_frame c) || eqb ((i + 3) / 4096) (dir_frame c)) ≡ false → Spared m m' c t
  sparing e h = let n = apart_four _ _ _ _ h in spared e n.0 n.1.0 n.1.1.0 n.1.1.1

-- ---- from the code's tests

pub near_enough : (w : Bool) (x : ℕ) → (w && ltb 4092 x) ≡ false → w ≡ true → x ≤ 4092
near_enough true x e h = ltb-false _ _ e
near_enough false x e h = absurd (false≢true h)

-- pages of data stay where the next code page's entry is in their table
pub same_table : (m : Mem) (c : Control) (d : List ℕ) (t : ℕ) (b : Bool) (k : Kept) → (b && eqb k.table t) ≡ true → (b ≡ true → HeldOk m c t d) → HeldOk m c k.table d
same_table m c d t true k e h = rw (eqb-true k.table t e) (h refl)
same_table m c d t false k e h = absurd (false≢true e)
