-- What the audit's answers mean: Safe is given exactly when nothing is wrong, and what another answer names is the lowest.
-- Assumes nothing.
use Prim.Native.Nat.{ℕ, zero, suc, ◌+◌, ◌*◌, ◌/◌, ◌%◌, ◌<◌, ◌≤◌}
use mathlib.Core.Path.{◌≡◌, refl, sym, ◌∙◌}
use mathlib.Core.Logic.{◌↔◌, ◌⊎◌, inl, inr}
use mathlib.Core.Bool.{Bool, true, false, ◌&&◌, ◌||◌, true≢false, false≢true}
use mathlib.Core.Option.{Option, none, some}
use native.Mathlib.Omega.{arith}
use native.Mathlib.Decide.{dec_lt}
use lib.ListN.{length}
use lib.Dec.{eqb}
use borrow.Author.Tests.{eqb-true, eq-eqb, ltb-true, ltb-false, lt-ltb, not-false}
use Rattle.machine.specs.declared.Control.{Control}
use Rattle.machine.specs.declared.Cpu.{Cpu}
use Rattle.machine.specs.declared.Reply.{Reply}
use Rattle.machine.specs.declared.Reply.TheVariants.{BadRecord, Safe, TableOutside, Exposed}
use Rattle.machine.specs.Record.{Mem, sound}
use Rattle.machine.specs.Paging.{Entry, Gone, Names, entry, dir_frame, Page, Beyond, Absent, Mapped, page}
use Rattle.machine.specs.Audit.{first, later, is_some, in_memory, missing, names, holds_table, opens}
use Rattle.machine.specs.Audit.{found, need, outside, exposed, tables, audit}
use Rattle.isolation.specs.Guarded.{TableFrame, directory, table, UserFrame}
use Rattle.isolation.specs.Answers.{Lowest, SafeTables}

-- ---- tests

clash : (b : Bool) → b ≡ true → b ≡ false → ⊥
clash b p q = true≢false (sym p ∙ q)

false_of : (b : Bool) → (b ≡ true → ⊥) → b ≡ false
false_of true h = absurd (h refl)
false_of false h = refl

pub and_true : (a b : Bool) → a && b ≡ true → (a ≡ true) × (b ≡ true)
and_true true b e = (refl, e)
and_true false b e = absurd (false≢true e)

or_right : (a b : Bool) → b ≡ true → a || b ≡ true
or_right true b e = refl
or_right false b e = e

or_left : (a b : Bool) → a ≡ true → a || b ≡ true
or_left true b e = refl
or_left false b e = absurd (false≢true e)

or_cases : (a b : Bool) → a || b ≡ true → (a ≡ true) ⊎ (b ≡ true)
or_cases true b e = inl refl
or_cases false b e = inr e

-- ---- the search finds the lowest

later_none : (o : Option ℕ) (b : Bool) (n : ℕ) → later o b n ≡ none → (o ≡ none) × (b ≡ false)
later_none none true n e = let z : ◌≡◌ {A = ℕ} 0 1 = cc in absurd (omega arith)
later_none none false n e = (refl, refl)
later_none (some i) b n e = let z : ◌≡◌ {A = ℕ} 0 1 = cc in absurd (omega arith)

up_to : (p : ℕ → Bool) (n : ℕ) → ((i : ℕ) → i < n → p i ≡ false) → p n ≡ false → (i : ℕ) → i < suc n → p i ≡ false
up_to p n below e i h = by (dec_lt i n)
  where
    by : Dec (i < n) → p i ≡ false
    by (yes l) = below i l
    by (no l) = let q : i ≡ n = omega arith in rw q e

pub first_none : (p : ℕ → Bool) (n : ℕ) → first p n ≡ none → (i : ℕ) → i < n → p i ≡ false
unfolding first
first_none p zero e i h = absurd (omega arith)
first_none p (suc n) e i h =
    let both : (first p n ≡ none) × (p n ≡ false) = later_none (first p n) (p n) n e in
    up_to p n (first_none p n both.0) both.1 i h

pub first_some : (p : ℕ → Bool) (n i : ℕ) → first p n ≡ some i → Lowest p n i
unfolding first
first_some p zero i e = let z : ◌≡◌ {A = ℕ} 0 1 = cc in absurd (omega arith)
first_some p (suc n) i e = by (first p n) refl (p n) refl e (λ j q. first_some p n j q)
  where
    by : (o : Option ℕ) → first p n ≡ o → (b : Bool) → p n ≡ b → later o b n ≡ some i
        → ((j : ℕ) → first p n ≡ some j → Lowest p n j) → Lowest p (suc n) i
    by none q true r e ih =
        let h : n ≡ i = cc in
        record { small = omega arith; passes = rw (← h) r; before = λ j l. first_none p n q j (omega arith) }
    by none q false r e ih = let z : ◌≡◌ {A = ℕ} 0 1 = cc in absurd (omega arith)
    by (some k) q b r e ih =
        let h : k ≡ i = cc in
        let w : Lowest p n k = ih k q in
        record { small = omega (arith, w.small); passes = rw (← h) w.passes; before = λ j l. w.before j (omega arith) }

pub all_none : (p : ℕ → Bool) (n : ℕ) → ((i : ℕ) → i < n → p i ≡ false) → first p n ≡ none
all_none p n h = by (first p n) refl
  where
    by : (o : Option ℕ) → first p n ≡ o → o ≡ none
    by none e = refl
    by (some i) e = let w : Lowest p n i = first_some p n i e in absurd (clash (p i) w.passes (h i w.small))

pub some_of : (o : Option ℕ) → (o ≡ none → ⊥) → is_some o ≡ true
some_of none h = absurd (h refl)
some_of (some i) h = refl

pub some_is : (o : Option ℕ) → is_some o ≡ true → (i : ℕ) × (o ≡ some i)
some_is none e = absurd (false≢true e)
some_is (some i) e = (i, refl)

-- ---- holds_table says which frames hold tables

named : (f : ℕ) (e : Entry) → names f e ≡ true → (us : Bool) × (rw' : Bool) × (e ≡ Names us rw' f)
named f Gone h = absurd (false≢true h)
named f (Names us rw' g) h = let q : f ≡ g = eqb-true f g h in (us, rw', rw q refl)

module _ (m : Mem) (c : Control) (f : ℕ) where
  abbrev namer : ℕ → Bool
  namer d = names f (entry m (dir_frame c) d)

  holds : TableFrame m c f → holds_table m c f ≡ true
  unfolding holds_table
  holds (directory e) = or_left _ _ (eq-eqb f (dir_frame c) e)
  holds (table d us rw' h e) =
      or_right (eqb f (dir_frame c)) _
      (some_of (first namer 1024) (λ q. clash (namer d) (rw e (eq-eqb f f refl)) (first_none namer 1024 q d h)))

  held : holds_table m c f ≡ true → TableFrame m c f
  unfolding holds_table
  held e = by (or_cases (eqb f (dir_frame c)) (is_some (first namer 1024)) e)
    where
      by : (eqb f (dir_frame c) ≡ true) ⊎ (is_some (first namer 1024) ≡ true) → TableFrame m c f
      by (inl q) = directory (eqb-true f (dir_frame c) q)
      by (inr q) =
          let o : (d : ℕ) × (first namer 1024 ≡ some d) = some_is (first namer 1024) q in
          let w : Lowest namer 1024 o.0 = first_some namer 1024 o.0 o.1 in
          let g = named f (entry m (dir_frame c) o.0) w.passes in
          table o.0 g.0 g.1 w.small g.2

-- ---- Safe

-- an answer that is not what stands here comes from further on
found_past : (o : Option ℕ) (f : ℕ → Reply) (r x : Reply) → ((i : ℕ) → f i ≡ x → ⊥) → found o f r ≡ x → (o ≡ none) × (r ≡ x)
unfolding found
found_past none f r x h e = (refl, e)
found_past (some i) f r x h e = absurd (h i e)

need_past : (b : Bool) (q r x : Reply) → (q ≡ x → ⊥) → need b q r ≡ x → (b ≡ true) × (r ≡ x)
unfolding need
need_past true q r x h e = (refl, e)
need_past false q r x h e = absurd (h e)

outside_unsafe : (i : ℕ) → TableOutside i ≡ Safe → ⊥
outside_unsafe i e = let z : ◌≡◌ {A = ℕ} 0 1 = cc in omega arith

exposed_unsafe : (p : ℕ) → Exposed (p * 4096) ≡ Safe → ⊥
exposed_unsafe p e = let z : ◌≡◌ {A = ℕ} 0 1 = cc in omega arith

present_in : (n : ℕ) (e : Entry) → missing n e ≡ false → (us rw' : Bool) (f : ℕ) → e ≡ Names us rw' f → f * 4096 < n
present_in n e h us rw' f q = ltb-true _ _ (not-false _ (rw q at h))

-- where no page is exposed, the user may write no table
closed : (m : Mem) (c : Control) → ((p : ℕ) → p < 1048576 → exposed m c p ≡ false)
    → (f : ℕ) → UserFrame m c f → TableFrame m c f → ⊥
closed m c none' f u t =
    let p : ℕ = u.dir * 1024 + u.tab in
    let hd : p / 1024 ≡ u.dir = omega (arith, u.tab_small) in
    let ht : p % 1024 ≡ u.tab = omega (arith, u.tab_small) in
    let n : opens (holds_table m c) (page m c u.dir u.tab) ≡ false =
    rw (hd, ht) at (none' p (omega (arith, u.dir_small, u.tab_small))) in
    clash (holds_table m c f) (holds m c f t) (rw u.maps at n)

pub tables_safe : (m : Mem) (c : Control) → tables m c ≡ Safe → SafeTables m c
unfolding tables
tables_safe m c e =
    let a = need_past _ _ _ _ (outside_unsafe 1024) e in
    let b = found_past _ _ _ _ outside_unsafe a.1 in
    let x = found_past _ _ _ _ exposed_unsafe b.1 in
    record {
      dir_in = ltb-true _ _ a.0;
      tabs_in = λ d f us rw' h q. present_in (length m) _ (first_none (outside m c) 1024 b.0 d h) us rw' f q;
      apart = closed m c (first_none (exposed m c) 1048576 x.0);
    }

none_outside : (m : Mem) (c : Control) → SafeTables m c → (d : ℕ) → d < 1024 → outside m c d ≡ false
none_outside m c s d h = by (entry m (dir_frame c) d) refl
  where
    by : (e : Entry) → entry m (dir_frame c) d ≡ e → missing (length m) e ≡ false
    by Gone q = refl
    by (Names us rw' f) q = rw (lt-ltb _ _ (s.tabs_in d f us rw' h q))

none_exposed : (m : Mem) (c : Control) → SafeTables m c → (p : ℕ) → p < 1048576 → exposed m c p ≡ false
none_exposed m c s p h = by (page m c (p / 1024) (p % 1024)) refl
  where
    user_frame : (us rw' : Bool) (f a b : ℕ) → page m c (p / 1024) (p % 1024) ≡ Mapped us rw' f a b
        → us ≡ true → rw' ≡ true → UserFrame m c f
    user_frame us rw' f a b q x y = record {
      dir = p / 1024;
      tab = p % 1024;
      dir_slot = a;
      tab_slot = b;
      dir_small = omega arith;
      tab_small = omega arith;
      maps = rw (x, y) at q;
    }

    by : (g : Page) → page m c (p / 1024) (p % 1024) ≡ g → opens (holds_table m c) g ≡ false
    by (Beyond a) q = refl
    by Absent q = refl
    by (Mapped us rw' f a b) q =
        false_of _ (λ e.
        let h : (us && rw' ≡ true) × (holds_table m c f ≡ true) = and_true (us && rw') _ e in
        let k : (us ≡ true) × (rw' ≡ true) = and_true us rw' h.0 in
        s.apart f (user_frame us rw' f a b q k.0 k.1) (held m c f h.1))

pub safe_tables : (m : Mem) (c : Control) → SafeTables m c → tables m c ≡ Safe
unfolding tables need found
safe_tables m c s =
    rw (
      lt-ltb (dir_frame c * 4096) (length m) s.dir_in,
      all_none (outside m c) 1024 (none_outside m c s),
      all_none (exposed m c) 1048576 (none_exposed m c s),
    )

bad_unsafe : BadRecord ≡ Safe → ⊥
bad_unsafe e = let z : ◌≡◌ {A = ℕ} 0 1 = cc in omega arith

pub audit_tables : (m : Mem) (r : Cpu) → audit m r ≡ Safe → (sound m r ≡ true) × (tables m r.control ≡ Safe)
unfolding audit
audit_tables m r e = need_past _ _ _ _ bad_unsafe e

pub tables_audit : (m : Mem) (r : Cpu) → sound m r ≡ true → tables m r.control ≡ Safe → audit m r ≡ Safe
unfolding audit need
tables_audit m r e h = rw (e, h)

-- Safe means that the record is sound and nothing is wrong with the tables
pub audit_safe : (m : Mem) (r : Cpu) → audit m r ≡ Safe ↔ ((sound m r ≡ true) × SafeTables m r.control)
audit_safe m r = (
  λ e. let a = audit_tables m r e in (a.0, tables_safe m r.control a.1),
  λ s. tables_audit m r s.0 (safe_tables m r.control s.1),
)

-- ---- the other answers

found_cases : (o : Option ℕ) (f : ℕ → Reply) (r x : Reply) → found o f r ≡ x → ((i : ℕ) × (o ≡ some i) × (f i ≡ x)) ⊎ (r ≡ x)
unfolding found
found_cases none f r x e = inr e
found_cases (some i) f r x e = inl (i, refl, e)

need_cases : (b : Bool) (q r x : Reply) → need b q r ≡ x → ((b ≡ false) × (q ≡ x)) ⊎ (r ≡ x)
unfolding need
need_cases true q r x e = inr e
need_cases false q r x e = inl (refl, e)

bad_outside : (i : ℕ) → BadRecord ≡ TableOutside i → ⊥
bad_outside i e = let z : ◌≡◌ {A = ℕ} 0 1 = cc in omega arith

bad_exposed : (a : ℕ) → BadRecord ≡ Exposed a → ⊥
bad_exposed a e = let z : ◌≡◌ {A = ℕ} 0 1 = cc in omega arith

outside_exposed : (i a : ℕ) → TableOutside i ≡ Exposed a → ⊥
outside_exposed i a e = let z : ◌≡◌ {A = ℕ} 0 1 = cc in omega arith

outside_index : (i j : ℕ) → TableOutside i ≡ TableOutside j → i ≡ j
outside_index i j e = cc

exposed_address : (a b : ℕ) → Exposed a ≡ Exposed b → a ≡ b
exposed_address a b e = cc

-- TableOutside names 1024 where the directory is not in memory, else the lowest entry whose table is not
pub audit_outside : (m : Mem) (r : Cpu) (i : ℕ) → audit m r ≡ TableOutside i
    → ((i ≡ 1024) × (length m ≤ dir_frame r.control * 4096)) ⊎ Lowest (outside m r.control) 1024 i
unfolding audit tables
audit_outside m r i e = by (need_cases _ _ _ _ (need_past _ _ _ _ (bad_outside i) e).1)
  where
    c : Control
    c = r.control

    rest : Reply
    rest = found (first (exposed m c) 1048576) (λ p. Exposed (p * 4096)) Safe

    last : rest ≡ TableOutside i → ⊥
    last q = outside_unsafe i (sym (found_past _ _ _ _ (λ p h. outside_exposed i (p * 4096) (sym h)) q).1)

    then' : ((d : ℕ) × (first (outside m c) 1024 ≡ some d) × (TableOutside d ≡ TableOutside i)) ⊎ (rest ≡ TableOutside i)
        → Lowest (outside m c) 1024 i
    then' (inl h) = rw (outside_index _ _ h.2) at (first_some (outside m c) 1024 h.0 h.1)
    then' (inr q) = absurd (last q)

    by : ((in_memory (length m) (dir_frame c) ≡ false) × (TableOutside 1024 ≡ TableOutside i))
        ⊎ (found (first (outside m c) 1024) TableOutside rest ≡ TableOutside i)
        → ((i ≡ 1024) × (length m ≤ dir_frame c * 4096)) ⊎ Lowest (outside m c) 1024 i
    by (inl h) = inl (sym (outside_index _ _ h.1), ltb-false _ _ h.0)
    by (inr q) = inr (then' (found_cases _ _ _ _ q))

-- Exposed names the address of the lowest page that lets the user write a table
pub audit_exposed : (m : Mem) (r : Cpu) (a : ℕ) → audit m r ≡ Exposed a
    → (p : ℕ) × (a ≡ p * 4096) × Lowest (exposed m r.control) 1048576 p
unfolding audit tables
audit_exposed m r a e =
    let t = (need_past _ _ _ _ (bad_exposed a) e).1 in
    let d = (need_past _ _ _ _ (outside_exposed 1024 a) t).1 in
    by (found_cases _ _ _ _ (found_past _ _ _ _ (λ i. outside_exposed i a) d).1)
  where
    ex : ℕ → Bool
    ex = exposed m r.control

    by : ((p : ℕ) × (first ex 1048576 ≡ some p) × (Exposed (p * 4096) ≡ Exposed a)) ⊎ (Safe ≡ Exposed a)
        → (p : ℕ) × (a ≡ p * 4096) × Lowest ex 1048576 p
    by (inl h) = (h.0, sym (exposed_address _ _ h.2), first_some ex 1048576 h.0 h.1)
    by (inr q) = let z : ◌≡◌ {A = ℕ} 0 1 = cc in absurd (omega arith)

tables_not_bad : (m : Mem) (c : Control) → tables m c ≡ BadRecord → ⊥
unfolding tables
tables_not_bad m c e =
    let d = (need_past _ _ _ _ (λ h. bad_outside 1024 (sym h)) e).1 in
    let t = (found_past _ _ _ _ (λ i h. bad_outside i (sym h)) d).1 in
    bad_unsafe (sym (found_past _ _ _ _ (λ p h. bad_exposed (p * 4096) (sym h)) t).1)

-- BadRecord means that the record is not sound
pub audit_bad : (m : Mem) (r : Cpu) → audit m r ≡ BadRecord ↔ (sound m r ≡ false)
unfolding audit need
audit_bad m r = (λ e. by (need_cases _ _ _ _ e), λ h. rw h)
  where
    by : ((sound m r ≡ false) × (BadRecord ≡ BadRecord)) ⊎ (tables m r.control ≡ BadRecord) → sound m r ≡ false
    by (inl h) = h.0
    by (inr q) = absurd (tables_not_bad m r.control q)
