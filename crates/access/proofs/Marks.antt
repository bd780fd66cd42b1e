-- What patches do byte by byte: a page marked again is as it was, and of bytes one after another only the first page and the last leave marks.
-- Assumes nothing.
use Rattle.std.proofs.Common.{◌≡◌, ℕ, zero, suc, ◌+◌, ◌*◌, ◌/◌, ◌%◌, ◌<◌, ◌≤◌, Bool, true, false, cond, ◌&&◌, eqb, ltb, List, [], ◌∷◌, ◌++◌, length, sym, refl, ap, ◌∙◌, mod-lt, arith, lit<, length-set, get_or-set_other, get_or-set_same, ext_get_or, le-ltb, lt-ltb, eq-eqb, ne_eqb}
use native.Mathlib.Decide.{ℕ_discrete, dec_lt}
use lib.Seq.{set_out}
use Rattle.machine.specs.declared.Control.{Control}
use Rattle.machine.specs.Record.{Mem, at, wrap, paging}
use Rattle.machine.specs.Paging.{Page, Beyond, Absent, Mapped, page_of, Translation, At, No, translate}
use Rattle.machine.specs.Commit.{Patch, patch, patches, Touch, mark, marks_of, if_at, marks, touched}
use Rattle.machine.specs.Act.{touch}
use Rattle.paging.proofs.Pages.{marks_page}
use Rattle.access.specs.Located.{span}

-- ---- a mark made again, and A with D

mark_again : (w : Bool) (b : ℕ) → mark w (mark w b) ≡ mark w b
mark_again true b = omega arith
mark_again false b = omega arith

both_set : (lo q : ℕ) → lo < 32 → mark false (lo + 96 + q * 128) ≡ lo + 96 + q * 128
both_set lo q h = omega arith

mark_after : (w : Bool) (b : ℕ) → mark false (mark w b) ≡ mark w b
mark_after true b = both_set (b % 32) (b / 128) (mod-lt b (lit< tt))
mark_after false b = mark_again false b

-- ---- patches

pub patches_append : (ps qs : List Patch) (m : Mem) → patches (ps ++ qs) m ≡ patches qs (patches ps m)
unfolding patches
patches_append [] qs m = refl
patches_append (p ∷ ps) qs m = patches_append ps qs (patch p m)

pub patches_length : (ps : List Patch) (m : Mem) → length m ≡ length (patches ps m)
unfolding patches patch
patches_length [] m = refl
patches_length (p ∷ ps) m = sym (length-set m _ _) ∙ patches_length ps (patch p m)

pub touched_append : (m : Mem) (c : Control) (ts us : List Touch) (x : Mem) → patches (touched m c (ts ++ us)) x ≡ patches (touched m c us) (patches (touched m c ts) x)
unfolding touched patches
touched_append m c [] us x = refl
touched_append m c (t ∷ ts) us x =
    patches_append (marks m c t) (touched m c (ts ++ us)) x
    ∙ touched_append m c ts us (patches (marks m c t) x)
    ∙ ap (patches (touched m c us)) (sym (patches_append (marks m c t) (touched m c ts) x))

pub touched_one : (m : Mem) (c : Control) (t : Touch) (x : Mem) → patches (touched m c (t ∷ [])) x ≡ patches (marks m c t) x
unfolding touched patches
touched_one m c t x = patches_append (marks m c t) [] x

-- ---- byte by byte: what becomes of byte i of a memory of size n

abbrev update : Patch → ℕ → ℕ → ℕ → ℕ
update p n i b = cond (eqb i p.place && ltb i n) (p.becomes b) b

unfoldable updates : List Patch → ℕ → ℕ → ℕ → ℕ
updates [] n i b = b
updates (p ∷ ps) n i b = updates ps n i (update p n i b)

at_patch : (p : Patch) (m : Mem) (i : ℕ) → at (patch p m) i ≡ update p (length m) i (at m i)
unfolding patch
at_patch p m i = by (ℕ_discrete i p.place) (dec_lt i (length m))
  where
    by : Dec (i ≡ p.place) → Dec (i < length m) → at (patch p m) i ≡ update p (length m) i (at m i)
    by (no e) l = rw (ne_eqb i p.place e) (get_or-set_other m p.place i _ 0 e)
    by (yes e) (yes l) = rw (eq-eqb i p.place e, lt-ltb i (length m) l) (rw (← e) (get_or-set_same m i _ 0 l))
    by (yes e) (no l) =
        let o : length m ≤ i = omega arith in
        rw (eq-eqb i p.place e, le-ltb i (length m) o) (ap (λ (x : Mem). at x i) (set_out m p.place _ (omega arith)))

patch_size : (p : Patch) (m : Mem) → length (patch p m) ≡ length m
unfolding patch
patch_size p m = length-set m _ _

at_patches : (ps : List Patch) (m : Mem) (i : ℕ) → at (patches ps m) i ≡ updates ps (length m) i (at m i)
unfolding patches updates
at_patches [] m i = refl
at_patches (p ∷ ps) m i = at_patches ps (patch p m) i ∙ (λ j. updates ps (patch_size p m j) i (at_patch p m i j))

patches_ext : (ps qs : List Patch) (m : Mem) → ((i b : ℕ) → updates ps (length m) i b ≡ updates qs (length m) i b) → patches ps m ≡ patches qs m
patches_ext ps qs m h =
    ext_get_or 0 (patches ps m) (patches qs m) (sym (patches_length ps m) ∙ patches_length qs m)
    (λ i _. at_patches ps m i ∙ h i (at m i) ∙ sym (at_patches qs m i))

twice : (e d w : Bool) (b : ℕ)
    → cond d (mark w (cond e (mark false (cond d (mark w (cond e (mark false b) b)) (cond e (mark false b) b))) (cond d (mark w (cond e (mark false b) b)) (cond e (mark false b) b))))
    (cond e (mark false (cond d (mark w (cond e (mark false b) b)) (cond e (mark false b) b))) (cond d (mark w (cond e (mark false b) b)) (cond e (mark false b) b)))
    ≡ cond d (mark w (cond e (mark false b) b)) (cond e (mark false b) b)
twice false false w b = refl
twice true false w b = mark_again false b
twice false true w b = mark_again w b
twice true true w b = ap (mark w) (mark_after w (mark false b)) ∙ mark_again w (mark false b)

two_again : (w : Bool) (a b : ℕ) (x : Mem)
    → patches (record { place = a; becomes = mark false } ∷ record { place = b; becomes = mark w } ∷ []) (patches (record { place = a; becomes = mark false } ∷ record { place = b; becomes = mark w } ∷ []) x)
    ≡ patches (record { place = a; becomes = mark false } ∷ record { place = b; becomes = mark w } ∷ []) x
unfolding updates
two_again w a b x =
    let two : List Patch = record { place = a; becomes = mark false } ∷ record { place = b; becomes = mark w } ∷ [] in
    sym (patches_append two two x)
    ∙ patches_ext (two ++ two) two x (λ i v. twice (eqb i a && ltb i (length x)) (eqb i b && ltb i (length x)) w v)

found_again : (w : Bool) (f : Page) (x : Mem) → patches (marks_of w f) (patches (marks_of w f) x) ≡ patches (marks_of w f) x
unfolding marks_of patches
found_again w (Beyond a) x = refl
found_again w Absent x = refl
found_again w (Mapped us rw' f a b) x = two_again w a b x

if_again : (g : Bool) (t : Translation) (w : Bool) (f : Page) (x : Mem)
    → patches (if_at t (cond g (marks_of w f) [])) (patches (if_at t (cond g (marks_of w f) [])) x) ≡ patches (if_at t (cond g (marks_of w f) [])) x
unfolding if_at patches
if_again true (At p) w f x = found_again w f x
if_again false (At p) w f x = refl
if_again true (No r) w f x = refl
if_again false (No r) w f x = refl

-- a page marked again is as it was
pub marks_again : (m : Mem) (c : Control) (w : Bool) (l : ℕ) (x : Mem) → patches (marks m c (touch w l)) (patches (marks m c (touch w l)) x) ≡ patches (marks m c (touch w l)) x
unfolding marks
marks_again m c w l x = if_again (paging c) (translate m c w l) w (page_of m c l) x

-- ---- bytes one after another: the first page and the last

module _ (m : Mem) (size : length m % 4096 ≡ 0) (c : Control) (w : Bool) (l : ℕ) (small : l < 4294967296) where
  abbrev M : ℕ → Mem → Mem
  M a x = patches (marks m c (touch w a)) x

  M-page : (a b : ℕ) → a / 4096 ≡ b / 4096 → (x : Mem) → M a x ≡ M b x
  M-page a b h x = ap (λ (ps : List Patch). patches ps x) (marks_page m size c w a b h)

  pub span_marks : (n : ℕ) → n < 4096 → (x : Mem) → patches (touched m c (span w l (suc n))) x ≡ M (wrap (l + n)) (M l x)
  unfolding span
  span_marks zero h x =
      let z : wrap (l + 0) ≡ l = omega arith in
      ap (λ (a : ℕ). patches (touched m c (touch w a ∷ [])) x) z ∙ touched_one m c (touch w l) x ∙ sym (marks_again m c w l x) ∙ ap (λ (a : ℕ). M a (M l x)) (sym z)
  span_marks (suc n) h x =
      touched_append m c (span w l (suc n)) (touch w (wrap (l + suc n)) ∷ []) x
      ∙ touched_one m c (touch w (wrap (l + suc n))) _
      ∙ ap (M (wrap (l + suc n))) (span_marks n (omega arith) x)
      ∙ by (ℕ_discrete (wrap (l + n) / 4096) (wrap (l + suc n) / 4096))
    where
      by : Dec (wrap (l + n) / 4096 ≡ wrap (l + suc n) / 4096) → M (wrap (l + suc n)) (M (wrap (l + n)) (M l x)) ≡ M (wrap (l + suc n)) (M l x)
      by (yes e) = ap (M (wrap (l + suc n))) (M-page (wrap (l + n)) (wrap (l + suc n)) e (M l x)) ∙ marks_again m c w (wrap (l + suc n)) (M l x)
      by (no e) =
          let s : wrap (l + n) / 4096 ≡ l / 4096 = omega arith in
          ap (M (wrap (l + suc n))) (M-page (wrap (l + n)) l s (M l x) ∙ marks_again m c w l x)

  -- all on one page
  pub page_marks : (n : ℕ) → l % 4096 + n < 4096 → (x : Mem) → patches (touched m c (span w l (suc n))) x ≡ M l x
  page_marks n h x =
      let s : wrap (l + n) / 4096 ≡ l / 4096 = omega arith in
      span_marks n (omega arith) x ∙ M-page (wrap (l + n)) l s (M l x) ∙ marks_again m c w l x
