-- The walk's cases, one law each: what the maps say of a page, what is answered then, and the two ways to translate.
-- Assumes nothing.
use Prim.Native.Nat.{ℕ, ◌+◌, ◌*◌, ◌/◌, ◌%◌, ◌<◌, ◌≤◌}
use mathlib.Core.Path.{◌≡◌, refl, sym, ◌∙◌}
use mathlib.Core.Bool.{Bool, true, false, cond, ◌&&◌}
use native.Mathlib.Omega.{arith}
use native.Mathlib.Decide.{dec_lt, ℕ_discrete}
use borrow.Author.Tests.{lt-ltb, le-ltb, eq-eqb, ne_eqb}
use lib.ListN.{length}
use Rattle.machine.specs.declared.Control.{Control}
use Rattle.machine.specs.declared.Reply.{Reply}
use Rattle.machine.specs.declared.Reply.TheVariants.{NoMemory, Fault}
use Rattle.machine.specs.Record.{Mem, has, paging, user}
use Rattle.machine.specs.Paging.{Beyond, Absent, Mapped, reach, ask, page_of, page_at, translate, entry_of, dword_at, slot, dir_frame, dir_index, tab_index, within, under, leaf, rights, page_fault, offset, exists}
use Rattle.machine.specs.Commit.{marks_of, marks, if_at}
use Rattle.std.specs.Prelude.{Result, Ok, Err, Some, None}
use Rattle.paging.specs.declared.Reached.{Reached}
use Rattle.paging.specs.Walked.{OnPage, Flat, Walked, patches_of, present_at}
use Rattle.paging.proofs.Pages.{if_none}

-- ---- what the maps say

module _ (m : Mem) (c : Control) (l d : ℕ) (hd : d ≡ slot (dir_frame c) (dir_index l)) where
  pub dir_beyond : length m ≤ d → page_of m c l ≡ Beyond d
  unfolding page_at within
  dir_beyond h = rw (← hd, le-ltb d (length m) h)

  module _ (h : d < length m) (pde : ℕ) (e : pde ≡ dword_at m d) where
    pub dir_absent : (pde % 2 ≡ 1 → ⊥) → page_of m c l ≡ Absent
    unfolding page_at within under entry_of
    dir_absent q = rw (← hd, lt-ltb d (length m) h, ← e, ne_eqb (pde % 2) 1 q)

    module _ (q : pde % 2 ≡ 1) (t : ℕ) (ht : t ≡ slot (pde / 4096) (tab_index l)) where
      pub tab_beyond : length m ≤ t → page_of m c l ≡ Beyond t
      unfolding page_at within under entry_of
      tab_beyond k = rw (← hd, lt-ltb d (length m) h, ← e, eq-eqb (pde % 2) 1 q, ← ht, le-ltb t (length m) k)

      module _ (k : t < length m) (pte : ℕ) (e' : pte ≡ dword_at m t) where
        pub tab_absent : (pte % 2 ≡ 1 → ⊥) → page_of m c l ≡ Absent
        unfolding page_at within under entry_of leaf
        tab_absent q' = rw (← hd, lt-ltb d (length m) h, ← e, eq-eqb (pde % 2) 1 q, ← ht, lt-ltb t (length m) k, ← e', ne_eqb (pte % 2) 1 q')

        pub mapped : pte % 2 ≡ 1 → page_of m c l ≡ Mapped (has 4 pde && has 4 pte) (has 2 pde && has 2 pte) (pte / 4096) d t
        unfolding page_at within under entry_of leaf
        mapped q' = rw (← hd, lt-ltb d (length m) h, ← e, eq-eqb (pde % 2) 1 q, ← ht, lt-ltb t (length m) k, ← e', eq-eqb (pte % 2) 1 q')

-- ---- what is answered

module _ (m : Mem) (c : Control) (w : Bool) (l : ℕ) where
  pub on_beyond : (a : ℕ) → page_of m c l ≡ Beyond a → OnPage m c w l (Err (NoMemory a))
  unfolding reach if_at
  on_beyond a e = record { reached = rw e; marked = rw e }

  pub on_absent : (q : Reply) → q ≡ page_fault c w 0 l → page_of m c l ≡ Absent → OnPage m c w l (Err q)
  unfolding reach if_at
  on_absent q h e = record { reached = rw (e, h); marked = rw e }

  module _ (us rw' : Bool) (f a b : ℕ) (e : page_of m c l ≡ Mapped us rw' f a b) where
    pub on_rights : (x : ℕ) → x ≡ 1 + cond w 2 0 + cond (user c) 4 0 → rights c w us rw' ≡ false → OnPage m c w l (Err (Fault 14 x l))
    unfolding reach if_at ask
    on_rights x h q = record { reached = rw (e, q, h); marked = rw (e, q) }

    module _ (q : rights c w us rw' ≡ true) (p : ℕ) (hp : p ≡ f * 4096 + offset l) where
      pub on_past : length m ≤ p → OnPage m c w l (Err (NoMemory p))
      unfolding reach if_at ask
      on_past k = record { reached = rw (e, q, ← hp, le-ltb p (length m) k); marked = rw (e, q, ← hp, le-ltb p (length m) k) }

      pub on_at : p < length m → OnPage m c w l (Ok (record { place = record { 0 = p }; entries = Some (record { dir = record { 0 = a }; table = record { 0 = b } }) }))
      unfolding reach if_at ask marks_of patches_of
      on_at k = record { reached = rw (e, q, ← hp, lt-ltb p (length m) k); marked = rw (e, q, ← hp, lt-ltb p (length m) k) }

  -- ---- with paging on and off

  pub paged : (r : Result Reached Reply) → paging c ≡ true → OnPage m c w l r → Walked m c w l r
  unfolding translate marks
  paged r on k = record { reached = k.reached ∙ rw on; marked = k.marked ∙ rw on }

  pub unpaged : (r : Result Reached Reply) → paging c ≡ false → Flat m l r → Walked m c w l r
  unfolding translate marks
  unpaged r off k = record { reached = k.reached ∙ rw off; marked = k.unmarked w ∙ rw off (sym (if_none (exists (length m) l))) }

-- ---- an entry that is there, and one that is not

entry_cases : (m : Mem) (a : ℕ) (gone : Reply) (P : Result ℕ Reply → Type 0)
    → (length m ≤ a → P (Err (NoMemory a)))
    → (a < length m → (dword_at m a % 2 ≡ 1 → ⊥) → P (Err gone))
    → (a < length m → dword_at m a % 2 ≡ 1 → P (Ok (dword_at m a)))
    → P (present_at m a gone)
unfolding present_at
entry_cases m a gone P past none some = by (dec_lt a (length m))
  where
    at_all : a < length m → Dec (dword_at m a % 2 ≡ 1) → P (present_at m a gone)
    at_all k (yes q) = rw (lt-ltb a (length m) k, eq-eqb (dword_at m a % 2) 1 q) (some k q)
    at_all k (no q) = rw (lt-ltb a (length m) k, ne_eqb (dword_at m a % 2) 1 q) (none k q)

    by : Dec (a < length m) → P (present_at m a gone)
    by (yes k) = at_all k (ℕ_discrete (dword_at m a % 2) 1)
    by (no k) = let k' : length m ≤ a = omega arith in rw (le-ltb a (length m) k') (past k')

not_err : {x : ℕ} {y : Reply} → Ok x ≡ Err y → ⊥
not_err e = let z : ◌≡◌ {A = ℕ} 0 1 = cc in omega arith

pub record There (m : Mem) (a e : ℕ) : Type 0 where
  pub lies : a < length m
  pub says : e ≡ dword_at m a
  pub names : e % 2 ≡ 1

pub there : (m : Mem) (a : ℕ) (gone : Reply) (e : ℕ) → Ok e ≡ present_at m a gone → There m a e
there m a gone e h =
    entry_cases m a gone (λ r. Ok e ≡ r → There m a e)
    (λ k q. absurd (not_err q))
    (λ k n q. absurd (not_err q))
    (λ k n q. let s : e ≡ dword_at m a = cc in record { lies = k; says = s; names = rw s n }) h

module _ (m : Mem) (c : Control) (w : Bool) (l : ℕ) where
  pub no_dir : (d : ℕ) (gone q : Reply) → Err q ≡ present_at m d gone → gone ≡ page_fault c w 0 l → d ≡ slot (dir_frame c) (dir_index l) → OnPage m c w l (Err q)
  no_dir d gone q h hg hd =
      entry_cases m d gone (λ r. Err q ≡ r → OnPage m c w l (Err q))
      (λ k e. let s : NoMemory d ≡ q = cc in rw (← s) (on_beyond m c w l d (dir_beyond m c l d hd k)))
      (λ k n e. let s : gone ≡ q = cc in on_absent m c w l q (sym s ∙ hg) (dir_absent m c l d hd k (dword_at m d) refl n))
      (λ k n e. absurd (not_err (sym e))) h

  module _ (d pde : ℕ) (on : There m d pde) (hd : d ≡ slot (dir_frame c) (dir_index l)) where
    pub no_table : (t : ℕ) (gone q : Reply) → Err q ≡ present_at m t gone → gone ≡ page_fault c w 0 l → t ≡ slot (pde / 4096) (tab_index l) → OnPage m c w l (Err q)
    no_table t gone q h hg ht =
        entry_cases m t gone (λ r. Err q ≡ r → OnPage m c w l (Err q))
        (λ k e. let s : NoMemory t ≡ q = cc in rw (← s) (on_beyond m c w l t (tab_beyond m c l d hd on.lies pde on.says on.names t ht k)))
        (λ k n e. let s : gone ≡ q = cc in on_absent m c w l q (sym s ∙ hg) (tab_absent m c l d hd on.lies pde on.says on.names t ht k (dword_at m t) refl n))
        (λ k n e. absurd (not_err (sym e))) h

    pub both : (t pte : ℕ) → There m t pte → t ≡ slot (pde / 4096) (tab_index l) → page_of m c l ≡ Mapped (has 4 pde && has 4 pte) (has 2 pde && has 2 pte) (pte / 4096) d t
    both t pte at ht = mapped m c l d hd on.lies pde on.says on.names t ht at.lies pte at.says at.names

pub flat_at : (m : Mem) (l : ℕ) → l < length m → Flat m l (Ok (record { place = record { 0 = l }; entries = None }))
unfolding ask patches_of
flat_at m l k = record { reached = rw (lt-ltb l (length m) k); unmarked = λ w. refl }

pub flat_past : (m : Mem) (l : ℕ) → length m ≤ l → Flat m l (Err (NoMemory l))
unfolding ask
flat_past m l k = record { reached = rw (le-ltb l (length m) k); unmarked = λ w. refl }
