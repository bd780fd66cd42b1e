-- The flags: each table that a present entry names gets one, and then they say which frames hold tables.
-- Assumes nothing.
use Prim.Native.Nat.{ℕ, zero, suc, ◌+◌, ◌*◌, ◌/◌, ◌%◌, ◌<◌, ◌≤◌}
use mathlib.Core.Path.{◌≡◌, refl, sym, ◌∙◌}
use mathlib.Core.Bool.{Bool, true, false, ◌&&◌, ◌||◌, cond}
use mathlib.Core.List.{List}
use mathlib.Core.Option.{Option, none, some}
use native.Mathlib.Omega.{arith}
use native.Mathlib.Numerals.{add-one}
use native.Mathlib.Decide.{dec_lt, ℕ_discrete}
use lib.ListN.{length, get_or, set, length-set, replicate, length-replicate, get_or-eq_default}
use lib.Seq.{get_or-set_same, get_or-set_other}
use lib.Dec.{eqb}
use borrow.Author.Tests.{eq-eqb, ne_eqb, eqb-true}
use Rattle.machine.specs.declared.Control.{Control}
use Rattle.machine.specs.Record.{Mem, has}
use Rattle.machine.specs.Paging.{Gone, Names, entry_of, entry, dword_at, slot, dir_frame}
use Rattle.machine.specs.Audit.{first, later, is_some, names, holds_table}
use Rattle.isolation.proofs.Audited.{all_none}
use Rattle.audit.specs.Searched.{Sized, Clear, with_table, holds_below, Flags, Held}
use Rattle.audit.proofs.Rights.{table_in}

raised : (h : List Bool) (g f : ℕ) → f < length h → get_or (set h g true) f false ≡ eqb f g || get_or h f false
raised h g f l = by (ℕ_discrete f g)
  where
    by : Dec (f ≡ g) → get_or (set h g true) f false ≡ eqb f g || get_or h f false
    by (yes e) = rw (eq-eqb f g e, ← e) (get_or-set_same h f true false l)
    by (no e) = rw (ne_eqb f g e) (get_or-set_other h g f true false e)

down : (n f : ℕ) → get_or (replicate n false) f false ≡ false
down zero f = refl
down (suc n) zero = refl
down (suc n) (suc f) = down n f

-- flags that are not raised yet
pub clear : Clear (replicate {0} {A = Bool} 4096 false)
clear = record { size = length-replicate {0} {A = Bool} 4096 false; says = down 4096 }

module _ (m : Mem) (c : Control) where
  pub flags_none : (h : List Bool) → Clear h → Flags m c 0 (set h (dir_frame c) true)
  unfolding holds_below first
  flags_none h k = record {
    size = length-set h (dir_frame c) true ∙ k.size;
    says = λ f l. raised h (dir_frame c) f (omega (arith, k.size)) ∙ rw (k.says f) refl;
  }

  named : (f e : ℕ) → names f (entry_of e) ≡ (eqb (e % 2) 1 && eqb f (e / 4096))
  unfolding entry_of
  named f e = by (eqb (e % 2) 1)
    where
      by : (b : Bool) → names f (cond b (Names (has 4 e) (has 2 e) (e / 4096)) Gone) ≡ (b && eqb f (e / 4096))
      by true = refl
      by false = refl

  one_more : (a : Bool) (o : Option ℕ) (b : Bool) (n : ℕ) → a || is_some (later o b n) ≡ b || (a || is_some o)
  one_more true o true n = refl
  one_more true o false n = refl
  one_more false none true n = refl
  one_more false none false n = refl
  one_more false (some i) true n = refl
  one_more false (some i) false n = refl

  below_more : (n f : ℕ) → holds_below m c (n + 1) f ≡ names f (entry m (dir_frame c) n) || holds_below m c n f
  unfolding holds_below first
  below_more n f = rw (add-one n) (one_more (eqb f (dir_frame c)) (first (λ d. names f (entry m (dir_frame c) d)) n) _ n)

  with_table_lem : (h : List Bool) (e f : ℕ) → f < length h → get_or (with_table h e) f false ≡ names f (entry_of e) || get_or h f false
  unfolding with_table
  with_table_lem h e f l = rw named (by (eqb (e % 2) 1))
    where
      by : (b : Bool) → get_or (cond b (set h (e / 4096) true) h) f false ≡ (b && eqb f (e / 4096)) || get_or h f false
      by true = raised h (e / 4096) f l
      by false = refl

  table_size : (h : List Bool) (e : ℕ) → length (with_table h e) ≡ length h
  unfolding with_table
  table_size h e = by (eqb (e % 2) 1)
    where
      by : (b : Bool) → length (cond b (set h (e / 4096) true) h) ≡ length h
      by true = length-set h (e / 4096) true
      by false = refl

  pub flags_more : (n : ℕ) (h : List Bool) → Flags m c n h → Flags m c (n + 1) (with_table h (dword_at m (slot (dir_frame c) n)))
  flags_more n h k = record {
    size = table_size h _ ∙ k.size;
    says = λ f l. with_table_lem h _ f (omega (arith, k.size)) ∙ rw (k.says f l) (sym (below_more n f));
  }

  -- no frame past the flags holds a table
  far : Sized m c → (f : ℕ) → 4096 ≤ f → holds_table m c f ≡ false
  unfolding holds_table
  far s f l = rw (past (dir_frame c) s.dir_in, all_none (λ d. names f (entry m (dir_frame c) d)) 1024 none_names)
    where
      past : (g : ℕ) → g * 4096 < length m → eqb f g ≡ false
      past g h = ne_eqb f g (λ q. omega (arith, s.small))

      by : (d : ℕ) → d < 1024 → (b : Bool) → eqb (dword_at m (slot (dir_frame c) d) % 2) 1 ≡ b
          → (b && eqb f (dword_at m (slot (dir_frame c) d) / 4096)) ≡ false
      by d h false e = refl
      by d h true e = past _ (table_in m c d s h (eqb-true _ _ e))

      none_names : (d : ℕ) → d < 1024 → names f (entry m (dir_frame c) d) ≡ false
      none_names d h = named f (dword_at m (slot (dir_frame c) d)) ∙ by d h _ refl

  pub flags_all : (h : List Bool) → Sized m c → Flags m c 1024 h → Held m c h
  unfolding holds_below holds_table
  flags_all h s k f = by (dec_lt f 4096)
    where
      by : Dec (f < 4096) → get_or h f false ≡ holds_table m c f
      by (yes l) = k.says f l
      by (no l) =
          let past : length h ≤ f = omega (arith, k.size) in
          get_or-eq_default h false past ∙ sym (far s f (omega arith))
