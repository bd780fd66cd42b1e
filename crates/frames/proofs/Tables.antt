-- What a search finds: a frame that holds the directory or a present table, a page that the user may write.
-- Assumes nothing.
use Rattle.std.proofs.Common.{◌≡◌, ℕ, zero, suc, ◌+◌, ◌/◌, ◌%◌, Bool, true, false, cond, ◌&&◌, ◌||◌, eqb, refl, ◌∙◌, arith, eq-eqb, ne_eqb}
use Rattle.std.specs.List.{list_any, range_with_len}
use mathlib.Core.Option.{Option, none, some}
use Rattle.machine.specs.declared.Control.{Control}
use Rattle.machine.specs.Record.{Mem, has}
use Rattle.machine.specs.Paging.{Gone, Names, entry_of, entry, dir_frame}
use Rattle.machine.specs.Audit.{later, first, is_some, names, holds_table}

-- whether one of the numbers below n passes is whether there is a first
module _ (p : ℕ → Bool) where
  one_more : (a n : ℕ) → list_any p (range_with_len a (suc n)) ≡ (list_any p (range_with_len a n) || p (a + n))
  one_more a zero =
      let z : a + 0 ≡ a = omega arith in
      rw z (by (p a))
    where
      by : (b : Bool) → (b || false) ≡ b
      by true = refl
      by false = refl
  one_more a (suc n) =
      let s : a + 1 + n ≡ a + suc n = omega arith in
      rw (one_more (a + 1) n, s) (by (p a) (list_any p (range_with_len (a + 1) n)) (p (a + suc n)))
    where
      by : (x y z : Bool) → (x || (y || z)) ≡ ((x || y) || z)
      by true y z = refl
      by false y z = refl

  is_later : (o : Option ℕ) (b : Bool) (n : ℕ) → (is_some o || b) ≡ is_some (later o b n)
  is_later none true n = refl
  is_later none false n = refl
  is_later (some i) b n = refl

  pub any_first : (n : ℕ) → list_any p (range_with_len 0 n) ≡ is_some (first p n)
  unfolding first
  any_first zero = refl
  any_first (suc n) =
      let z : 0 + n ≡ n = omega arith in
      one_more 0 n ∙ (rw (z, any_first n) (is_later (first p n) (p n) n))

pub names_of : (f e : ℕ) → names f (entry_of e) ≡ (eqb (e % 2) 1 && eqb f (e / 4096))
unfolding entry_of
names_of f e = by (eqb (e % 2) 1)
  where
    by : (b : Bool) → names f (cond b (Names (has 4 e) (has 2 e) (e / 4096)) Gone) ≡ (b && eqb f (e / 4096))
    by true = refl
    by false = refl

module _ (m : Mem) (c : Control) (f : ℕ) where
  abbrev pub named : ℕ → Bool
  named d = names f (entry m (dir_frame c) d)

  pub directory : f ≡ dir_frame c → true ≡ holds_table m c f
  unfolding holds_table
  directory h = rw (eq-eqb f (dir_frame c) h)

  pub table : (b : Bool) → (f ≡ dir_frame c → ⊥) → b ≡ list_any named (range_with_len 0 1024) → b ≡ holds_table m c f
  unfolding holds_table
  table b h e = rw (ne_eqb f (dir_frame c) h) (e ∙ any_first named 1024)
