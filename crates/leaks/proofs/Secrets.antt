-- Whatever the records begin with, the guest's memories are twins. Assumes nothing.
use Prim.Native.Nat.{ℕ, ◌/◌, ◌<◌, ◌≤◌}
use mathlib.Core.Path.{◌≡◌, refl, sym, ◌∙◌}
use mathlib.Core.Bool.{Bool, true}
use native.Mathlib.Omega.{arith}
use native.Mathlib.Decide.{ℕ_discrete}
use Rattle.machine.specs.declared.Control.{Control}
use Rattle.machine.specs.declared.Reply.TheVariants.{Safe}
use Rattle.machine.specs.Record.{sound_at, sound}
use Rattle.machine.specs.Paging.{Names, entry}
use Rattle.machine.specs.Audit.{audit}
use Rattle.isolation.specs.Guarded.{TableFrame, directory, table, MappedFrame}
use Rattle.isolation.specs.Answers.{SafeTables}
use Rattle.isolation.specs.Twins.{Shown, as_table, as_readable, Agree}
use Rattle.isolation.proofs.Entries.{gone_names}
use Rattle.isolation.proofs.Audited.{audit_safe}
use Rattle.isolation.proofs.Twins.{twins_of}
use Rattle.leaks.specs.Guest.{memory, user}
use Rattle.leaks.specs.Claims.{Secrets}
use Rattle.leaks.proofs.Maps.{memory_length, shown_at, the_table, no_table, page_2}

abbrev c : Control
c = user.control

named_frame : (us rw' us' rw'' : Bool) (f g : ℕ) → Names us rw' f ≡ Names us' rw'' g → f ≡ g
named_frame us rw' us' rw'' f g e = cc

module _ (k : ℕ) where
  table_1 : (d : ℕ) → d < 1024 → (us rw' : Bool) (f : ℕ) → entry (memory k) 0 d ≡ Names us rw' f → f ≡ 1
  table_1 d h us rw' f e = by (ℕ_discrete d 0)
    where
      by : Dec (d ≡ 0) → f ≡ 1
      by (yes z) = sym (named_frame true true us rw' 1 f (sym (the_table k) ∙ rw z at e))
      by (no o) = absurd (gone_names us rw' f (sym (no_table k d o h) ∙ e))

  tables_low : (f : ℕ) → TableFrame (memory k) c f → f ≤ 1
  tables_low f (directory e) = omega arith
  tables_low f (table d us rw' h e) = let q : f ≡ 1 = table_1 d h us rw' f e in omega arith

  readable_2 : (rw' : Bool) (f : ℕ) → MappedFrame (memory k) c rw' f → f ≡ 2
  readable_2 rw' f u = page_2 k u.dir u.tab u.dir_small u.tab_small rw' f _ _ u.maps

  shown_low : (f : ℕ) → Shown (memory k) c f → f ≤ 2
  shown_low f (as_table t) = let q : f ≤ 1 = tables_low f t in omega arith
  shown_low f (as_readable u) = let q : f ≡ 2 = readable_2 u.0 f u.1 in omega arith

  tables_apart : SafeTables (memory k) c
  tables_apart = record {
    dir_in = rw (memory_length k) (omega arith);
    tabs_in = λ d f us rw' h e. let q : f ≡ 1 = table_1 d h us rw' f e in rw (memory_length k, q) (omega arith);
    apart = λ f u t. let q : f ≡ 2 = readable_2 true f u in let o : f ≤ 1 = tables_low f t in omega arith;
  }

  is_sound_lem : sound (memory k) user ≡ true
  unfolding sound_at
  is_sound_lem = rw (memory_length k) refl

  safe : audit (memory k) user ≡ Safe
  safe = (audit_safe (memory k) user).1 (is_sound_lem, tables_apart)

alike : (j k : ℕ) → Agree (Shown (memory j) c) (memory j) (memory k)
alike j k = record {
  size = memory_length j ∙ sym (memory_length k);
  bytes = λ i f. let h : i / 4096 ≤ 2 = shown_low j (i / 4096) f in shown_at j i (omega arith) ∙ sym (shown_at k i (omega arith));
}

pub secrets : Secrets
secrets j k = twins_of (memory j) (memory k) user refl refl (safe j) (alike j k)
