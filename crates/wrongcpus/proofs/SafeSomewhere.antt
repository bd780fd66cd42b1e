-- An audit that never says Safe is wrong: one page of zeros, as directory of a sound record, is Safe. Assumes nothing.
use Prim.Native.Nat.{ℕ, ◌+◌, ◌<◌}
use mathlib.Core.Path.{◌≡◌, refl, sym, ◌∙◌}
use mathlib.Core.Bool.{true}
use native.Mathlib.Omega.{arith}
use lib.ListN.{get_or-replicate, replicate}
use Rattle.machine.specs.declared.Reply.TheVariants.{Safe}
use Rattle.machine.specs.Record.{Mem, at, sound_at}
use Rattle.machine.specs.Paging.{Gone, entry, slot, within, under, page_at, Absent}
use Rattle.machine.specs.Audit.{audit}
use Rattle.isolation.specs.Answers.{SafeTables}
use Rattle.isolation.proofs.Entries.{gone_names, absent_mapped, zeros_gone}
use Rattle.promises.specs.Demands.{safe_means}
use Rattle.wrongcpus.specs.Inputs.{kernel}
use borrow.Author.Tests.{lt-ltb}

abbrev zeros : Mem
zeros = replicate 4096 0

zero_at : (i : ℕ) → i < 4096 → at zeros i ≡ 0
zero_at i h = get_or-replicate 4096 i 0 0 h

no_entry : (d : ℕ) → d < 1024 → entry zeros 0 d ≡ Gone
no_entry d h = zeros_gone zeros (slot 0 d) (λ j l. zero_at (slot 0 d + j) (omega arith))

none_mapped : (d t : ℕ) → d < 1024 → page_at zeros 0 d t ≡ Absent
unfolding page_at within under
none_mapped d t h = rw (lt-ltb (slot 0 d) 4096 (omega arith), no_entry d h)

safe_tables : SafeTables zeros kernel.control
safe_tables = record {
  dir_in = omega arith;
  tabs_in = λ d f us rw' h e. absurd (gone_names us rw' f (sym (no_entry d h) ∙ e));
  apart = λ f u t. absurd (absent_mapped true true f u.dir_slot u.tab_slot (sym (none_mapped u.dir u.tab u.dir_small) ∙ u.maps));
}

pub safe_somewhere : audit zeros kernel ≡ Safe
unfolding sound_at
safe_somewhere = (safe_means zeros kernel).1 (refl, safe_tables)
