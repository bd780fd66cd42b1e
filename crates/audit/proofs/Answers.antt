-- The audit's answers, one law each.
-- Assumes nothing.
use Prim.Native.Nat.{ℕ, ◌*◌, ◌%◌, ◌≤◌}
use mathlib.Core.Path.{◌≡◌}
use mathlib.Core.Bool.{true, false, ◌&&◌}
use mathlib.Core.Option.{none, some}
use lib.ListN.{length}
use lib.Dec.{eqb, leb}
use borrow.Author.Tests.{leb-true, eqb-true}
use Rattle.machine.specs.declared.Control.{Control}
use Rattle.machine.specs.declared.Cpu.{Cpu}
use Rattle.machine.specs.declared.Reply.TheVariants.{Safe, TableOutside, Exposed}
use Rattle.machine.specs.Record.{Mem, sound_at, size_sound}
use Rattle.machine.specs.Paging.{dir_frame}
use Rattle.machine.specs.Audit.{first, in_memory, outside, exposed, found, need, tables}
use Rattle.isolation.proofs.Audited.{and_true}

module _ (m : Mem) (c : Control) where
  pub no_directory : in_memory (length m) (dir_frame c) ≡ false → tables m c ≡ TableOutside 1024
  unfolding tables need
  no_directory h = rw h

  module _ (h : in_memory (length m) (dir_frame c) ≡ true) where
    pub no_table : (d : ℕ) → first (outside m c) 1024 ≡ some d → tables m c ≡ TableOutside d
    unfolding tables need found
    no_table d e = rw (h, e)

    pub opened : (p : ℕ) → first (outside m c) 1024 ≡ none → first (exposed m c) 1048576 ≡ some p → tables m c ≡ Exposed (p * 4096)
    unfolding tables need found
    opened p e q = rw (h, e, q)

    pub all_safe : first (outside m c) 1024 ≡ none → first (exposed m c) 1048576 ≡ none → tables m c ≡ Safe
    unfolding tables need found
    all_safe e q = rw (h, e, q)

module _ (n : ℕ) (r : Cpu) (h : sound_at n r ≡ true) where
  size_sound_lem : size_sound n ≡ true
  unfolding sound_at
  size_sound_lem = (and_true _ _ (and_true _ _ (and_true _ _ (and_true _ _ h).0).0).0).0

  pub whole_frames : n % 4096 ≡ 0
  whole_frames = eqb-true _ _ (and_true _ _ (and_true _ _ size_sound_lem).0).0

  pub few_frames : n ≤ 16777216
  few_frames = leb-true _ _ (and_true (eqb (n % 4096) 0 && leb 4096 n) (leb n 16777216) size_sound_lem).1
