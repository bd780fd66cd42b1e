-- What the audit's answers mean, without its searches.
-- Assumes nothing.
use Rattle.std.specs.Prelude.{ℕ, ◌*◌, ◌<◌, ◌≡◌, Bool, true, false, length}
use Rattle.machine.specs.declared.Control.{Control}
use Rattle.machine.specs.Record.{Mem}
use Rattle.machine.specs.Paging.{Names, entry, dir_frame}
use Rattle.isolation.specs.Guarded.{TableFrame, UserFrame}

-- i is the lowest number below n that passes
pub record Lowest (p : ℕ → Bool) (n i : ℕ) : Type 0 where
  pub small : i < n
  pub passes : p i ≡ true
  pub before : (j : ℕ) → j < i → p j ≡ false

-- nothing is wrong: the directory and every present table exist, and no frame of theirs is one that the user may write
pub record SafeTables (m : Mem) (c : Control) : Type 0 where
  pub dir_in : dir_frame c * 4096 < length m
  pub tabs_in : (d f : ℕ) (us rw' : Bool) → d < 1024 → entry m (dir_frame c) d ≡ Names us rw' f → f * 4096 < length m
  pub apart : (f : ℕ) → UserFrame m c f → TableFrame m c f → ⊥
