-- What the audit's searches find, and its flags of the frames that hold tables.
-- Assumes nothing.
use Rattle.std.specs.Prelude.{ℕ, ◌*◌, ◌/◌, ◌%◌, ◌<◌, ◌≤◌, ◌≡◌, Bool, true, false, ◌||◌, cond, List, length, get_or, set, eqb, Option, Some, None}
use Rattle.std.proofs.Math.Option as maybe
use Rattle.machine.specs.declared.Control.{Control}
use Rattle.machine.specs.Record.{Mem}
use Rattle.machine.specs.Paging.{entry, dir_frame}
use Rattle.machine.specs.Audit.{first, is_some, names, outside, holds_table}

-- what a search answers, in the words of the definition
abbrev pub found_of : Option ℕ → maybe.Option ℕ
found_of (Some i) = maybe.some i
found_of None = maybe.none

-- the directory and every present table lie in a memory of whole frames
pub record Sized (m : Mem) (c : Control) : Type 0 where
  pub whole : length m % 4096 ≡ 0
  pub small : length m ≤ 16777216
  pub dir_in : dir_frame c * 4096 < length m
  pub tabs_in : first (outside m c) 1024 ≡ maybe.none

-- ---- one flag for each frame that a memory can have

pub record Clear (h : List Bool) : Type 0 where
  pub size : length h ≡ 4096
  pub says : (f : ℕ) → get_or h f false ≡ false

-- the flags with that of the table which entry e names
unfoldable pub with_table : List Bool → ℕ → List Bool
with_table h e = cond (eqb (e % 2) 1) (set h (e / 4096) true) h

-- frame f holds the directory or one of the tables that its first n entries name
unfoldable pub holds_below : Mem → Control → ℕ → ℕ → Bool
holds_below m c n f = eqb f (dir_frame c) || is_some (first (λ d. names f (entry m (dir_frame c) d)) n)

pub record Flags (m : Mem) (c : Control) (n : ℕ) (h : List Bool) : Type 0 where
  pub size : length h ≡ 4096
  pub says : (f : ℕ) → f < 4096 → get_or h f false ≡ holds_below m c n f

abbrev pub Held : Mem → Control → List Bool → Type 0
Held m c h = (f : ℕ) → get_or h f false ≡ holds_table m c f
