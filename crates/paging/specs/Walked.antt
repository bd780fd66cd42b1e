-- What the walk's code answers: a place and the entries to mark, or the refusal.
-- Assumes nothing.
use Rattle.std.specs.Prelude.{ℕ, ◌%◌, ◌≡◌, Bool, false, cond, eqb, ltb, List, [], ◌∷◌, length, Option, Some, None, Result, Ok, Err}
use Rattle.machine.specs.Record.{Mem}
use Rattle.machine.specs.declared.Control.{Control}
use Rattle.machine.specs.declared.Reply.{Reply}
use Rattle.machine.specs.declared.Reply.TheVariants.{NoMemory}
use Rattle.machine.specs.Paging.{Translation, At, No, dword_at, exists, reach, page_of, translate}
use Rattle.machine.specs.Commit.{Patch, mark, marks_of, marks, if_at}
use Rattle.machine.specs.Act.{touch}
use Rattle.paging.specs.declared.Entries.{Entries}
use Rattle.paging.specs.declared.Reached.{Reached}

-- the entry at a physical address, or why there is none: memory ends before it, or it names nothing
unfoldable pub present_at : Mem → ℕ → Reply → Result ℕ Reply
present_at m a absent = cond (ltb a (length m)) (cond (eqb (dword_at m a % 2) 1) (Ok (dword_at m a)) (Err absent)) (Err (NoMemory a))

abbrev pub translation_of : Result Reached Reply → Translation
translation_of (Ok t) = At t.place.0
translation_of (Err r) = No r

-- what marking does: A in both entries, and for a write D in the table's
unfoldable pub patches_of : Bool → Option Entries → List Patch
patches_of w None = []
patches_of w (Some e) = record { place = e.dir.0; becomes = mark false } ∷ record { place = e.table.0; becomes = mark w } ∷ []

abbrev pub marks_in : Bool → Result Reached Reply → List Patch
marks_in w (Ok t) = patches_of w t.entries
marks_in w (Err r) = []

-- with paging on
pub record OnPage (m : Mem) (c : Control) (w : Bool) (l : ℕ) (r : Result Reached Reply) : Type 0 where
  pub reached : translation_of r ≡ reach (length m) c w l (page_of m c l)
  pub marked : marks_in w r ≡ if_at (reach (length m) c w l (page_of m c l)) (marks_of w (page_of m c l))

-- with paging off
pub record Flat (m : Mem) (l : ℕ) (r : Result Reached Reply) : Type 0 where
  pub reached : translation_of r ≡ exists (length m) l
  pub unmarked : (w : Bool) → marks_in w r ≡ []

pub record Walked (m : Mem) (c : Control) (w : Bool) (l : ℕ) (r : Result Reached Reply) : Type 0 where
  pub reached : translation_of r ≡ translate m c w l
  pub marked : marks_in w r ≡ marks m c (touch w l)
