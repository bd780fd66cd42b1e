-- The numbered replies (document 01, "The numbered replies"): each case with its number and the values that it carries.
-- Assumes nothing.
use Rattle.std.specs.Prelude.{ℕ, Bool, true, false, List, [], ◌∷◌}
use Rattle.machine.specs.declared.Reply.{Reply}
use Rattle.machine.specs.declared.Reply.TheVariants.{Done, Fault, Trap, Halt, BadRecord, NoMemory, NotBuilt, Spent, Safe, TableOutside, Exposed}

pub record Numbered : Type 0 where
  pub number : ℕ
  pub carries : List ℕ

abbrev pub is : ℕ → List ℕ → Numbered
is n l = record { number = n; carries = l }

unfoldable pub numbered : Reply → Numbered
numbered Done = is 0 []
numbered (Fault vector code address) = is 1 (vector ∷ code ∷ address ∷ [])
numbered (Trap vector next) = is 2 (vector ∷ next ∷ [])
numbered (Halt next) = is 3 (next ∷ [])
numbered BadRecord = is 4 []
numbered (NoMemory physical) = is 5 (physical ∷ [])
numbered (NotBuilt eip) = is 6 (eip ∷ [])
numbered Spent = is 7 []
numbered Safe = is 8 []
numbered (TableOutside index) = is 9 (index ∷ [])
numbered (Exposed page) = is 10 (page ∷ [])

abbrev pub is_done : Reply → Bool
is_done Done = true
is_done (Fault v e a) = false
is_done (Trap v e) = false
is_done (Halt e) = false
is_done BadRecord = false
is_done (NoMemory p) = false
is_done (NotBuilt e) = false
is_done Spent = false
is_done Safe = false
is_done (TableOutside i) = false
is_done (Exposed a) = false
