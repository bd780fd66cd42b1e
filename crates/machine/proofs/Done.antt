-- A reply that is not Done, as a match leaves it, does not count as Done. Assumes nothing.
use mathlib.Core.Path.{◌≡◌, refl}
use mathlib.Core.Bool.{false}
use Rattle.machine.specs.declared.Reply.{Reply}
use Rattle.machine.specs.declared.Reply.TheVariants.{Done, Fault, Trap, Halt, BadRecord, NoMemory, NotBuilt, Spent, Safe, TableOutside, Exposed}
use Rattle.machine.specs.Replies.{is_done}

pub not_done : (k : Reply) → (k ≡ Done → ⊥) → is_done k ≡ false
not_done Done h = absurd (h refl)
not_done (Fault a b c) h = refl
not_done (Trap a b) h = refl
not_done (Halt a) h = refl
not_done BadRecord h = refl
not_done (NoMemory a) h = refl
not_done (NotBuilt a) h = refl
not_done Spent h = refl
not_done Safe h = refl
not_done (TableOutside a) h = refl
not_done (Exposed a) h = refl
