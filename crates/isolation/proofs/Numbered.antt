-- Each number of a reply is at most 10. Assumes nothing.
use Prim.Native.Nat.{◌≤◌}
use native.Mathlib.Omega.{arith}
use Rattle.machine.specs.declared.Reply.{Reply}
use Rattle.machine.specs.declared.Reply.TheVariants.{Done, Fault, Trap, Halt, BadRecord, NoMemory, NotBuilt, Spent, Safe, TableOutside, Exposed}
use Rattle.machine.specs.Replies.{numbered}

pub number_at_most : (q : Reply) → (numbered q).number ≤ 10
unfolding numbered
number_at_most Done = omega arith
number_at_most (Fault v e a) = omega arith
number_at_most (Trap v e) = omega arith
number_at_most (Halt e) = omega arith
number_at_most BadRecord = omega arith
number_at_most (NoMemory p) = omega arith
number_at_most (NotBuilt e) = omega arith
number_at_most Spent = omega arith
number_at_most Safe = omega arith
number_at_most (TableOutside i) = omega arith
number_at_most (Exposed a) = omega arith
