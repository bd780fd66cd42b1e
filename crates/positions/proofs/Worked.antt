-- The chains that are worked out, by computation. Assumes nothing.
use mathlib.Core.Path.{refl}
use Rattle.alu.specs.declared.Status.{Status}
use Rattle.alu.specs.Arithmetic.{operation, sum_status, difference_status}
use Rattle.positions.specs.Worked.{WorkedSums, WorkedDifferences, WorkedTests}

pub worked_sums : (s : Status) → WorkedSums s
unfolding operation sum_status
worked_sums s = ((refl, refl), (refl, refl))

pub worked_differences : (s : Status) → WorkedDifferences s
unfolding operation difference_status
worked_differences s = ((refl, refl), (refl, refl))

pub worked_tests : (s : Status) → WorkedTests s
unfolding operation sum_status difference_status
worked_tests s = (refl, refl, refl, refl)
