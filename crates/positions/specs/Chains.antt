-- Numbers of several words of w bits each, the lowest first, worked on word by word (document 02, request f). Assumes nothing.
use Rattle.std.specs.Prelude.{ℕ, ◌+◌, ◌*◌, ◌^◌, ◌<◌, List, [], ◌∷◌}
use Rattle.alu.specs.declared.Status.{Status}
use Rattle.alu.specs.declared.Out.{Out}
use Rattle.alu.specs.Arithmetic.{operation}

-- each of them is a word
abbrev pub Words : ℕ → List ℕ → Type 0
Words w [] = Unit {0}
Words w (x ∷ xs) = (x < 2 ^ w) × Words w xs

-- the number that the words are
abbrev pub number : ℕ → List ℕ → ℕ
number w [] = 0
number w (x ∷ xs) = x + 2 ^ w * number w xs

-- an instruction of two operands and the flags before it: what becomes of the first operand, and the flags after it
abbrev pub Instruction : Type 0
Instruction = ℕ → ℕ → Status → Out

-- ---- by their numbers in the arithmetic (crates/alu/specs/Arithmetic.antt, `results`)

abbrev pub add : ℕ → Instruction
add w a b s = operation 0 w a b s

abbrev pub adc : ℕ → Instruction
adc w a b s = operation 2 w a b s

abbrev pub sbb : ℕ → Instruction
sbb w a b s = operation 3 w a b s

abbrev pub sub : ℕ → Instruction
sub w a b s = operation 5 w a b s

-- ---- one after the other, to the end of the shorter list

-- the words that are left, and the flags after the last instruction
pub record Left : Type 0 where
  pub words : List ℕ
  pub status : Status

abbrev pub none : Status → Left
none s = record { words = []; status = s }

abbrev pub before : Out → Left → Left
before o rest = record { words = o.value ∷ rest.words; status = rest.status }

-- one instruction on all pairs of words, each time with the flags that the time before left
abbrev pub all : Instruction → List ℕ → List ℕ → Status → Left
all f [] ys s = none s
all f (x ∷ xs) [] s = none s
all f (x ∷ xs) (y ∷ ys) s = before (f x y s) (all f xs ys (f x y s).status)

-- an instruction on the lowest pair, then another on all that follow
abbrev pub chain : Instruction → Instruction → List ℕ → List ℕ → Status → Left
chain f g [] ys s = none s
chain f g (x ∷ xs) [] s = none s
chain f g (x ∷ xs) (y ∷ ys) s = before (f x y s) (all g xs ys (f x y s).status)

-- ADD followed by ADCs
abbrev pub added : ℕ → List ℕ → List ℕ → Status → Left
added w xs ys s = chain (add w) (adc w) xs ys s

-- SUB followed by SBBs
abbrev pub subtracted : ℕ → List ℕ → List ℕ → Status → Left
subtracted w xs ys s = chain (sub w) (sbb w) xs ys s
