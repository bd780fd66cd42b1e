-- What is claimed of numbers of several words, whatever the flags before. Words have any width w: dwords 32 bits, bytes 8.
-- Assumes nothing.
use Rattle.std.specs.Prelude.{ℕ, ◌+◌, ◌-◌, ◌*◌, ◌/◌, ◌%◌, ◌^◌, ◌≤◌, ◌<◌, ◌≡◌, Bool, true, ◌↔◌, ◌⊎◌, List, [], ◌∷◌, length}
use Rattle.alu.specs.declared.Status.{Status}
use Rattle.alu.specs.Arithmetic.{bit}
use Rattle.positions.specs.Chains.{Words, number, Left, added, subtracted}

-- two numbers of equally many words, and of at least one
pub record EquallyLong (w : ℕ) (xs ys : List ℕ) : Type 0 where
  pub some : 1 ≤ length xs
  pub equal : length xs ≡ length ys
  pub first : Words w xs
  pub second : Words w ys

-- ---- ADD followed by ADCs is addition modulo 2 ^ (w * count), and the last CF is the carry

pub record Sum (w : ℕ) (xs ys : List ℕ) (r : Left) : Type 0 where
  pub long : EquallyLong w r.words xs
  pub value : number w r.words ≡ (number w xs + number w ys) % 2 ^ (w * length xs)
  pub carry : bit r.status.cf ≡ (number w xs + number w ys) / 2 ^ (w * length xs)

abbrev pub Sums : Type 0
Sums = (w : ℕ) (xs ys : List ℕ) (s : Status) → EquallyLong w xs ys → Sum w xs ys (added w xs ys s)

-- ---- SUB followed by SBBs is subtraction modulo 2 ^ (w * count), and the last CF is set exactly where the first number is less than the second

pub record Difference (w : ℕ) (xs ys : List ℕ) (r : Left) : Type 0 where
  pub long : EquallyLong w r.words xs
  pub value : number w r.words ≡ (2 ^ (w * length xs) + number w xs - number w ys) % 2 ^ (w * length xs)
  pub borrow : (r.status.cf ≡ true) ↔ (number w xs < number w ys)

abbrev pub Differences : Type 0
Differences = (w : ℕ) (xs ys : List ℕ) (s : Status) → EquallyLong w xs ys → Difference w xs ys (subtracted w xs ys s)

-- ---- SUB followed by SBBs takes away what ADD followed by ADCs added, and the first list is as it was

abbrev pub Restored : Type 0
Restored = (w : ℕ) (xs ys : List ℕ) (s t : Status) → EquallyLong w xs ys → (subtracted w (added w xs ys s).words ys t).words ≡ xs

-- ---- one answer: equally many words that are the same number are the same words

abbrev pub OneAnswer : Type 0
OneAnswer = (w : ℕ) (xs ys : List ℕ) → EquallyLong w xs ys → number w xs ≡ number w ys → xs ≡ ys

-- ---- positions of two dwords, as guests/sync/sync.s compares them: with the difference d, it jumps by the borrow of (d + 1) - 3

abbrev pub plus : Left → List ℕ → Left
plus d ys = added 32 d.words ys d.status

abbrev pub minus : Left → List ℕ → Left
minus d ys = subtracted 32 d.words ys d.status

abbrev pub borrows : List ℕ → List ℕ → Status → Bool
borrows xs ys s = (minus (plus (subtracted 32 xs ys s) (1 ∷ 0 ∷ [])) (3 ∷ 0 ∷ [])).status.cf

-- d is 0, 1 or -1 modulo 2 ^ 64, so that 0 comes after the greatest
abbrev pub Near : ℕ → ℕ → Type 0
Near x y = (x ≡ y) ⊎ ((x ≡ (y + 1) % 2 ^ 64) ⊎ (y ≡ (x + 1) % 2 ^ 64))

abbrev pub Wavering : Type 0
Wavering = (xs ys : List ℕ) (s : Status) → EquallyLong 32 xs ys → length xs ≡ 2 → (borrows xs ys s ≡ true) ↔ Near (number 32 xs) (number 32 ys)
