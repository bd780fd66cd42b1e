-- What the operators do to an operand of either width, and what a dword shows of one.
-- Assumes nothing.
use Rattle.std.specs.Prelude.{ℕ, ◌≡◌, ◌/◌, ◌%◌, eqb}
use Rattle.alu.specs.Arithmetic.{parity, is_zero, sign}

-- an operator, by when it may be used and what it gives, does f to the numbers
abbrev pub Computes : {A : Type 0} (number : A → ℕ) (can : A → A → Type 0) (gives : A → A → A → Type 0) (f : ℕ → ℕ → ℕ) → Type 0
Computes {A} number can gives f = (a b : A) → can a b × ((r : A) → gives a b r → number r ≡ f (number a) (number b))

-- the dword n has the carries into the places 4 and w - 1 that m has, the latter as the one into its own top place
abbrev pub CarriesAlike : (w n m : ℕ) → Type 0
CarriesAlike w n m = (eqb (n / 16 % 2) 1 ≡ eqb (m / 16 % 2) 1) × (sign 32 n ≡ sign w m)

-- the dword n shows ZF, SF and PF as r does over its w places
abbrev pub ShowsAlike : (w n r : ℕ) → Type 0
ShowsAlike w n r = (parity n ≡ parity r) × ((is_zero n ≡ is_zero r) × (sign 32 n ≡ sign w r))
