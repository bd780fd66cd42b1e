-- The number of a sign and a magnitude over the weight t of the top bit, and low parts. Assumes nothing.
use Prim.Native.Nat.{ℕ, ◌+◌, ◌-◌, ◌*◌, ◌%◌, ◌^◌, ◌<◌}
use native.Mathlib.Nat.{mod_self, zero-mod}
use native.Mathlib.Omega.{arith}
use mathlib.Core.Path.{◌≡◌, refl, sym, ap, ◌∙◌}
use mathlib.Core.Bool.{Bool, true, false, cond}
use Rattle.alu.specs.Arithmetic.{top, bits, low}
use Rattle.products.specs.Products.{product, quotient}
use Rattle.alu.specs.declared.Status.{Status}
use Rattle.alu.proofs.Words.{low_low, low_number}
use Rattle.std.specs.Prelude.{None}

pub number_zero : (t : ℕ) (negative : Bool) → 0 ≡ cond negative (t + t - 0) 0 % (t + t)
number_zero t true = let e : t + t - 0 ≡ t + t = omega arith in sym (ap (λ (k : ℕ). k % (t + t)) e ∙ mod_self (t + t))
number_zero t false = sym (zero-mod (t + t))

-- ---- the weights of the top bits, at either width

pub square : (wide : Bool) → top (bits wide) * 2 ^ bits wide ≡ top (bits wide + bits wide)
square true = refl
square false = refl

pub squares : (wide : Bool) → top (bits wide + bits wide) + top (bits wide + bits wide) ≡ 2 ^ (bits wide + bits wide)
squares true = refl
squares false = refl

pub by_zero : (signed wide : Bool) (high low' : ℕ) {n d : ℕ} → (n ≡ d) × (n < 2 ^ bits wide) → n ≡ 0 → None ≡ quotient signed wide high low' d
unfolding quotient
by_zero true wide high low' h z = rw (low_number wide h, ← h.0, z)
by_zero false wide high low' h z = rw (low_number wide h, ← h.0, z)

-- ---- low parts

pub product_low : (signed wide : Bool) (a b : ℕ) (s : Status) → product signed wide (low wide a) (low wide b) s ≡ product signed wide a b s
unfolding product
product_low signed wide a b s = rw (low_low wide a, low_low wide b)

pub quotient_low : (signed wide : Bool) (h l d : ℕ) → quotient signed wide (low wide h) (low wide l) (low wide d) ≡ quotient signed wide h l d
unfolding quotient
quotient_low signed wide h l d = rw (low_low wide h, low_low wide l, low_low wide d)
