-- MUL, IMUL, DIV and IDIV, over the width w in bits: signed numbers by sign and magnitude (document 01, "Flags and numbers").
-- Assumes nothing.
use Rattle.std.specs.Prelude.{ℕ, ◌+◌, ◌-◌, ◌*◌, ◌/◌, ◌%◌, ◌^◌, Bool, not, cond, ltb, leb, eqb, Option, Some, None}
use Rattle.std.specs.Bool.{beq}
use Rattle.alu.specs.declared.Status.{Status}
use Rattle.alu.specs.Arithmetic.{top, sign, bits, low}
use Rattle.products.specs.declared.Product.{Product}
use Rattle.products.specs.declared.Division.{Division}

-- ---- signed numbers

abbrev pub magnitude : ℕ → ℕ → ℕ
magnitude w a = cond (sign w a) (2 ^ w - a) a

-- the number of a sign and a magnitude
abbrev pub number : ℕ → Bool → ℕ → ℕ
number w negative m = cond negative (2 ^ w - m) m % 2 ^ w

-- a magnitude is in the signed range: up to the top bit's weight for a negative number, below it for another
abbrev pub fits : ℕ → Bool → ℕ → Bool
fits w negative m = cond negative (leb m (top w)) (ltb m (top w))

abbrev pub unlike : ℕ → ℕ → ℕ → Bool
unlike w a b = not (beq (sign w a) (sign w b))

-- ---- products: CF and OF say that the upper half matters, the other flags keep their old state

abbrev pub carried : Status → Bool → Status
carried s b = record { cf = b; pf = s.pf; af = s.af; zf = s.zf; sf = s.sf; of = b }

-- the two halves of a number of 2 w bits
abbrev pub halves : ℕ → ℕ → Status → Product
halves w p s = record { low = p % 2 ^ w; high = p / 2 ^ w; status = s }

abbrev pub unsigned_product : ℕ → ℕ → ℕ → Status → Product
unsigned_product w a b s = halves w (a * b) (carried s (leb (2 ^ w) (a * b)))

-- lost: the product does not fit w bits as a signed number
abbrev pub signed_product : ℕ → ℕ → ℕ → Status → Product
signed_product w a b s =
    halves w (number (w + w) (unlike w a b) (magnitude w a * magnitude w b))
    (carried s (not (fits w (unlike w a b) (magnitude w a * magnitude w b))))

unfoldable pub product : Bool → Bool → ℕ → ℕ → Status → Product
product signed wide a b s =
    cond signed (signed_product (bits wide) (low wide a) (low wide b) s) (unsigned_product (bits wide) (low wide a) (low wide b) s)

-- ---- quotients: n has 2 w bits; a divisor of 0 and a quotient that does not fit are refused

abbrev pub divided : ℕ → ℕ → Option Division
divided q r = Some (record { quotient = q; remainder = r })

abbrev pub unsigned_quotient : ℕ → ℕ → ℕ → Option Division
unsigned_quotient w n d = cond (eqb d 0) None (cond (leb (2 ^ w) (n / d)) None (divided (n / d) (n % d)))

-- rounded toward zero; the remainder has the dividend's sign
abbrev pub signed_quotient : ℕ → ℕ → ℕ → Option Division
signed_quotient w n d =
    cond (eqb d 0) None
    (cond (fits w (not (beq (sign (w + w) n) (sign w d))) (magnitude (w + w) n / magnitude w d))
    (divided (number w (not (beq (sign (w + w) n) (sign w d))) (magnitude (w + w) n / magnitude w d))
    (number w (sign (w + w) n) (magnitude (w + w) n % magnitude w d)))
    None)

unfoldable pub quotient : Bool → Bool → ℕ → ℕ → ℕ → Option Division
quotient signed wide high low' d =
    cond signed (signed_quotient (bits wide) (low wide high * 2 ^ bits wide + low wide low') (low wide d))
    (unsigned_quotient (bits wide) (low wide high * 2 ^ bits wide + low wide low') (low wide d))
