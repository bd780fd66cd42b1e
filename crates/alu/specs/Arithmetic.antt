-- Arithmetic with its flags, over the width w in bits: operands a and b are below 2 ^ w, and c is the carry or borrow in, 0 or 1
-- (document 01, "Flags and numbers").
-- Assumes nothing.
use Rattle.std.specs.Prelude.{ℕ, ◌+◌, ◌-◌, ◌*◌, ◌%◌, ◌^◌, Bool, true, false, not, ◌&&◌, ◌||◌, cond, List, [], ◌∷◌, get_or, ltb, leb, eqb}
use Rattle.std.specs.Int.Bits.{bit_and, bit_or, bit_xor}
use Rattle.std.specs.Int.Count.{ones}
use Rattle.alu.specs.declared.Status.{Status}
use Rattle.alu.specs.declared.Out.{Out}

-- 1 for a flag that is set
abbrev pub bit : Bool → ℕ
bit true = 1
bit false = 0

-- the weight of the top bit
abbrev pub top : ℕ → ℕ
top w = 2 ^ (w - 1)

-- SF: the top bit
abbrev pub sign : ℕ → ℕ → Bool
sign w r = leb (top w) r

-- ZF
abbrev pub is_zero : ℕ → Bool
is_zero r = eqb r 0

-- PF: even parity of the low byte
unfoldable pub parity : ℕ → Bool
parity r = eqb (ones (r % 256) % 2) 0

-- the signed value of a, with the weight of the top bit added so that it is at least 0
abbrev pub lifted : ℕ → ℕ → ℕ
lifted w a = (a + top w) % 2 ^ w

-- ---- a + b + c

abbrev pub sum_value : ℕ → ℕ → ℕ → ℕ → ℕ
sum_value w a b c = (a + b + c) % 2 ^ w

-- the sum of the signed values is in the signed range: both sides are lifted twice
abbrev pub sum_fits : ℕ → ℕ → ℕ → ℕ → Bool
sum_fits w a b c = leb (top w) (lifted w a + lifted w b + c) && ltb (lifted w a + lifted w b + c) (3 * top w)

unfoldable pub sum_status : ℕ → ℕ → ℕ → ℕ → Status
sum_status w a b c =
    record {
      cf = leb (2 ^ w) (a + b + c);
      pf = parity (sum_value w a b c);
      af = leb 16 (a % 16 + b % 16 + c);
      zf = is_zero (sum_value w a b c);
      sf = sign w (sum_value w a b c);
      of = not (sum_fits w a b c);
    }

abbrev pub sum : ℕ → ℕ → ℕ → ℕ → Out
sum w a b c = record { value = sum_value w a b c; status = sum_status w a b c }

-- ---- a - b - c: the borrow is never folded into b, so that it is not lost where b is all ones

abbrev pub difference_value : ℕ → ℕ → ℕ → ℕ → ℕ
difference_value w a b c = (2 ^ w + a - (b + c)) % 2 ^ w

-- the difference of the signed values is in the signed range
abbrev pub difference_fits : ℕ → ℕ → ℕ → ℕ → Bool
difference_fits w a b c = leb (lifted w b + c) (lifted w a + top w) && ltb (lifted w a) (lifted w b + c + top w)

unfoldable pub difference_status : ℕ → ℕ → ℕ → ℕ → Status
difference_status w a b c =
    record {
      cf = ltb a (b + c);
      pf = parity (difference_value w a b c);
      af = ltb (a % 16) (b % 16 + c);
      zf = is_zero (difference_value w a b c);
      sf = sign w (difference_value w a b c);
      of = not (difference_fits w a b c);
    }

abbrev pub difference : ℕ → ℕ → ℕ → ℕ → Out
difference w a b c = record { value = difference_value w a b c; status = difference_status w a b c }

-- ---- AND, OR, XOR, TEST: CF, AF and OF are 0 (AF by document 02, request b), so nothing of the flags before, s, is kept

unfoldable pub logic_status : ℕ → Status → ℕ → Status
logic_status w s r = record { cf = false; pf = parity r; af = false; zf = is_zero r; sf = sign w r; of = false }

abbrev pub logic : ℕ → Status → ℕ → Out
logic w s r = record { value = r; status = logic_status w s r }

-- ---- the operations of two operands: what becomes of the first, a, by the second, b

-- MOV
abbrev pub moved : ℕ → Status → Out
moved b s = record { value = b; status = s }

-- by number: ADD OR ADC SBB AND SUB XOR CMP, as their opcodes have it, then TEST
abbrev pub results : ℕ → ℕ → ℕ → Status → List Out
results w a b s =
    sum w a b 0 ∷ logic w s (bit_or a b) ∷ sum w a b (bit s.cf) ∷ difference w a b (bit s.cf)
    ∷ logic w s (bit_and a b) ∷ difference w a b 0 ∷ logic w s (bit_xor a b) ∷ difference w a b 0
    ∷ logic w s (bit_and a b) ∷ []

-- any other number is MOV
unfoldable pub operation : ℕ → ℕ → ℕ → ℕ → Status → Out
operation op w a b s = get_or (results w a b s) op (moved b s)

abbrev pub cmp : ℕ
cmp = 7

abbrev pub test : ℕ
test = 8

abbrev pub mov : ℕ
mov = 9

-- CMP and TEST only set flags; every other operation writes its first operand
abbrev pub writes : ℕ → Bool
writes op = not (eqb op cmp || eqb op test)

-- ---- the operations of one operand, by number: INC and DEC keep CF, NOT keeps every flag, NEG is 0 - a

abbrev pub keep_carry : Status → Status → Status
keep_carry s t = record { cf = s.cf; pf = t.pf; af = t.af; zf = t.zf; sf = t.sf; of = t.of }

abbrev pub increment : ℕ → ℕ → Status → Out
increment w a s = record { value = sum_value w a 1 0; status = keep_carry s (sum_status w a 1 0) }

abbrev pub decrement : ℕ → ℕ → Status → Out
decrement w a s = record { value = difference_value w a 1 0; status = keep_carry s (difference_status w a 1 0) }

abbrev pub inverted : ℕ → ℕ → Status → Out
inverted w a s = record { value = 2 ^ w - 1 - a; status = s }

-- INC 0, DEC 1, NOT 2; any other is NEG
unfoldable pub single : ℕ → ℕ → ℕ → Status → Out
single op w a s = get_or (increment w a s ∷ decrement w a s ∷ inverted w a s ∷ []) op (difference w 0 a 0)

-- ---- the two widths: dwords (true) and bytes

abbrev pub bits : Bool → ℕ
bits true = 32
bits false = 8

-- the low part of x that the width takes
abbrev pub low : Bool → ℕ → ℕ
low wide x = x % 2 ^ bits wide

unfoldable pub operate : ℕ → Bool → ℕ → ℕ → Status → Out
operate op wide a b s = operation op (bits wide) (low wide a) (low wide b) s

unfoldable pub operate_one : ℕ → Bool → ℕ → Status → Out
operate_one op wide a s = single op (bits wide) (low wide a) s

-- a byte with its sign, as a dword
abbrev pub signed_byte : ℕ → ℕ
signed_byte x = cond (ltb x 128) x (x + 4294967040)
