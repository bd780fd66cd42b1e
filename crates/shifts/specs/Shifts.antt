-- SHL, SHR and SAR, one place at a time, over the width w in bits (document 01, "Flags and numbers").
-- Assumes nothing.
use Rattle.std.specs.Prelude.{ℕ, zero, suc, ◌+◌, ◌-◌, ◌*◌, ◌/◌, ◌%◌, ◌^◌, Bool, false, not, cond, eqb}
use Rattle.std.specs.Bool.{beq}
use Rattle.alu.specs.declared.Status.{Status}
use Rattle.alu.specs.declared.Out.{Out}
use Rattle.alu.specs.Arithmetic.{top, sign, is_zero, parity, bits, low}

-- one place
abbrev pub left : ℕ → ℕ → ℕ
left w v = v * 2 % 2 ^ w

abbrev pub right : ℕ → ℕ
right v = v / 2

-- the sign stays
abbrev pub right_signed : ℕ → ℕ → ℕ
right_signed w v = cond (sign w v) (v / 2 + top w) (v / 2)

unfoldable pub times : (ℕ → ℕ) → ℕ → ℕ → ℕ
times f zero v = v
times f (suc n) v = f (times f n v)

abbrev pub odd : ℕ → Bool
odd v = eqb (v % 2) 1

-- the status after n places that made r, where last is the last bit out, and one is OF after one place: count 0 changes no flag,
-- AF is kept, and OF changes only for count 1
unfoldable pub shift_status : ℕ → ℕ → Status → ℕ → Bool → Bool → Status
shift_status w n s r last one =
    cond (eqb n 0) s
    (record { cf = last; pf = parity r; af = s.af; zf = is_zero r; sf = sign w r; of = cond (eqb n 1) one s.of })

-- CF is the top bit that leaves; OF: the new top bit differs from the new CF
abbrev pub shift_left : ℕ → ℕ → ℕ → Status → Out
shift_left w n v s =
    record {
      value = times (left w) n v;
      status =
          shift_status w n s (times (left w) n v) (sign w (times (left w) (n - 1) v))
          (not (beq (sign w (times (left w) n v)) (sign w (times (left w) (n - 1) v))));
    }

-- CF is the low bit that leaves; OF: the old top bit
abbrev pub shift_right : ℕ → ℕ → ℕ → Status → Out
shift_right w n v s =
    record { value = times right n v; status = shift_status w n s (times right n v) (odd (times right (n - 1) v)) (sign w v) }

abbrev pub shift_right_signed : ℕ → ℕ → ℕ → Status → Out
shift_right_signed w n v s =
    record {
      value = times (right_signed w) n v;
      status = shift_status w n s (times (right_signed w) n v) (odd (times (right_signed w) (n - 1) v)) false;
    }

-- by the reg field: 4 SHL, 5 SHR; any other is SAR, 7
unfoldable pub shifted : ℕ → ℕ → ℕ → ℕ → Status → Out
shifted op w n v s = cond (eqb op 4) (shift_left w n v s) (cond (eqb op 5) (shift_right w n v s) (shift_right_signed w n v s))

-- counts are taken modulo 32, at either width
unfoldable pub shift : ℕ → Bool → ℕ → ℕ → Status → Out
shift op wide count v s = shifted op (bits wide) (count % 32) (low wide v) s
