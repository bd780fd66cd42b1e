-- The status in brief, read only when a flag is asked for: ZF, SF and PF are those of a dword that was seen last, and CF, AF and OF are told by the carries
-- of an operation.
-- Assumes nothing.
use Rattle.std.specs.Prelude.{ℕ, ◌/◌, ◌%◌, Bool, not, ◌&&◌, ◌||◌, eqb}
use Rattle.std.specs.Bool.{beq}
use Rattle.alu.specs.declared.Status.{Status}
use Rattle.alu.specs.declared.Out.{Out}
use Rattle.alu.specs.declared.brief.Brief.{Brief}
use Rattle.alu.specs.declared.brief.Short.{Short}
use Rattle.alu.specs.Arithmetic.{parity, is_zero, sign}

-- some flags, beside those that a dword shows
abbrev pub seeing : Bool → Bool → Bool → ℕ → Status
seeing cf af of seen = record { cf = cf; pf = parity seen; af = af; zf = is_zero seen; sf = sign 32 seen; of = of }

-- the carry out of the top place
abbrev pub carry_out : Brief → Bool
carry_out f = eqb (f.out % 2) 1

-- CF is that carry, AF the one into place 4, and OF is set where the carry into the top place is not the one out of it
abbrev pub status_in : Brief → Status
status_in f = seeing (carry_out f) (eqb (f.into / 16 % 2) 1) (not (beq (sign 32 f.into) (carry_out f))) f.seen

abbrev pub out_in : Short → Out
out_in r = record { value = r.value; status = status_in r.flags }

-- a status that some dword shows: 0 is not negative, and its parity is even
abbrev pub tellable : Status → Bool
tellable s = not s.zf || (not s.sf && s.pf)
