-- Numbers in the instruction, byte after byte from EIP (document 01, "Order within one step", 2).
-- Assumes nothing.
use Rattle.std.specs.Prelude.{ℕ, ◌+◌, ◌*◌, cond, ◌==◌, nat_lt}
use Rattle.machine.specs.Act.{Act, ◌>>=◌, return, fetch}

-- a byte with its sign, as a dword
abbrev pub signed : ℕ → ℕ
signed x = cond (nat_lt x 128) x (x + 4294967040)

unfoldable pub fetch_signed : ℕ → Act ℕ
fetch_signed eip = do
  x ← fetch eip
  return (signed x)

unfoldable pub fetch_word : ℕ → Act ℕ
fetch_word eip = do
  a ← fetch eip
  b ← fetch eip
  return (a + 256 * b)

unfoldable pub fetch_dword : ℕ → Act ℕ
fetch_dword eip = do
  a ← fetch eip
  b ← fetch eip
  c ← fetch eip
  d ← fetch eip
  return (a + 256 * b + 65536 * c + 16777216 * d)

-- a number of so many bytes: 1 with its sign, 2 without, 4; or none, and 0
unfoldable pub number : ℕ → ℕ → Act ℕ
number eip n = cond (n == 1) (fetch_signed eip) (cond (n == 2) (fetch_word eip) (cond (n == 4) (fetch_dword eip) (return 0)))
