-- What the decoder reads where all the bytes are there: an operand, as a function of memory. j is the index of the byte after ModRM.
-- Assumes nothing.
use Rattle.std.specs.Prelude.{◌≡◌, ℕ, ◌+◌, ◌/◌, ◌%◌, ◌<◌, Bool, false, cond, ◌&&◌, ◌==◌, nat_le}
use Rattle.machine.specs.Record.{Mem, at, wrap}
use Rattle.machine.specs.Paging.{View, Byte, dword_at}
use Rattle.encoding.specs.declared.Operand.{Operand}
use Rattle.fetch.specs.Fetch.{signed}
use Rattle.decode.specs.Decode.{in_register, in_memory, displacement_bytes, scale_of, index_of}

-- from eip on the view shows the sixteen bytes at index i
abbrev pub Shows : View → Mem → ℕ → ℕ → Type 0
Shows v m eip i = (n : ℕ) → n < 16 → v false (wrap (eip + n)) ≡ Byte (at m (i + n))

abbrev pub displacement_at : Mem → ℕ → ℕ → ℕ
displacement_at m j md = cond (md == 1) (signed (at m j)) (cond (md == 2) (dword_at m j) 0)

abbrev pub is_bare : ℕ → ℕ → Bool
is_bare md s = s % 8 == 5 && md == 0

unfoldable pub sib_at : Mem → ℕ → ℕ → Operand
sib_at m j md =
    cond (is_bare md (at m j)) (in_memory 8 (index_of (at m j)) (scale_of (at m j)) (dword_at m (j + 1)))
    (in_memory (at m j % 8) (index_of (at m j)) (scale_of (at m j)) (displacement_at m (j + 1) md))

unfoldable pub sib_bytes : Mem → ℕ → ℕ → ℕ
sib_bytes m j md = cond (is_bare md (at m j)) 5 (1 + displacement_bytes md)

unfoldable pub operand_at : Mem → ℕ → ℕ → Operand
operand_at m j b =
    cond (nat_le 192 b) (in_register (b % 8))
    (cond (b % 8 == 4) (sib_at m j (b / 64))
    (cond (b / 64 == 0 && b % 8 == 5) (in_memory 8 8 1 (dword_at m j)) (in_memory (b % 8) 8 1 (displacement_at m j (b / 64)))))

-- how many bytes it has after ModRM
unfoldable pub operand_bytes : Mem → ℕ → ℕ → ℕ
operand_bytes m j b =
    cond (nat_le 192 b) 0
    (cond (b % 8 == 4) (sib_bytes m j (b / 64)) (cond (b / 64 == 0 && b % 8 == 5) 4 (displacement_bytes (b / 64))))
