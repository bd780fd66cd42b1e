-- Dwords and parts of a slice, by their place: past the end there are zeros, and nothing is stored there.
-- Assumes nothing.
use Rattle.std.specs.Prelude.{ℕ, zero, suc, ◌+◌, ◌*◌, ◌/◌, ◌%◌, List, get_or, set}

-- the low byte first
abbrev pub dword_in : List ℕ → ℕ → ℕ
dword_in b i = get_or b i 0 + 256 * get_or b (i + 1) 0 + 65536 * get_or b (i + 2) 0 + 16777216 * get_or b (i + 3) 0

abbrev pub with_dword : List ℕ → ℕ → ℕ → List ℕ
with_dword b i x = set (set (set (set b i (x % 256)) (i + 1) (x / 256 % 256)) (i + 2) (x / 65536 % 256)) (i + 3) (x / 16777216 % 256)

-- n bytes of f, from place a on, put to place i on of b
unfoldable pub copied : List ℕ → ℕ → List ℕ → ℕ → ℕ → List ℕ
copied f a b i zero = b
copied f a b i (suc n) = set (copied f a b i n) (i + n) (get_or f (a + n) 0)
