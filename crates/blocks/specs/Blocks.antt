-- Blocks: the forms of instructions that follow one another, with the bytes that they were read from. A block is asked for by its bytes, so
-- what it says holds of any memory that has them.
-- Assumes nothing.
use Rattle.std.specs.Prelude.{ℕ, zero, suc, ◌+◌, ◌*◌, ◌/◌, ◌%◌, ◌^◌, ◌<◌, ◌≤◌, ◌≡◌, Bool, cond, ◌&&◌, List, ltb, leb, get_or}
use Rattle.machine.specs.Record.{Mem, at}
use Rattle.forms.specs.declared.Form.{Form}
use Rattle.forms.specs.Forms.{FormOk}

-- ---- numbers of 64 bits

-- byte l of a number
abbrev pub digit : ℕ → ℕ → ℕ
digit w l = w / 256 ^ l % 256

-- the eight bytes at index i are those of w
abbrev pub Digits : Mem → ℕ → ℕ → Type 0
Digits m i w = (l : ℕ) → l < 8 → at m (i + l) ≡ digit w l

-- a form in a number
abbrev pub unpacked : ℕ → Form
unpacked k = record { kind = k % 128; length = k / 256 % 16; a = k / 65536 % 8; b = k / 16777216 % 8; number = k / 4294967296 }

-- ---- a block at place s of the table: eight numbers with its bytes, how many forms it has, and the forms

-- 32 more where a form asks for bytes beyond the first thirty-two
abbrev pub size_in : List ℕ → ℕ → ℕ
size_in g s = get_or g (s + 8) 0 % 32

-- how many numbers of bytes the block asks for
abbrev pub asked : List ℕ → ℕ → ℕ
asked g s = cond (ltb (get_or g (s + 8) 0) 32) 4 8

abbrev pub form_in : List ℕ → ℕ → ℕ → Form
form_in g s j = unpacked (get_or g (s + 9 + j) 0)

-- how many bytes there are before form j
unfoldable pub offset : List ℕ → ℕ → ℕ → ℕ
offset g s zero = 0
offset g s (suc j) = offset g s j + (form_in g s j).length

-- memory has at index i the bytes of the n numbers at place s
abbrev pub Written : Mem → ℕ → List ℕ → ℕ → ℕ → Type 0
Written m i g s n = (k : ℕ) → k < n → Digits m (i + 8 * k) (get_or g (s + k) 0)

-- memory has the block's bytes at index i
abbrev pub Keyed : Mem → ℕ → List ℕ → ℕ → Type 0
Keyed m i g s = Written m i g s (asked g s)

-- JMP, CALL, RET, and a condition that jumps backwards end a block
abbrev pub last : Form → Bool
last f = cond (leb 48 f.kind && leb f.kind 63) (leb 2147483648 f.number) (leb 68 f.kind && leb f.kind 70)

-- a form asks for the sixteen bytes from its first on
pub record BlockOk (g : List ℕ) (s : ℕ) : Type 0 where
  pub few : size_in g s ≤ 23
  pub room : (j : ℕ) → j < size_in g s → offset g s j + 16 ≤ 8 * asked g s
  pub forms : (m : Mem) (i : ℕ) → Keyed m i g s → (j : ℕ) → j < size_in g s → FormOk m (i + offset g s j) (form_in g s j)

-- every block of the table is one
abbrev pub Known : List ℕ → Type 0
Known g = (s : ℕ) → s % 32 ≡ 0 → s < 4096 → BlockOk g s
