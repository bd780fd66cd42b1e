-- Decode, byte after byte from EIP (document 01, "Order within one step", 2, and "Encodings built").
-- Assumes nothing.
use Rattle.std.specs.Prelude.{ℕ, zero, suc, ◌+◌, ◌/◌, ◌%◌, true, false, cond, ◌&&◌, ltb, leb, eqb}
use Rattle.machine.specs.declared.Reply.TheVariants.{Fault, NotBuilt}
use Rattle.machine.specs.Act.{Act, ◌>>=◌, ◌>>◌, return, stop, unit, fetch, fetched_so_far}
use Rattle.encoding.specs.declared.Class.{Class}
use Rattle.encoding.specs.declared.Operand.{Operand}
use Rattle.encoding.specs.declared.Instruction.{Instruction}
use Rattle.encoding.specs.Encodings.{class_of, is_not_built, is_override, is_escape, is_undefined}
use Rattle.encoding.specs.Attributes.{reg_field, has_modrm, has_offset, undefined_form, unbuilt_form, is_wide, immediate_bytes, immediate_of, implied_register, family_of, operation_of}
use Rattle.fetch.specs.Fetch.{number}

-- ---- the opcode

-- overrides first, any number: the fetch ends them at fifteen
unfoldable pub prefixed : ℕ → ℕ → Act ℕ
prefixed zero eip = stop (Fault 13 0 0)
prefixed (suc n) eip = do
  b ← fetch eip
  cond (is_override (class_of b)) (prefixed n eip) (return b)

unfoldable pub escaped : ℕ → Act ℕ
escaped eip = do
  c ← fetch eip
  return (c + 256)

-- after 0F it is the next byte's
unfoldable pub opcode : ℕ → Act ℕ
opcode eip = do
  b ← prefixed 16 eip
  cond (is_escape (class_of b)) (escaped eip) (return b)

-- ---- ModRM and SIB: an operand in a register, or in memory at base plus index times scale plus displacement; base or index 8 is none

abbrev pub in_register : ℕ → Operand
in_register n = record { direct = true; register = n; base = 8; index = 8; scale = 1; displacement = 0 }

abbrev pub in_memory : ℕ → ℕ → ℕ → ℕ → Operand
in_memory b i s x = record { direct = false; register = 0; base = b; index = i; scale = s; displacement = x }

-- mod 1 has a signed byte, mod 2 a dword
abbrev pub displacement_bytes : ℕ → ℕ
displacement_bytes md = cond (eqb md 1) 1 (cond (eqb md 2) 4 0)

abbrev pub scale_of : ℕ → ℕ
scale_of s = cond (ltb s 64) 1 (cond (ltb s 128) 2 (cond (ltb s 192) 4 8))

-- index 4 is none
abbrev pub index_of : ℕ → ℕ
index_of s = cond (eqb (s / 8 % 8) 4) 8 (s / 8 % 8)

-- in memory, with a displacement of so many bytes
abbrev pub displaced : ℕ → ℕ → ℕ → ℕ → ℕ → Act Operand
displaced eip n b i s = do
  x ← number eip n
  return (in_memory b i s x)

-- after the SIB byte s: base 5 with mod 0 means a dword displacement and no base
unfoldable pub after_sib : ℕ → ℕ → ℕ → Act Operand
after_sib eip md s =
    cond (eqb (s % 8) 5 && eqb md 0) (displaced eip 4 8 (index_of s) (scale_of s)) (displaced eip (displacement_bytes md) (s % 8) (index_of s) (scale_of s))

-- after the ModRM byte b
unfoldable pub after_modrm : ℕ → ℕ → Act Operand
after_modrm eip b =
    cond (leb 192 b) (return (in_register (b % 8)))
    (cond (eqb (b % 8) 4) (do
      s ← fetch eip
      after_sib eip (b / 64) s)
    (cond (eqb (b / 64) 0 && eqb (b % 8) 5) (displaced eip 4 8 8 1) (displaced eip (displacement_bytes (b / 64)) (b % 8) 8 1)))

-- ---- the instruction

-- the ModRM byte settles these refusals
unfoldable pub judged : ℕ → Class → ℕ → Act unit
judged eip c m =
    cond (undefined_form c m) (stop (Fault 6 0 0)) (cond (unbuilt_form c m) (stop (NotBuilt eip)) (return tt))

unfoldable pub finish : ℕ → Class → ℕ → ℕ → Operand → Act Instruction
finish eip c b reg o = do
  x ← number eip (immediate_bytes c b reg)
  n ← fetched_so_far
  return (record {
    family = family_of c reg;
    operation = operation_of c b reg;
    wide = is_wide c b;
    register = reg;
    operand = o;
    immediate = immediate_of c x;
    length = n;
  })

unfoldable pub with_modrm : ℕ → Class → ℕ → Act Instruction
with_modrm eip c b = do
  m ← fetch eip
  judged eip c m
  o ← after_modrm eip m
  finish eip c b (reg_field m) o

unfoldable pub with_offset : ℕ → Class → ℕ → Act Instruction
with_offset eip c b = do
  x ← number eip 4
  finish eip c b 0 (in_memory 8 8 1 x)

unfoldable pub classed : ℕ → Class → ℕ → Act Instruction
classed eip c b =
    cond (is_not_built c) (stop (NotBuilt eip))
    (cond (is_undefined c) (stop (Fault 6 0 0))
    (cond (has_modrm c) (with_modrm eip c b)
    (cond (has_offset c) (with_offset eip c b) (finish eip c b 0 (in_register (implied_register c b))))))

unfoldable pub decode : ℕ → Act Instruction
decode eip = do
  b ← opcode eip
  classed eip (class_of b) b
