-- The record: its registers, its flags, and when it is sound (document 01, "The record and the lent memory").
-- Assumes nothing.
use Rattle.std.specs.Prelude.{ℕ, ◌+◌, ◌*◌, ◌/◌, ◌%◌, Bool, true, false, ◌&&◌, ◌||◌, cond, List, length, get_or, set, ltb, leb, eqb}
use Rattle.machine.specs.declared.Registers.{Registers}
use Rattle.machine.specs.declared.Flags.{Flags}
use Rattle.machine.specs.declared.Core.{Core}
use Rattle.machine.specs.declared.Control.{Control}
use Rattle.machine.specs.declared.Cpu.{Cpu}

-- the lent memory: its bytes
abbrev pub Mem : Type 0
Mem = List ℕ

-- the byte at a physical address, 0 past the end
abbrev pub at : Mem → ℕ → ℕ
at m i = get_or m i 0

-- addresses, EIP and jump targets wrap at 2^32
abbrev pub wrap : ℕ → ℕ
wrap x = x % 4294967296

-- ---- registers: 0 to 7 are EAX ECX EDX EBX ESP EBP ESI EDI; a number above names none, and reads as 0

abbrev pub register : Registers → ℕ → ℕ
register r n = get_or r.e n 0

abbrev pub with_register : Registers → ℕ → ℕ → Registers
with_register r n x = record { e = set r.e n x }

-- byte codes: 0 to 3 are AL CL DL BL, bits 0 to 7 of registers 0 to 3; 4 to 7 are AH CH DH BH, bits 8 to 15 of the same
abbrev pub is_high : ℕ → Bool
is_high n = eqb (n / 4 % 2) 1

abbrev pub byte_register : Registers → ℕ → ℕ
byte_register r n = cond (is_high n) (register r (n % 4) / 256 % 256) (register r (n % 4) % 256)

-- a dword with its low byte replaced, or the byte above that
abbrev pub low_byte : ℕ → ℕ → ℕ
low_byte old x = old / 256 * 256 + x % 256

abbrev pub high_byte : ℕ → ℕ → ℕ
high_byte old x = old / 65536 * 65536 + x % 256 * 256 + old % 256

abbrev pub replaced : ℕ → ℕ → ℕ → ℕ
replaced old n x = cond (is_high n) (high_byte old x) (low_byte old x)

abbrev pub with_byte : Registers → ℕ → ℕ → Registers
with_byte r n x = with_register r (n % 4) (replaced (register r (n % 4)) n x)

-- at a width: a dword (true) or a byte
unfoldable pub read_at : Bool → Registers → ℕ → ℕ
read_at w r n = cond w (register r n) (byte_register r n)

unfoldable pub write_at : Bool → Registers → ℕ → ℕ → Registers
write_at w r n x = cond w (with_register r n x) (with_byte r n x)

-- ---- EFLAGS

-- the bit of x at weight p
abbrev pub has : ℕ → ℕ → Bool
has p x = eqb (x / p % 2) 1

abbrev pub digit : Bool → ℕ
digit true = 1
digit false = 0

-- IOPL: bits 12 and 13
abbrev pub iopl : ℕ → ℕ
iopl e = e / 4096 % 4

-- CF 0, PF 2, AF 4, ZF 6, SF 7, IF 9, DF 10, OF 11
unfoldable pub flags_in : ℕ → Flags
flags_in e =
    record {
      status = record { cf = eqb (e % 2) 1; pf = has 4 e; af = has 16 e; zf = has 64 e; sf = has 128 e; of = has 2048 e };
      interrupt = has 512 e;
      direction = has 1024 e;
    }

-- EFLAGS with these flags: bit 1 is set, and IOPL is as it was in e
unfoldable pub pack : ℕ → Flags → ℕ
pack e f =
    2 + 1 * digit f.status.cf + 4 * digit f.status.pf + 16 * digit f.status.af + 64 * digit f.status.zf + 128 * digit f.status.sf
    + 512 * digit f.interrupt + 1024 * digit f.direction + 2048 * digit f.status.of + 4096 * iopl e

-- bit 1, and besides only 0, 2, 4, 6, 7 and 9 to 13
abbrev pub flags_sound : ℕ → Bool
flags_sound e = eqb (e / 2 % 2) 1 && eqb (e / 8 % 2) 0 && eqb (e / 32 % 2) 0 && eqb (e / 256 % 2) 0 && ltb e 16384

-- ---- the control registers

abbrev pub paging : Control → Bool
paging c = has 2147483648 c.cr0

abbrev pub write_protect : Control → Bool
write_protect c = has 65536 c.cr0

abbrev pub user : Control → Bool
user c = eqb c.ring 3

-- ---- sound

abbrev pub ring_sound : ℕ → Bool
ring_sound r = eqb r 0 || eqb r 3

-- bit 0, and besides only 4, 16 and 31
abbrev pub cr0_sound : ℕ → Bool
cr0_sound x = eqb (x % 2) 1 && eqb (x / 2 % 8) 0 && eqb (x / 32 % 2048) 0 && eqb (x / 131072 % 16384) 0

-- bits 0 to 2 and 5 to 11 are clear
abbrev pub cr3_sound : ℕ → Bool
cr3_sound x = eqb (x % 8) 0 && eqb (x / 32 % 128) 0

abbrev pub size_sound : ℕ → Bool
size_sound n = eqb (n % 4096) 0 && leb 4096 n && leb n 16777216

-- n is the memory's length
unfoldable pub sound_at : ℕ → Cpu → Bool
sound_at n r =
    size_sound n && ring_sound r.control.ring && cr0_sound r.control.cr0 && cr3_sound r.control.cr3 && flags_sound r.eflags

abbrev pub sound : Mem → Cpu → Bool
sound m r = sound_at (length m) r

-- what an instruction works on
abbrev pub core_of : Cpu → Core
core_of r = record { regs = r.regs; eip = r.eip; flags = flags_in r.eflags }

-- the record with another core: CR0, CR2, CR3, the ring and IOPL stay
abbrev pub with_core : Cpu → Core → Cpu
with_core r k = record { regs = k.regs; eip = k.eip; eflags = pack r.eflags k.flags; control = r.control }
