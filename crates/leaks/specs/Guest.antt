-- A ring 3 program beside the kernel's records, in four frames. It counts in a byte of its own, and then asks for the records' first byte.
-- Assumes nothing.
use Rattle.std.specs.Prelude.{ℕ, ◌-◌, List, [], ◌∷◌, ◌++◌, length, replicate}
use Rattle.machine.specs.declared.Cpu.{Cpu}
use Rattle.machine.specs.Record.{Mem}

-- these bytes, and zeros to the frame's end
unfoldable pub frame : List ℕ → Mem
frame bytes = bytes ++ replicate (4096 - length bytes) 0

-- frame 0: the directory, whose only entry names frame 1 (present, R/W, U/S)
abbrev pub directory : List ℕ
directory = 0x07 ∷ 0x10 ∷ 0x00 ∷ 0x00 ∷ []

-- frame 1: the table. Page 0 is frame 2, the user's; page 1 is frame 3, the kernel's (present, R/W)
abbrev pub table : List ℕ
table = 0x07 ∷ 0x20 ∷ 0x00 ∷ 0x00 ∷ 0x03 ∷ 0x30 ∷ 0x00 ∷ 0x00 ∷ []

-- frame 2: INC BYTE [EBX]; MOV AL,[ECX]
abbrev pub program : List ℕ
program = 0xfe ∷ 0x03 ∷ 0x8a ∷ 0x01 ∷ []

unfoldable pub shown : Mem
shown = frame directory ++ (frame table ++ frame program)

-- frame 3: the kernel's records, which begin with this byte
unfoldable pub memory : ℕ → Mem
memory secret = shown ++ frame (secret ∷ [])

-- ring 3, paging on, the directory in frame 0, EIP 0; ECX is 1000h, where the records begin, EBX 10h, in the user's page
abbrev pub user : Cpu
user = record {
  regs = record { e = 0 ∷ 0x1000 ∷ 0 ∷ 0x10 ∷ 0 ∷ 0 ∷ 0 ∷ 0 ∷ [] };
  eip = 0;
  eflags = 2;
  control = record { cr0 = 0x80000001; cr2 = 0; cr3 = 0; ring = 3 };
}
