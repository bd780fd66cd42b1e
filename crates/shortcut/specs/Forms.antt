-- The short form of each encoding that is taken, as a function of the bytes at index i: b is the opcode, m the byte after it.
-- Assumes nothing.
use Rattle.std.specs.Prelude.{ℕ, ◌+◌, ◌/◌, ◌%◌, Bool, true, false, cond, ◌||◌, List, ◌==◌, nat_le}
use Rattle.alu.specs.Arithmetic.{writes}
use Rattle.encoding.specs.declared.Class.{Class}
use Rattle.encoding.specs.declared.Class.TheVariants.{NotBuilt, Override, Escape, Undefined, ArithmeticTo, ArithmeticFrom, ArithmeticGroup, TestTo, MoveTo, MoveFrom, MoveGroup}
use Rattle.machine.specs.Record.{Mem, at, wrap, register, read_at}
use Rattle.machine.specs.Paging.{dword_at}
use Rattle.fetch.specs.Fetch.{signed}
use Rattle.operands.specs.Operands.{address, lowered}
use Rattle.outcome.specs.declared.Fast.{Fast}
use Rattle.outcome.specs.Outcome.{file}
use Rattle.shortcut.specs.Bytes.{operand_at, operand_bytes}

abbrev pub is_direct : ℕ → Bool
is_direct m = nat_le 192 m

abbrev pub is_odd : ℕ → Bool
is_odd b = b % 2 == 1

-- the classes of two operands with ModRM: on the operand by the register
abbrev pub combines_to : Class → Bool
combines_to ArithmeticTo = true
combines_to TestTo = true
combines_to MoveTo = true
combines_to _ = false

-- and on the register by the operand
abbrev pub combines_from : Class → Bool
combines_from ArithmeticFrom = true
combines_from MoveFrom = true
combines_from _ = false

abbrev pub combines : Class → Bool
combines c = combines_to c || combines_from c

-- the operation of such a class: ADD to CMP by the opcode, TEST, MOV
abbrev pub operation_of : Class → ℕ → ℕ
operation_of NotBuilt b = b / 8 % 8
operation_of Override b = b / 8 % 8
operation_of Escape b = b / 8 % 8
operation_of Undefined b = b / 8 % 8
operation_of ArithmeticTo b = b / 8 % 8
operation_of ArithmeticFrom b = b / 8 % 8
operation_of TestTo b = 8
operation_of _ b = 9

-- on the operand by an immediate: 80 to 83, and MOV
abbrev pub is_group : Class → Bool
is_group ArithmeticGroup = true
is_group _ = false

abbrev pub by_immediate : Class → Bool
by_immediate ArithmeticGroup = true
by_immediate MoveGroup = true
by_immediate _ = false

-- where the operand lies: 0 where it is a register
unfoldable pub spot_of : Mem → List ℕ → ℕ → ℕ → ℕ
spot_of mem e i m = cond (is_direct m) 0 (address (file e) (operand_at mem (i + 2) m))

-- how many bytes there are up to the immediate
abbrev pub up_to : Mem → ℕ → ℕ → ℕ
up_to mem i m = 2 + operand_bytes mem (i + 2) m

abbrev pub left_access : ℕ → ℕ → ℕ
left_access m op = cond (is_direct m) 0 (cond (writes op) 3 1)

-- the register that takes the result, 8 for none: CMP and TEST have none
abbrev pub taking : ℕ → ℕ → ℕ
taking op n = cond (writes op) n 8

abbrev pub left_register : ℕ → ℕ → ℕ
left_register m op = cond (is_direct m) (taking op (m % 8)) 8

-- on the operand, by y: the instruction has n bytes
unfoldable pub left_fast : Mem → List ℕ → ℕ → ℕ → ℕ → ℕ → ℕ → ℕ → ℕ → Fast
left_fast mem e eip i op b m y n =
    record {
      taken = true;
      jumps = false;
      doubling = false;
      op = op;
      wide = is_odd b;
      access = left_access m op;
      at = spot_of mem e i m;
      x = read_at (is_odd b) (file e) (m % 8);
      y = y;
      to = left_register m op;
      next = wrap (eip + n);
    }

abbrev pub to_fast : Mem → List ℕ → ℕ → ℕ → ℕ → ℕ → ℕ → Fast
to_fast mem e eip i op b m = left_fast mem e eip i op b m (read_at (is_odd b) (file e) (m / 8 % 8)) (up_to mem i m)

-- on the register in ModRM
unfoldable pub from_fast : Mem → List ℕ → ℕ → ℕ → ℕ → ℕ → ℕ → Fast
from_fast mem e eip i op b m =
    record {
      taken = true;
      jumps = false;
      doubling = false;
      op = op;
      wide = is_odd b;
      access = cond (is_direct m) 0 2;
      at = spot_of mem e i m;
      x = read_at (is_odd b) (file e) (m / 8 % 8);
      y = read_at (is_odd b) (file e) (m % 8);
      to = taking op (m / 8 % 8);
      next = wrap (eip + up_to mem i m);
    }

-- an immediate of four bytes (true) or of one with its sign, at index j
abbrev pub number_at : Bool → Mem → ℕ → ℕ
number_at long mem j = cond long (dword_at mem j) (signed (at mem j))

abbrev pub number_fast : Mem → List ℕ → ℕ → ℕ → ℕ → Bool → ℕ → ℕ → Fast
number_fast mem e eip i op long b m = left_fast mem e eip i op b m (number_at long mem (i + up_to mem i m)) (up_to mem i m + cond long 4 1)

-- ---- shifts and IMUL

-- by how many places: C1 by a byte at index j, D1 by one, D3 by CL
abbrev pub places_at : ℕ → Mem → List ℕ → ℕ → ℕ
places_at b mem e j = cond (b == 0xc1) (signed (at mem j)) (cond (b == 0xd1) 1 (read_at false (file e) 1))

-- SHL, SHR and SAR by the reg field
abbrev pub places_fast : Mem → List ℕ → ℕ → ℕ → ℕ → ℕ → Fast
places_fast mem e eip i b m = left_fast mem e eip i (8 + m / 8 % 8) b m (places_at b mem e (i + up_to mem i m)) (up_to mem i m + cond (b == 0xc1) 1 0)

-- IMUL of the operand by an immediate, into the register in ModRM
unfoldable pub times_fast : Mem → List ℕ → ℕ → ℕ → Bool → ℕ → Fast
times_fast mem e eip i long m =
    record {
      taken = true;
      jumps = false;
      doubling = false;
      op = 14;
      wide = true;
      access = cond (is_direct m) 0 1;
      at = spot_of mem e i m;
      x = read_at true (file e) (m % 8);
      y = number_at long mem (i + up_to mem i m);
      to = m / 8 % 8;
      next = wrap (eip + (up_to mem i m + cond long 4 1));
    }

-- MUL by a register
unfoldable pub double_fast : List ℕ → ℕ → ℕ → Fast
double_fast e eip m =
    record { taken = false; jumps = false; doubling = true; op = 9; wide = true; access = 0; at = 0; x = read_at true (file e) (m % 8); y = 0; to = 8; next = wrap (eip + 2) }

-- ---- others

unfoldable pub address_fast : Mem → List ℕ → ℕ → ℕ → ℕ → Fast
address_fast mem e eip i m =
    record { taken = true; jumps = false; doubling = false; op = 9; wide = true; access = 0; at = 0; x = 0; y = spot_of mem e i m; to = m / 8 % 8; next = wrap (eip + up_to mem i m) }

-- on register n, which holds x, by an immediate as wide as the operation
unfoldable pub register_fast : Mem → ℕ → ℕ → ℕ → Bool → ℕ → ℕ → Fast
register_fast mem eip i op wide x n =
    record {
      taken = true;
      jumps = false;
      doubling = false;
      op = op;
      wide = wide;
      access = 0;
      at = 0;
      x = x;
      y = number_at wide mem (i + 1);
      to = taking op n;
      next = wrap (eip + (1 + cond wide 4 1));
    }

-- MOV into a register, whatever it holds
abbrev pub load_fast : Mem → ℕ → ℕ → ℕ → Fast
load_fast mem eip i b = register_fast mem eip i 9 (b / 8 % 2 == 1) 0 (b % 8)

abbrev pub accumulator_fast : Mem → List ℕ → ℕ → ℕ → ℕ → ℕ → Fast
accumulator_fast mem e eip i op b = register_fast mem eip i op (is_odd b) (read_at (is_odd b) (file e) 0) 0

-- INC (10) and DEC (11) of a register
unfoldable pub count_fast : List ℕ → ℕ → ℕ → ℕ → Fast
count_fast e eip op b =
    record { taken = true; jumps = false; doubling = false; op = op; wide = true; access = 0; at = 0; x = register (file e) (b % 8); y = 0; to = b % 8; next = wrap (eip + 1) }

unfoldable pub jump_fast : ℕ → Fast
jump_fast eip = record { taken = true; jumps = true; doubling = false; op = 9; wide = true; access = 0; at = 0; x = 0; y = 0; to = 8; next = eip }

-- y is pushed, and the program goes on at eip
unfoldable pub push_fast : List ℕ → ℕ → ℕ → Fast
push_fast e y eip = record { taken = true; jumps = false; doubling = false; op = 9; wide = true; access = 4; at = lowered (file e); x = 0; y = y; to = 8; next = eip }

-- a pop into register n (5), or a return (6)
unfoldable pub pop_fast : List ℕ → ℕ → ℕ → ℕ → Fast
pop_fast e access n eip = record { taken = true; jumps = false; doubling = false; op = 9; wide = true; access = access; at = register (file e) 4; x = 0; y = 0; to = n; next = eip }
