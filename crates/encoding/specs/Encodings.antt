-- The opcodes, as document 01 lists them ("Encodings built"), each with its class. Opcode n after 0F is n + 0x100.
-- Assumes nothing.
use Rattle.std.specs.Prelude.{ℕ, ◌%◌, ◌<◌, ◌≡◌, Bool, true, false, ◌&&◌, cond, List, [], ◌∷◌, leb, get_or}
use Rattle.encoding.specs.declared.Class.{Class}
use Rattle.encoding.specs.declared.Class.TheVariants.{NotBuilt, Override, Escape, Undefined, ArithmeticTo, ArithmeticFrom, ArithmeticAccumulator, ArithmeticGroup, TestTo, TestAccumulator, UnaryGroup, MoveTo, MoveFrom, MoveFromOffset, MoveToOffset, MoveRegister, MoveGroup, ExtendZero, ExtendSign, LoadAddress, Exchange, ExchangeAccumulator, IncrementRegister, DecrementRegister, ByteGroup, DwordGroup, PushRegister, PushImmediate, PopRegister, PopGroup, ShiftImmediate, ShiftOne, ShiftCl, MultiplyImmediate, MultiplyRegister, Widen, JumpIf, JumpIfNear, SetIf, JumpBy, CallBy, ReturnPlain, ReturnPopping, LoopBy, FlagOperation, FlagTransfer, Breakpoint, Interrupt, HaltHere}

-- ---- the classes

-- in the order of their numbers in the table
abbrev pub numbered : List Class
numbered =
    NotBuilt ∷ Override ∷ Escape ∷ Undefined ∷ ArithmeticTo ∷ ArithmeticFrom ∷ ArithmeticAccumulator ∷ ArithmeticGroup ∷ TestTo
    ∷ TestAccumulator ∷ UnaryGroup ∷ MoveTo ∷ MoveFrom ∷ MoveFromOffset ∷ MoveToOffset ∷ MoveRegister ∷ MoveGroup ∷ ExtendZero ∷ ExtendSign
    ∷ LoadAddress ∷ Exchange ∷ ExchangeAccumulator ∷ IncrementRegister ∷ DecrementRegister ∷ ByteGroup ∷ DwordGroup ∷ PushRegister
    ∷ PushImmediate ∷ PopRegister ∷ PopGroup ∷ ShiftImmediate ∷ ShiftOne ∷ ShiftCl ∷ MultiplyImmediate ∷ MultiplyRegister ∷ Widen ∷ JumpIf
    ∷ JumpIfNear ∷ SetIf ∷ JumpBy ∷ CallBy ∷ ReturnPlain ∷ ReturnPopping ∷ LoopBy ∷ FlagOperation ∷ FlagTransfer ∷ Breakpoint ∷ Interrupt
    ∷ HaltHere ∷ []

abbrev pub class_at : ℕ → Class
class_at n = get_or numbered n NotBuilt

-- those that are no instruction's own
abbrev pub is_not_built : Class → Bool
is_not_built NotBuilt = true
is_not_built _ = false

abbrev pub is_override : Class → Bool
is_override Override = true
is_override _ = false

abbrev pub is_escape : Class → Bool
is_escape Escape = true
is_escape _ = false

abbrev pub is_undefined : Class → Bool
is_undefined Undefined = true
is_undefined _ = false

-- ---- the list

-- the opcodes from first to last whose low three bits are between low and high
pub record Listed : Type 0 where
  pub first : ℕ
  pub last : ℕ
  pub low : ℕ
  pub high : ℕ
  pub class : Class

abbrev pub some : ℕ → ℕ → ℕ → ℕ → Class → Listed
some f l low high c = record { first = f; last = l; low = low; high = high; class = c }

abbrev pub all : ℕ → ℕ → Class → Listed
all f l c = some f l 0 7 c

abbrev pub one : ℕ → Class → Listed
one b c = all b b c

abbrev pub covers : Listed → ℕ → Bool
covers e n = leb e.first n && leb n e.last && leb e.low (n % 8) && leb (n % 8) e.high

abbrev pub class_in : List Listed → ℕ → Class
class_in [] n = NotBuilt
class_in (e ∷ es) n = cond (covers e n) e.class (class_in es n)

abbrev pub encodings : List Listed
encodings =
    one 0x26 Override ∷ one 0x2e Override ∷ one 0x36 Override
    ∷ one 0x3e Override ∷ all 0x64 0x65 Override
    ∷ one 0x0f Escape ∷ one 0x10b Undefined
    ∷ some 0x00 0x3d 0 1 ArithmeticTo ∷ some 0x00 0x3d 2 3 ArithmeticFrom ∷ some 0x00 0x3d 4 5 ArithmeticAccumulator
    ∷ all 0x80 0x83 ArithmeticGroup
    ∷ all 0x84 0x85 TestTo ∷ all 0xa8 0xa9 TestAccumulator ∷ all 0xf6 0xf7 UnaryGroup
    ∷ one 0x69 MultiplyImmediate ∷ one 0x6b MultiplyImmediate ∷ one 0x1af MultiplyRegister
    ∷ all 0x40 0x47 IncrementRegister ∷ all 0x48 0x4f DecrementRegister ∷ one 0xfe ByteGroup
    ∷ one 0xff DwordGroup ∷ all 0x98 0x99 Widen
    ∷ all 0x88 0x89 MoveTo ∷ all 0x8a 0x8b MoveFrom ∷ all 0xa0 0xa1 MoveFromOffset
    ∷ all 0xa2 0xa3 MoveToOffset ∷ all 0xb0 0xbf MoveRegister ∷ all 0xc6 0xc7 MoveGroup
    ∷ one 0x1b6 ExtendZero ∷ one 0x1be ExtendSign ∷ one 0x8d LoadAddress
    ∷ all 0x86 0x87 Exchange ∷ all 0x90 0x97 ExchangeAccumulator
    ∷ all 0x50 0x57 PushRegister ∷ all 0x58 0x5f PopRegister ∷ one 0x68 PushImmediate
    ∷ one 0x6a PushImmediate ∷ one 0x8f PopGroup
    ∷ all 0xc0 0xc1 ShiftImmediate ∷ all 0xd0 0xd1 ShiftOne ∷ all 0xd2 0xd3 ShiftCl
    ∷ all 0x70 0x7f JumpIf ∷ all 0x180 0x18f JumpIfNear ∷ all 0x190 0x19f SetIf
    ∷ one 0xeb JumpBy ∷ one 0xe9 JumpBy ∷ one 0xe8 CallBy
    ∷ one 0xc3 ReturnPlain ∷ one 0xc2 ReturnPopping ∷ all 0xe0 0xe3 LoopBy
    ∷ one 0xf5 FlagOperation ∷ all 0xf8 0xfd FlagOperation ∷ all 0x9e 0x9f FlagTransfer
    ∷ one 0xcc Breakpoint ∷ one 0xcd Interrupt ∷ one 0xf4 HaltHere
    ∷ []

unfoldable pub class_of : ℕ → Class
class_of n = class_in encodings n

-- t has the class of every opcode
abbrev pub Classed : List ℕ → Type 0
Classed t = (n : ℕ) → n < 512 → (get_or t n 0 < 49) × (class_at (get_or t n 0) ≡ class_of n)
