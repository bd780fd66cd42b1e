-- What an opcode b of class c says of its instruction, with the ModRM byte m and its reg field (document 01, "Encodings built").
-- Assumes nothing.
use Rattle.std.specs.Prelude.{ℕ, ◌/◌, ◌%◌, Bool, true, false, cond, not, ◌||◌, ltb, leb, eqb}
use Rattle.encoding.specs.declared.Class.{Class}
use Rattle.encoding.specs.declared.Class.TheVariants.{ArithmeticTo, ArithmeticFrom, ArithmeticAccumulator, ArithmeticGroup, TestTo, TestAccumulator, UnaryGroup, MoveTo, MoveFrom, MoveFromOffset, MoveToOffset, MoveRegister, MoveGroup, ExtendZero, ExtendSign, LoadAddress, Exchange, ExchangeAccumulator, IncrementRegister, DecrementRegister, ByteGroup, DwordGroup, PushRegister, PushImmediate, PopRegister, PopGroup, ShiftImmediate, ShiftOne, ShiftCl, MultiplyImmediate, MultiplyRegister, Widen, JumpIf, JumpIfNear, SetIf, JumpBy, CallBy, ReturnPlain, ReturnPopping, LoopBy, FlagOperation, FlagTransfer, Breakpoint, Interrupt}
use Rattle.encoding.specs.declared.Family.{Family}
use Rattle.encoding.specs.declared.Family.TheVariants.{CombineTo, CombineFrom, CombineImmediate, Unary, ShiftBy, ShiftByCl, Accumulate, MultiplyBy, MultiplyInto, Extend, AddressOf, Swap, Push, PushNumber, Pop, SetOn, JumpOn, Jump, JumpTo, Call, CallTo, Return, Loop, Flag, Transfer, Convert, Trap, Halt}

abbrev pub reg_field : ℕ → ℕ
reg_field m = m / 8 % 8

abbrev pub has_modrm : Class → Bool
has_modrm ArithmeticTo = true
has_modrm ArithmeticFrom = true
has_modrm ArithmeticGroup = true
has_modrm TestTo = true
has_modrm UnaryGroup = true
has_modrm MoveTo = true
has_modrm MoveFrom = true
has_modrm MoveGroup = true
has_modrm ExtendZero = true
has_modrm ExtendSign = true
has_modrm LoadAddress = true
has_modrm Exchange = true
has_modrm ByteGroup = true
has_modrm DwordGroup = true
has_modrm PopGroup = true
has_modrm ShiftImmediate = true
has_modrm ShiftOne = true
has_modrm ShiftCl = true
has_modrm MultiplyImmediate = true
has_modrm MultiplyRegister = true
has_modrm SetIf = true
has_modrm _ = false

-- A0 to A3: an address stands in the instruction
abbrev pub has_offset : Class → Bool
has_offset MoveFromOffset = true
has_offset MoveToOffset = true
has_offset _ = false

-- Fault 6 by name: LEA of a register; 8F, C6, C7 with another reg field; FE /2 to /7; FF /7
abbrev pub undefined_form : Class → ℕ → Bool
undefined_form LoadAddress m = leb 192 m
undefined_form MoveGroup m = not (eqb (reg_field m) 0)
undefined_form PopGroup m = not (eqb (reg_field m) 0)
undefined_form ByteGroup m = leb 2 (reg_field m)
undefined_form DwordGroup m = eqb (reg_field m) 7
undefined_form _ m = false

-- not listed: F6 and F7 /1; FF /3 and /5; shifts but /4, /5 and /7
abbrev pub unbuilt_form : Class → ℕ → Bool
unbuilt_form UnaryGroup m = eqb (reg_field m) 1
unbuilt_form DwordGroup m = eqb (reg_field m) 3 || eqb (reg_field m) 5
unbuilt_form ShiftImmediate m = ltb (reg_field m) 4 || eqb (reg_field m) 6
unbuilt_form ShiftOne m = ltb (reg_field m) 4 || eqb (reg_field m) 6
unbuilt_form ShiftCl m = ltb (reg_field m) 4 || eqb (reg_field m) 6
unbuilt_form _ m = false

-- by bit 0 of the opcode: a dword operation where it is set, a byte's where it is clear
abbrev pub by_low_bit : Class → Bool
by_low_bit ArithmeticTo = true
by_low_bit ArithmeticFrom = true
by_low_bit ArithmeticAccumulator = true
by_low_bit ArithmeticGroup = true
by_low_bit TestTo = true
by_low_bit TestAccumulator = true
by_low_bit UnaryGroup = true
by_low_bit MoveTo = true
by_low_bit MoveFrom = true
by_low_bit MoveFromOffset = true
by_low_bit MoveToOffset = true
by_low_bit MoveGroup = true
by_low_bit Exchange = true
by_low_bit ByteGroup = true
by_low_bit DwordGroup = true
by_low_bit ShiftImmediate = true
by_low_bit ShiftOne = true
by_low_bit ShiftCl = true
by_low_bit _ = false

-- by its class alone: B0 to BF by bit 3; MOVZX, MOVSX and SETcc have byte operands
abbrev pub own_width : Class → ℕ → Bool
own_width MoveRegister b = eqb (b / 8 % 2) 1
own_width ExtendZero b = false
own_width ExtendSign b = false
own_width SetIf b = false
own_width _ b = true

-- a dword operation (true) or a byte's
abbrev pub is_wide : Class → ℕ → Bool
is_wide c b = cond (by_low_bit c) (eqb (b % 2) 1) (own_width c b)

-- an immediate as wide as the operation
abbrev pub full_immediate : Class → ℕ → Bool
full_immediate ArithmeticAccumulator reg = true
full_immediate TestAccumulator reg = true
full_immediate MoveRegister reg = true
full_immediate MoveGroup reg = true
full_immediate UnaryGroup reg = eqb reg 0
full_immediate _ reg = false

-- a signed byte, but a dword for these opcodes
abbrev pub long_opcode : ℕ → Bool
long_opcode b = eqb b 0x81 || eqb b 0x68 || eqb b 0x69 || eqb b 0xe9 || eqb b 0xe8 || leb 0x180 b

abbrev pub has_immediate : Class → Bool
has_immediate ArithmeticGroup = true
has_immediate PushImmediate = true
has_immediate ShiftImmediate = true
has_immediate MultiplyImmediate = true
has_immediate JumpIf = true
has_immediate JumpIfNear = true
has_immediate JumpBy = true
has_immediate CallBy = true
has_immediate LoopBy = true
has_immediate Interrupt = true
has_immediate _ = false

-- C2 has a word
abbrev pub popped_bytes : Class → ℕ
popped_bytes ReturnPopping = 2
popped_bytes _ = 0

-- how many bytes the immediate has
abbrev pub immediate_bytes : Class → ℕ → ℕ → ℕ
immediate_bytes c b reg =
    cond (full_immediate c reg) (cond (is_wide c b) 4 1) (cond (has_immediate c) (cond (long_opcode b) 4 1) (popped_bytes c))

-- CC has vector 3 and D0, D1 the count 1 without a byte for it
abbrev pub immediate_of : Class → ℕ → ℕ
immediate_of Breakpoint x = 3
immediate_of ShiftOne x = 1
immediate_of _ x = x

-- opcodes that name a register in their low three bits; others without ModRM have the accumulator
abbrev pub implied_register : Class → ℕ → ℕ
implied_register MoveRegister b = b % 8
implied_register ExchangeAccumulator b = b % 8
implied_register IncrementRegister b = b % 8
implied_register DecrementRegister b = b % 8
implied_register PushRegister b = b % 8
implied_register PopRegister b = b % 8
implied_register _ b = 0

-- two operands: ADD to CMP by number, TEST, MOV
abbrev pub combination : Class → ℕ → ℕ → ℕ
combination ArithmeticTo b reg = b / 8 % 8
combination ArithmeticFrom b reg = b / 8 % 8
combination ArithmeticAccumulator b reg = b / 8 % 8
combination ArithmeticGroup b reg = reg
combination TestTo b reg = 8
combination TestAccumulator b reg = 8
combination UnaryGroup b reg = 8
combination _ b reg = 9

-- one operand: INC 0, DEC 1, and F6 and F7 by their reg field
abbrev pub single : Class → ℕ → ℕ
single IncrementRegister reg = 0
single DecrementRegister reg = 1
single _ reg = reg

-- what kind of two operands: register to operand, operand to register, immediate to operand
abbrev pub is_to : Class → Bool
is_to ArithmeticTo = true
is_to TestTo = true
is_to MoveTo = true
is_to MoveToOffset = true
is_to _ = false

abbrev pub is_from : Class → Bool
is_from ArithmeticFrom = true
is_from MoveFrom = true
is_from MoveFromOffset = true
is_from _ = false

abbrev pub is_immediate : Class → ℕ → Bool
is_immediate ArithmeticGroup reg = true
is_immediate c reg = full_immediate c reg

abbrev pub is_combined : Class → ℕ → Bool
is_combined c reg = is_to c || is_from c || is_immediate c reg

-- F6 and F7 from /4 on multiply and divide; FE and FF /0, /1 and 40 to 4F are INC and DEC
abbrev pub is_single : Class → ℕ → Bool
is_single UnaryGroup reg = ltb reg 4
is_single IncrementRegister reg = true
is_single DecrementRegister reg = true
is_single ByteGroup reg = ltb reg 2
is_single DwordGroup reg = ltb reg 2
is_single _ reg = false

-- FF /2 CALL, /4 JMP, /6 PUSH
abbrev pub group_family : ℕ → Family
group_family reg = cond (eqb reg 2) CallTo (cond (eqb reg 4) JumpTo Push)

-- each other class is one family
abbrev pub own_family : Class → ℕ → Family
own_family DwordGroup reg = group_family reg
own_family UnaryGroup reg = Accumulate
own_family ShiftImmediate reg = ShiftBy
own_family ShiftOne reg = ShiftBy
own_family ShiftCl reg = ShiftByCl
own_family MultiplyImmediate reg = MultiplyBy
own_family MultiplyRegister reg = MultiplyInto
own_family ExtendZero reg = Extend
own_family ExtendSign reg = Extend
own_family LoadAddress reg = AddressOf
own_family Exchange reg = Swap
own_family ExchangeAccumulator reg = Swap
own_family PushRegister reg = Push
own_family PushImmediate reg = PushNumber
own_family PopRegister reg = Pop
own_family PopGroup reg = Pop
own_family SetIf reg = SetOn
own_family JumpIf reg = JumpOn
own_family JumpIfNear reg = JumpOn
own_family JumpBy reg = Jump
own_family CallBy reg = Call
own_family ReturnPlain reg = Return
own_family ReturnPopping reg = Return
own_family LoopBy reg = Loop
own_family FlagOperation reg = Flag
own_family FlagTransfer reg = Transfer
own_family Widen reg = Convert
own_family Breakpoint reg = Trap
own_family Interrupt reg = Trap
own_family _ reg = Halt

unfoldable pub family_of : Class → ℕ → Family
family_of c reg =
    cond (is_to c) CombineTo (cond (is_from c) CombineFrom (cond (is_immediate c reg) CombineImmediate
    (cond (is_single c reg) Unary (own_family c reg))))

-- other families: shifts, and F6 and F7 from /4 on, by the reg field; MOVZX 0, MOVSX 1; else the opcode's low four bits
abbrev pub own_operation : Class → ℕ → ℕ → ℕ
own_operation UnaryGroup b reg = reg
own_operation ShiftImmediate b reg = reg
own_operation ShiftOne b reg = reg
own_operation ShiftCl b reg = reg
own_operation ExtendSign b reg = 1
own_operation ExtendZero b reg = 0
own_operation _ b reg = b % 16

unfoldable pub operation_of : Class → ℕ → ℕ → ℕ
operation_of c b reg =
    cond (is_combined c reg) (combination c b reg) (cond (is_single c reg) (single c reg) (own_operation c b reg))
