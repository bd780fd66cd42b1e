-- Each family by a number, for lists that hold an instruction's fields. The enum, in src/, says what each family does.
-- Assumes nothing.
use Rattle.std.specs.Prelude.{ℕ}
use Rattle.encoding.specs.declared.Family.{Family}
use Rattle.encoding.specs.declared.Family.TheVariants.{CombineTo, CombineFrom, CombineImmediate, Unary, ShiftBy, ShiftByCl, Accumulate, MultiplyBy, MultiplyInto, Extend, AddressOf, Swap, Push, PushNumber, Pop, SetOn, JumpOn, Jump, JumpTo, Call, CallTo, Return, Loop, Flag, Transfer, Convert, Trap, Halt}

abbrev pub number_of : Family → ℕ
number_of CombineTo = 1
number_of CombineFrom = 2
number_of CombineImmediate = 3
number_of Unary = 4
number_of ShiftBy = 5
number_of ShiftByCl = 6
number_of Accumulate = 7
number_of MultiplyBy = 8
number_of MultiplyInto = 9
number_of Extend = 10
number_of AddressOf = 11
number_of Swap = 12
number_of Push = 13
number_of PushNumber = 14
number_of Pop = 15
number_of SetOn = 16
number_of JumpOn = 17
number_of Jump = 18
number_of JumpTo = 19
number_of Call = 20
number_of CallTo = 21
number_of Return = 22
number_of Loop = 23
number_of Flag = 24
number_of Transfer = 25
number_of Convert = 26
number_of Trap = 27
number_of Halt = 28
