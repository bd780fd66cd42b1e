-- An instruction in document 01's own phases ("Order within one step"): which accesses it makes, and what it computes of them.
-- Assumes nothing.
use Rattle.std.specs.Prelude.{ℕ, Bool, true, false, cond, not, ◌&&◌, ◌||◌, ltb, eqb}
use Rattle.machine.specs.declared.Registers.{Registers}
use Rattle.machine.specs.declared.Core.{Core}
use Rattle.machine.specs.declared.Want.{Want}
use Rattle.machine.specs.declared.Want.TheVariants.{Nothing, Read, Write}
use Rattle.machine.specs.Record.{register}
use Rattle.encoding.specs.declared.Instruction.{Instruction}
use Rattle.operands.specs.declared.Effect.{Effect}
use Rattle.alu.specs.Arithmetic.{writes}
use Rattle.encoding.specs.declared.Family.{Family}
use Rattle.encoding.specs.declared.Family.TheVariants.{CombineTo, CombineFrom, CombineImmediate, Unary, ShiftBy, ShiftByCl, Accumulate, MultiplyBy, MultiplyInto, Extend, AddressOf, Swap, Push, PushNumber, Pop, SetOn, JumpOn, Jump, JumpTo, Call, CallTo, Return, Loop, Flag, Transfer, Convert, Trap, Halt}
use Rattle.operands.specs.Operands.{operand_want, esp, lowered, raised}
use Rattle.arithmetic.specs.Arithmetic.{do_combine_to, do_combine_from, do_combine_immediate, do_unary, do_shift, cl, do_accumulate, do_multiply_by, do_multiply_into}
use Rattle.moves.specs.Moves.{do_extend, do_address, do_swap, do_set, do_convert}
use Rattle.stack.specs.Stack.{do_push, do_push_number, do_pop, do_call, do_call_to, do_return}
use Rattle.flow.specs.Flow.{do_jump_on, do_jump, do_jump_to, do_loop, do_trap, do_halt}
use Rattle.flags.specs.FlagOperations.{do_flag, do_transfer}

-- ---- 3: HLT in ring 3, or CLI or STI with the ring above IOPL, is Fault 13

abbrev pub permits : Family → ℕ → ℕ → ℕ → Bool
permits Halt operation iopl ring = not (eqb ring 3)
permits Flag operation iopl ring = not ((eqb operation 10 || eqb operation 11) && ltb iopl ring)
permits _ operation iopl ring = true

abbrev pub permitted : Instruction → ℕ → ℕ → Bool
permitted i iopl ring = permits i.family i.operation iopl ring

-- ---- 4: the memory operand, then the stack

-- the operand is written, and perhaps read before
abbrev pub writing : Family → ℕ → Bool
writing CombineTo operation = writes operation
writing CombineImmediate operation = writes operation
writing Unary operation = true
writing ShiftBy operation = true
writing ShiftByCl operation = true
writing Swap operation = true
writing SetOn operation = true
writing _ operation = false

unfoldable pub writes_operand : Instruction → Bool
writes_operand i = writing i.family i.operation

-- the operand is only read
abbrev pub reading : Family → Bool
reading CombineTo = true
reading CombineImmediate = true
reading CombineFrom = true
reading Accumulate = true
reading MultiplyBy = true
reading MultiplyInto = true
reading Extend = true
reading Push = true
reading JumpTo = true
reading CallTo = true
reading _ = false

unfoldable pub reads_operand : Instruction → Bool
reads_operand i = reading i.family

-- POP and RET read the stack first
abbrev pub popping : Family → Bool
popping Pop = true
popping Return = true
popping _ = false

unfoldable pub first : Instruction → Registers → Want
first i r =
    cond (popping i.family) (Read true (register r esp))
    (cond (writes_operand i) (operand_want true i r) (cond (reads_operand i) (operand_want false i r) Nothing))

-- PUSH and CALL write the stack; POP to memory uses the raised ESP in its address
abbrev pub second_of : Family → Instruction → Registers → Want
second_of Push i r = Write true (lowered r)
second_of PushNumber i r = Write true (lowered r)
second_of Call i r = Write true (lowered r)
second_of CallTo i r = Write true (lowered r)
second_of Pop i r = operand_want true i (raised r)
second_of _ i r = Nothing

unfoldable pub second : Instruction → Registers → Want
second i r = second_of i.family i r

-- ---- 5: what comes of it, where a is what the first access found

abbrev pub effect_of : Family → Instruction → Core → ℕ → Effect
effect_of CombineTo i k a = do_combine_to i k a
effect_of CombineFrom i k a = do_combine_from i k a
effect_of CombineImmediate i k a = do_combine_immediate i k a
effect_of Unary i k a = do_unary i k a
effect_of ShiftBy i k a = do_shift i k i.immediate a
effect_of ShiftByCl i k a = do_shift i k (cl k) a
effect_of Accumulate i k a = do_accumulate i k a
effect_of MultiplyBy i k a = do_multiply_by i k a
effect_of MultiplyInto i k a = do_multiply_into i k a
effect_of Extend i k a = do_extend i k a
effect_of AddressOf i k a = do_address i k
effect_of Swap i k a = do_swap i k a
effect_of Push i k a = do_push i k a
effect_of PushNumber i k a = do_push_number i k
effect_of Pop i k a = do_pop i k a
effect_of SetOn i k a = do_set i k
effect_of JumpOn i k a = do_jump_on i k
effect_of Jump i k a = do_jump i k
effect_of JumpTo i k a = do_jump_to i k a
effect_of Call i k a = do_call i k
effect_of CallTo i k a = do_call_to i k a
effect_of Return i k a = do_return i k a
effect_of Loop i k a = do_loop i k
effect_of Flag i k a = do_flag i k
effect_of Transfer i k a = do_transfer i k
effect_of Convert i k a = do_convert i k
effect_of Trap i k a = do_trap i k
effect_of Halt i k a = do_halt i k

unfoldable pub compute : Instruction → Core → ℕ → Effect
compute i k a = effect_of i.family i k a
