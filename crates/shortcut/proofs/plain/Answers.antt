use Rattle.shortcut.proofs.Taken.{taken_accumulator, taken_test, taken_load, taken_inc, taken_dec, taken_push, taken_pop, taken_return, taken_jump}
use Rattle.alu.specs.Brief.{status_in}
use Rattle.std.proofs.Common.{rules}
use Rattle.shortcut.proofs.plain.Goals as goal

pub returns-in-ArithmeticAccumulator : goal.returns-in-ArithmeticAccumulator
returns-in-ArithmeticAccumulator c = taken_accumulator (c.args.mem.now) (c.args.e.now) (status_in (c.args.s)) (c.args.eip) (c.args.i) _ _ _ (c.requires.1.0) (c.requires.1.1.0) (c.requires.1.1.1.1.1) _ (c.in-ArithmeticAccumulator.is) (c.on_accumulator.ensures)

pub returns-in-TestAccumulator : goal.returns-in-TestAccumulator
returns-in-TestAccumulator c = taken_test (c.args.mem.now) (c.args.e.now) (status_in (c.args.s)) (c.args.eip) (c.args.i) _ _ _ (c.requires.1.0) (c.requires.1.1.0) (c.requires.1.1.1.1.1) _ (c.in-TestAccumulator.is) (c.on_accumulator-in-TestAccumulator.ensures)

pub returns-in-MoveRegister : goal.returns-in-MoveRegister
returns-in-MoveRegister c = taken_load (c.args.mem.now) (c.args.e.now) (status_in (c.args.s)) (c.args.eip) (c.args.i) _ _ _ (c.requires.1.0) (c.requires.1.1.0) (c.requires.1.1.1.1.1) _ (c.in-MoveRegister.is) (c.on_register.ensures)

pub returns-in-IncrementRegister : goal.returns-in-IncrementRegister
returns-in-IncrementRegister c = taken_inc (c.args.mem.now) (c.args.e.now) (status_in (c.args.s)) (c.args.eip) (c.args.i) _ _ _ (c.requires.1.0) (c.requires.1.1.0) (c.requires.1.1.1.1.1) _ (c.in-IncrementRegister.is) (c.count.ensures)

pub returns-in-DecrementRegister : goal.returns-in-DecrementRegister
returns-in-DecrementRegister c = taken_dec (c.args.mem.now) (c.args.e.now) (status_in (c.args.s)) (c.args.eip) (c.args.i) _ _ _ (c.requires.1.0) (c.requires.1.1.0) (c.requires.1.1.1.1.1) _ (c.in-DecrementRegister.is) (c.count-in-DecrementRegister.ensures)

pub returns-in-PushRegister : goal.returns-in-PushRegister
returns-in-PushRegister c = taken_push (c.args.mem.now) (c.args.e.now) (status_in (c.args.s)) (c.args.eip) (c.args.i) _ _ _ (c.requires.1.0) (c.requires.1.1.0) (c.requires.1.1.1.1.1) _ _ _ (c.in-PushRegister.is) (search rules) (c.register.ensures) (c.wrapping_add_u32.ensures.value) (c.push.ensures)

pub returns-in-PushImmediate : goal.returns-in-PushImmediate
returns-in-PushImmediate c = (c.push_number.ensures) (status_in (c.args.s))

pub returns-in-PopRegister : goal.returns-in-PopRegister
returns-in-PopRegister c = taken_pop (c.args.mem.now) (c.args.e.now) (status_in (c.args.s)) (c.args.eip) (c.args.i) _ _ _ (c.requires.1.0) (c.requires.1.1.0) (c.requires.1.1.1.1.1) _ _ (c.in-PopRegister.is) (c.wrapping_add_u32-in-PopRegister.ensures.value) (c.pop.ensures)

pub returns-in-JumpIf : goal.returns-in-JumpIf
returns-in-JumpIf c = taken_jump (c.args.mem.now) (c.args.e.now) (status_in (c.args.s)) (c.args.eip) (c.args.i) _ _ _ (c.requires.1.0) (c.requires.1.1.0) (c.requires.1.1.1.1.1) _ (c.in-JumpIf.is) (c.requires.1.1.1.1.0) (c.jump_if.ensures)

pub returns-in-ReturnPlain : goal.returns-in-ReturnPlain
returns-in-ReturnPlain c = taken_return (c.args.mem.now) (c.args.e.now) (status_in (c.args.s)) (c.args.eip) (c.args.i) _ _ _ (c.requires.1.0) (c.requires.1.1.0) (c.requires.1.1.1.1.1) _ _ (c.in-ReturnPlain.is) (c.wrapping_add_u32-in-ReturnPlain.ensures.value) (c.pop-in-ReturnPlain.ensures)

pub returns-in_default : goal.returns-in_default
returns-in_default c = (c.by_opcode.ensures) (status_in (c.args.s))
