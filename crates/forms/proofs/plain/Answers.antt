use mathlib.Core.Path.{refl}
use Rattle.forms.proofs.Reading.{read_accumulator, read_test_number, read_load_number, read_inc, read_dec, read_push, read_pop, read_jump, read_return}
use borrow.Author.Rules.{rules}
use Rattle.forms.proofs.plain.Goals as goal

pub returns-else-b-eq0 : goal.returns-else-b-eq0
returns-else-b-eq0 c = rw c.with_number.ensures (read_accumulator (c.args.mem.now) (c.args.i) (c.args.b) (c.args.m) (c.requires.1.0) (c.requires.1.1.0) _ (c.args.c) (c.requires.1.1.1.1.1) _ (search rules) c.in-ArithmeticAccumulator.is c.if-b-eq0.false c.dword.ensures refl)

pub returns-else-b-eq0-2 : goal.returns-else-b-eq0-2
returns-else-b-eq0-2 c = rw c.with_number-in-TestAccumulator.ensures (read_test_number (c.args.mem.now) (c.args.i) (c.args.b) (c.args.m) (c.requires.1.0) (c.requires.1.1.0) _ (c.args.c) (c.requires.1.1.1.1.1) _ (search rules) c.in-TestAccumulator.is c.if-b-eq0-2.false c.dword-in-TestAccumulator.ensures refl)

pub returns-else-b-eq0-3 : goal.returns-else-b-eq0-3
returns-else-b-eq0-3 c = rw c.with_number-in-MoveRegister.ensures (read_load_number (c.args.mem.now) (c.args.i) (c.args.b) (c.args.m) (c.requires.1.0) (c.requires.1.1.0) _ (c.args.c) (c.requires.1.1.1.1.1) _ (search rules) c.in-MoveRegister.is c.if-b-eq0-3.false c.dword-in-MoveRegister.ensures refl)

pub returns-in-IncrementRegister : goal.returns-in-IncrementRegister
returns-in-IncrementRegister c = rw c.with_number-in-IncrementRegister.ensures (read_inc (c.args.mem.now) (c.args.i) (c.args.b) (c.args.m) (c.requires.1.0) (c.requires.1.1.0) _ (c.args.c) (c.requires.1.1.1.1.1) c.in-IncrementRegister.is refl)

pub returns-in-DecrementRegister : goal.returns-in-DecrementRegister
returns-in-DecrementRegister c = rw c.with_number-in-DecrementRegister.ensures (read_dec (c.args.mem.now) (c.args.i) (c.args.b) (c.args.m) (c.requires.1.0) (c.requires.1.1.0) _ (c.args.c) (c.requires.1.1.1.1.1) c.in-DecrementRegister.is refl)

pub returns-in-PushRegister : goal.returns-in-PushRegister
returns-in-PushRegister c = rw c.with_number-in-PushRegister.ensures (read_push (c.args.mem.now) (c.args.i) (c.args.b) (c.args.m) (c.requires.1.0) (c.requires.1.1.0) _ (c.args.c) (c.requires.1.1.1.1.1) c.in-PushRegister.is refl)

pub returns-in-PopRegister : goal.returns-in-PopRegister
returns-in-PopRegister c = rw c.with_number-in-PopRegister.ensures (read_pop (c.args.mem.now) (c.args.i) (c.args.b) (c.args.m) (c.requires.1.0) (c.requires.1.1.0) _ (c.args.c) (c.requires.1.1.1.1.1) c.in-PopRegister.is refl)

pub returns-in-JumpIf : goal.returns-in-JumpIf
returns-in-JumpIf c = rw c.with_number-in-JumpIf.ensures (read_jump (c.args.mem.now) (c.args.i) (c.args.b) (c.args.m) (c.requires.1.0) (c.requires.1.1.0) _ (c.args.c) (c.requires.1.1.1.1.1) _ (search rules) c.in-JumpIf.is (c.requires.1.1.1.1.0) c.extend.ensures refl)

pub returns-in-ReturnPlain : goal.returns-in-ReturnPlain
returns-in-ReturnPlain c = rw c.with_number-in-ReturnPlain.ensures (read_return (c.args.mem.now) (c.args.i) (c.args.b) (c.args.m) (c.requires.1.0) (c.requires.1.1.0) _ (c.args.c) (c.requires.1.1.1.1.1) c.in-ReturnPlain.is refl)
