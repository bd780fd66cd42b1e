use Rattle.shortcut.proofs.Taken.{not_taken, taken_times, taken_double, taken_near, taken_far, taken_call}
use Rattle.std.proofs.Common.{refl}
use Rattle.shortcut.proofs.by_opcode.Goals as goal

pub returns-then-b-2 : goal.returns-then-b-2
returns-then-b-2 c = λ s. taken_times (c.args.mem.now) (c.args.e.now) s (c.args.eip) (c.args.i) _ _ (c.requires.1.0) (c.requires.1.1.0) _ (c.if-b-2.true) _ refl (c.times_number.ensures)

pub returns-then-m : goal.returns-then-m
returns-then-m c = λ s. taken_double (c.args.mem.now) (c.args.e.now) s (c.args.eip) (c.args.i) _ _ (c.requires.1.0) (c.requires.1.1.0) _ (c.in-247.is) (c.if-m.true) (c.double.ensures)

pub returns-in-232 : goal.returns-in-232
returns-in-232 c = λ s. taken_call (c.args.mem.now) (c.args.e.now) s (c.args.eip) (c.args.i) _ _ (c.requires.1.0) (c.requires.1.1.0) _ _ _ _ (c.in-232.is) (c.wrapping_add_u32-next.ensures.value) (c.dword.ensures) (c.wrapping_add_u32.ensures.value) (c.push.ensures)

pub returns-in-233 : goal.returns-in-233
returns-in-233 c = λ s. taken_far (c.args.mem.now) (c.args.e.now) s (c.args.eip) (c.args.i) _ _ (c.requires.1.0) (c.requires.1.1.0) _ _ _ _ (c.in-233.is) (c.wrapping_add_u32-next-in-233.ensures.value) (c.dword-in-233.ensures) (c.wrapping_add_u32-in-233.ensures.value) (c.jump.ensures)

pub returns-in-235 : goal.returns-in-235
returns-in-235 c = λ s. taken_near (c.args.mem.now) (c.args.e.now) s (c.args.eip) (c.args.i) _ _ (c.requires.1.0) (c.requires.1.1.0) _ _ _ _ (c.in-235.is) (c.wrapping_add_u32-next-in-235.ensures.value) (c.extend.ensures) (c.wrapping_add_u32-in-235.ensures.value) (c.jump-in-235.ensures)

pub returns-else-m : goal.returns-else-m
returns-else-m c = λ s. not_taken (c.args.mem.now) (c.args.e.now) s (c.args.eip) (c.args.i) _ (c.none.ensures)

pub returns-in_default : goal.returns-in_default
returns-in_default c = λ s. not_taken (c.args.mem.now) (c.args.e.now) s (c.args.eip) (c.args.i) _ (c.none-in_default.ensures)
