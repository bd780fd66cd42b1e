use mathlib.Core.Path.{refl}
use Rattle.forms.proofs.Reading.{read_push_dword, read_push_byte, read_call, read_far, read_near}
use borrow.Author.Rules.{rules}
use Rattle.forms.proofs.by_opcode.Goals as goal

pub returns-in-104 : goal.returns-in-104
returns-in-104 c = rw c.with_number.ensures (read_push_dword (c.args.mem.now) (c.args.i) (c.args.b) (c.args.m) (c.requires.1.0) (c.requires.1.1.0) _ _ (search rules) (c.in-104.is) c.dword.ensures refl)

pub returns-in-106 : goal.returns-in-106
returns-in-106 c = rw c.with_number-in-106.ensures (read_push_byte (c.args.mem.now) (c.args.i) (c.args.b) (c.args.m) (c.requires.1.0) (c.requires.1.1.0) _ _ (search rules) (c.in-106.is) c.extend.ensures refl)

pub returns-in-232 : goal.returns-in-232
returns-in-232 c = rw c.with_number-in-232.ensures (read_call (c.args.mem.now) (c.args.i) (c.args.b) (c.args.m) (c.requires.1.0) (c.requires.1.1.0) _ _ (search rules) (c.in-232.is) c.dword-in-232.ensures refl)

pub returns-in-233 : goal.returns-in-233
returns-in-233 c = rw c.with_number-in-233.ensures (read_far (c.args.mem.now) (c.args.i) (c.args.b) (c.args.m) (c.requires.1.0) (c.requires.1.1.0) _ _ (search rules) (c.in-233.is) c.dword-in-233.ensures refl)

pub returns-in-235 : goal.returns-in-235
returns-in-235 c = rw c.with_number-in-235.ensures (read_near (c.args.mem.now) (c.args.i) (c.args.b) (c.args.m) (c.requires.1.0) (c.requires.1.1.0) _ _ (search rules) (c.in-235.is) c.extend-in-235.ensures refl)
