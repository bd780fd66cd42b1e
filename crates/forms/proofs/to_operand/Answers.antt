use Rattle.forms.proofs.Reading.{move_dword, read_to, read_test, read_store}
use borrow.Author.Rules.{rules}
use Rattle.forms.proofs.to_operand.Goals as goal

pub returns-then-b-eq1 : goal.returns-then-b-eq1
returns-then-b-eq1 c = read_to (c.args.mem.now) (c.args.i) (c.args.b) (c.args.m) (c.requires.1.0) (c.requires.1.1.0) (c.args.c) (c.args.op) (c.requires.1.1.1.1.0) (c.requires.1.1.1.1.1.0) (c.requires.1.1.1.1.1.1) c.if-m-ge192.true c.if-b-eq1.true

pub returns-then-op-eq8 : goal.returns-then-op-eq8
returns-then-op-eq8 c = read_test (c.args.mem.now) (c.args.i) (c.args.b) (c.args.m) (c.requires.1.0) (c.requires.1.1.0) (c.args.c) (c.args.op) (c.requires.1.1.1.1.0) (c.requires.1.1.1.1.1.0) (c.requires.1.1.1.1.1.1) c.if-op-eq8.true c.if-m-ge192.true c.if-b-eq1.false

pub returns : goal.returns
returns c = let z = move_dword (c.args.op) (c.args.b) c.if-op-b.false in read_store (c.args.mem.now) (c.args.i) (c.args.b) (c.args.m) (c.requires.1.0) (c.requires.1.1.0) (c.args.c) (c.args.op) (c.requires.1.1.1.1.0) (c.requires.1.1.1.1.1.0) (c.requires.1.1.1.1.1.1) _ _ z.0 c.if-m-ge192.false z.1 c.in_ok-q.ensures.0 (search rules) c.in_ok-q.ensures.1
