use Rattle.forms.proofs.Reading.{under_ten, read_from, read_load, read_compare, read_move}
use borrow.Author.Rules.{rules}
use native.Mathlib.Omega.{arith}
use Rattle.forms.proofs.from_operand.Goals as goal

pub returns-then-m-ge192 : goal.returns-then-m-ge192
returns-then-m-ge192 c = read_from (c.args.mem.now) (c.args.i) (c.args.b) (c.args.m) (c.requires.1.0) (c.requires.1.1.0) (c.args.c) (c.args.op) (c.requires.1.1.1.1.0) (c.requires.1.1.1.1.1.0) (c.requires.1.1.1.1.1.1) c.if-m-ge192.true c.if-not-wide.false

pub overflow_add-result : goal.overflow_add-result
overflow_add-result c = let z = under_ten (c.args.c) (c.args.op) (c.args.b) c.requires.1.1.1.1.1.0 in omega (arith, z)

pub returns-then-wide : goal.returns-then-wide
returns-then-wide c = read_load (c.args.mem.now) (c.args.i) (c.args.b) (c.args.m) (c.requires.1.0) (c.requires.1.1.0) (c.args.c) (c.args.op) (c.requires.1.1.1.1.0) (c.requires.1.1.1.1.1.0) (c.requires.1.1.1.1.1.1) _ _ c.if-m-ge192.false c.in_ok-q.ensures.0 (search rules) c.in_ok-q.ensures.1 c.if-wide.true

pub returns-then-op-eq7 : goal.returns-then-op-eq7
returns-then-op-eq7 c = read_compare (c.args.mem.now) (c.args.i) (c.args.b) (c.args.m) (c.requires.1.0) (c.requires.1.1.0) (c.args.c) (c.args.op) (c.requires.1.1.1.1.0) (c.requires.1.1.1.1.1.0) (c.requires.1.1.1.1.1.1) _ _ c.if-m-ge192.false c.in_ok-q.ensures.0 (search rules) c.in_ok-q.ensures.1 c.if-op-eq7.true c.if-wide.false

pub returns-then-op-eq9 : goal.returns-then-op-eq9
returns-then-op-eq9 c = read_move (c.args.mem.now) (c.args.i) (c.args.b) (c.args.m) (c.requires.1.0) (c.requires.1.1.0) (c.args.c) (c.args.op) (c.requires.1.1.1.1.0) (c.requires.1.1.1.1.1.0) (c.requires.1.1.1.1.1.1) _ _ c.if-m-ge192.false c.in_ok-q.ensures.0 (search rules) c.in_ok-q.ensures.1 c.if-op-eq9.true c.if-wide.false
