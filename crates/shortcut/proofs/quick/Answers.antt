use Rattle.std.proofs.Common.{◌≡◌, true, rules}
use Rattle.shortcut.specs.Forms.{combines_to, combines_from}
use Rattle.shortcut.proofs.Taken.{taken_to, taken_from, taken_address}
use Rattle.alu.specs.Brief.{status_in}
use Rattle.shortcut.proofs.quick.Goals as goal

pub returns-in-ArithmeticTo : goal.returns-in-ArithmeticTo
returns-in-ArithmeticTo c =
    let t : combines_to c.at-c.result ≡ true = search rules in
    taken_to (c.args.mem.now) (c.args.e.now) (status_in (c.args.s)) (c.args.eip) (c.args.i) _ _ _ (c.byte-b.ensures.0) (c.byte-m.ensures.0) (c.at-c.ensures) _ t _ (c.operation.ensures) (c.to_operand.ensures)

pub returns-in-ArithmeticFrom : goal.returns-in-ArithmeticFrom
returns-in-ArithmeticFrom c =
    let t : combines_from c.at-c.result ≡ true = search rules in
    taken_from (c.args.mem.now) (c.args.e.now) (status_in (c.args.s)) (c.args.eip) (c.args.i) _ _ _ (c.byte-b.ensures.0) (c.byte-m.ensures.0) (c.at-c.ensures) _ t _ (c.operation-in-ArithmeticFrom.ensures) (c.from_operand.ensures)

pub returns-else-m-ge192 : goal.returns-else-m-ge192
returns-else-m-ge192 c = taken_address (c.args.mem.now) (c.args.e.now) (status_in (c.args.s)) (c.args.eip) (c.args.i) _ _ _ (c.byte-b.ensures.0) (c.byte-m.ensures.0) (c.at-c.ensures) _ (c.in-LoadAddress.is) (c.if-m-ge192.false) (c.address_of.ensures)
