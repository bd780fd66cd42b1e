use Rattle.shortcut.proofs.Spots.{spot_register, spot_memory, near_byte, near_none}
use Rattle.std.proofs.Common.{rules}
use Rattle.shortcut.proofs.bytes.operand.Goals as goal

pub returns-then-b-ge192 : goal.returns-then-b-ge192
returns-then-b-ge192 c = spot_register _ (c.args.e.now) _ _ (c.if-b-ge192.true)

pub beside-requires : goal.beside-requires
beside-requires c = (search rules, near_byte _ (c.if-b.true))

pub returns-then-b : goal.returns-then-b
returns-then-b c = spot_memory _ (c.args.e.now) _ _ _ _ (c.if-b-ge192.false) (c.beside.ensures.0) (c.beside.ensures.1)

pub alone-requires : goal.alone-requires
alone-requires c = near_none _ (c.if-b-2.true)

pub returns-then-b-2 : goal.returns-then-b-2
returns-then-b-2 c = spot_memory _ (c.args.e.now) _ _ _ _ (c.if-b-ge192.false) ((c.alone.ensures) _ _).0 ((c.alone.ensures) _ _).1

pub returns : goal.returns
returns c = spot_memory _ (c.args.e.now) _ _ _ _ (c.if-b-ge192.false) (c.called.ensures.0) (c.called.ensures.1)
