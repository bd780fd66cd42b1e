use Rattle.shortcut.proofs.Taken.{not_taken, taken_number}
use Rattle.std.proofs.Common.{refl}
use Rattle.shortcut.proofs.numbered.Goals as goal

pub returns-then-not-group-m : goal.returns-then-not-group-m
returns-then-not-group-m c = λ s. not_taken (c.args.mem.now) (c.args.e.now) s (c.args.eip) (c.args.i) _ (c.none.ensures)

pub returns : goal.returns
returns c = λ s. taken_number (c.args.mem.now) (c.args.e.now) s (c.args.eip) (c.args.i) _ _ _ (c.requires.1.0) (c.requires.1.1.0) (c.requires.1.1.1.1.0) _ (c.requires.1.1.1.0) (c.requires.1.1.1.1.1) _ _ (rw c.is_group-group.ensures at c.if-not-group-m.false) (rw c.is_group-group.ensures at c.either-op.ensures) refl (c.by_number.ensures)
