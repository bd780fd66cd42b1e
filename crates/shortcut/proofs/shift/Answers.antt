use Rattle.shortcut.proofs.Taken.{not_taken, taken_places}
use Rattle.shortcut.proofs.shift.Goals as goal

pub returns-then-g : goal.returns-then-g
returns-then-g c = λ s. not_taken (c.args.mem.now) (c.args.e.now) s (c.args.eip) (c.args.i) _ (c.none.ensures)

pub returns : goal.returns
returns c = λ s. taken_places (c.args.mem.now) (c.args.e.now) s (c.args.eip) (c.args.i) _ _ (c.requires.1.0) (c.requires.1.1.0) _ (c.requires.1.1.1) (c.if-g.false) (c.by_places.ensures)
