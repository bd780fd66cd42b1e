use Rattle.forms.proofs.Reading.{read_places, read_place, read_times, read_double}
use borrow.Author.Rules.{rules}
use mathlib.Core.Path.{refl, ◌∙◌}
use Rattle.forms.proofs.on_register.Goals as goal

pub returns-then-b-shifts : goal.returns-then-b-shifts
returns-then-b-shifts c = read_places (c.args.mem.now) (c.args.i) (c.args.b) (c.args.m) (c.requires.1.0) (c.requires.1.1.0) (c.requires.1.1.1.0) _ c.if-b-shifts.true (search rules) (c.extend.ensures ∙ rw (c.byte.ensures.0) refl)

pub returns-then-b-shifts-2 : goal.returns-then-b-shifts-2
returns-then-b-shifts-2 c = read_place (c.args.mem.now) (c.args.i) (c.args.b) (c.args.m) (c.requires.1.0) (c.requires.1.1.0) (c.requires.1.1.1.0) c.if-b-shifts-2.true

pub returns-then-b-eq105 : goal.returns-then-b-eq105
returns-then-b-eq105 c = read_times (c.args.mem.now) (c.args.i) (c.args.b) (c.args.m) (c.requires.1.0) (c.requires.1.1.0) (c.requires.1.1.1.0) _ c.if-b-eq105.true (search rules) c.dword.ensures

pub returns-then-b-g : goal.returns-then-b-g
returns-then-b-g c = read_double (c.args.mem.now) (c.args.i) (c.args.b) (c.args.m) (c.requires.1.0) (c.requires.1.1.0) (c.requires.1.1.1.0) c.if-b-g.true
