use Rattle.forms.proofs.Reading.{read_address}
use borrow.Author.Rules.{rules}
use Rattle.forms.proofs.address_of.Goals as goal

pub returns : goal.returns
returns c = read_address (c.args.mem.now) (c.args.i) (c.args.b) (c.args.m) (c.requires.1.0) (c.requires.1.1.0) _ _ (c.requires.1.1.1.1) c.if-m-ge192.false c.in_ok-q.ensures.0 (search rules) c.in_ok-q.ensures.1
