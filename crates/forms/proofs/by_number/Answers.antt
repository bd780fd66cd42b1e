use Rattle.forms.proofs.Reading.{register_dword, read_byte, read_dword}
use borrow.Author.Rules.{rules}
use mathlib.Core.Path.{refl, ◌∙◌}
use Rattle.forms.proofs.by_number.Goals as goal

pub returns-then-b-eq131 : goal.returns-then-b-eq131
returns-then-b-eq131 c = let z = register_dword (c.args.m) (c.args.b) c.if-m-b.false in read_byte (c.args.mem.now) (c.args.i) (c.args.b) (c.args.m) (c.requires.1.0) (c.requires.1.1.0) _ (c.requires.1.1.1.1.0) (c.requires.1.1.1.1.1) z.0 c.if-b-eq131.true (search rules) (c.extend.ensures ∙ rw (c.byte.ensures.0) refl)

pub returns : goal.returns
returns c = let z = register_dword (c.args.m) (c.args.b) c.if-m-b.false in read_dword (c.args.mem.now) (c.args.i) (c.args.b) (c.args.m) (c.requires.1.0) (c.requires.1.1.0) _ (c.requires.1.1.1.1.0) (c.requires.1.1.1.1.1) z.0 z.1 c.if-b-eq131.false (search rules) c.dword.ensures
