use Rattle.shortcut.proofs.Spots.{form_sib, form_bare, form_based}
use Rattle.std.proofs.Common.{refl, arith}
use Rattle.shortcut.proofs.bytes.form.Goals as goal

pub returns-then-b-eq4 : goal.returns-then-b-eq4
returns-then-b-eq4 c = form_sib _ (c.args.e.now) _ _ _ (c.requires.1) _ (c.if-b-eq4.true) (c.sib.ensures.0) (c.sib.ensures.1)

pub returns-then-b-eq2 : goal.returns-then-b-eq2
returns-then-b-eq2 c = form_based _ (c.args.e.now) _ _ _ (c.requires.1) 2 _ (c.if-b-eq2.true) (c.if-b-eq4.false) refl (c.dword.ensures) (c.place.ensures)

pub returns-then-b-eq5 : goal.returns-then-b-eq5
returns-then-b-eq5 c = form_bare _ (c.args.e.now) _ _ _ (c.requires.1) _ (omega arith) (c.if-b-eq5.true) (c.dword-then-b-eq5.ensures) (c.place-then-b-eq5.ensures)

pub returns : goal.returns
returns c = (c.alone.ensures) _ _
