use Prim.Native.Nat.{◌/◌}
use mathlib.Core.Path.{◌≡◌, refl, ◌∙◌}
use Rattle.forms.proofs.Reading.{near}
use borrow.Author.Tests.{ne_eqb}
use native.Mathlib.Omega.{arith}
use Rattle.forms.proofs.beside.Goals as goal

pub returns-then-m-eq1 : goal.returns-then-m-eq1
returns-then-m-eq1 c = (omega arith, near (c.args.mem.now) (c.args.i) (c.args.m) 1 _ c.requires.1 c.if-m-eq1.true c.if-n-eq4.false refl (c.extend.ensures ∙ rw (c.byte.ensures.0) refl))

pub returns-then-m-eq2 : goal.returns-then-m-eq2
returns-then-m-eq2 c = (omega arith, near (c.args.mem.now) (c.args.i) (c.args.m) 2 _ c.requires.1 c.if-m-eq2.true c.if-n-eq4.false refl c.dword.ensures)

pub returns : goal.returns
returns c = let k : (c.args.m) / 64 ≡ 0 = omega (arith, c.requires.1, c.if-m-eq1.false, c.if-m-eq2.false) in (omega arith, near (c.args.mem.now) (c.args.i) (c.args.m) 0 0 c.requires.1 k c.if-n-eq4.false (ne_eqb _ _ c.if-n-eq5.false) refl)
