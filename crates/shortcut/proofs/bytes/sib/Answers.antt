use Rattle.shortcut.proofs.Spots.{has_base, sib_bare, sib_based}
use Rattle.std.proofs.Common.{refl, ◌∙◌, arith, ne_eqb}
use Rattle.shortcut.proofs.bytes.sib.Goals as goal

-- mod 1: a signed byte
-- mod 2: a dword
-- mod 0, as it is below 3 and neither of those: base 5 means a dword and no base
-- mod 0 with a base: no displacement

pub returns-then-md-eq1 : goal.returns-then-md-eq1
returns-then-md-eq1 c = sib_based _ c.args.e.now _ _ c.byte-s.result _ c.byte-s.ensures.0 1 _ c.if-md-eq1.true (has_base c.byte-s.result) (c.extend.ensures ∙ rw c.byte.ensures.0 refl) c.indexed.ensures

pub returns-then-md-eq2 : goal.returns-then-md-eq2
returns-then-md-eq2 c = sib_based _ c.args.e.now _ _ c.byte-s.result _ c.byte-s.ensures.0 2 _ c.if-md-eq2.true (has_base c.byte-s.result) c.dword.ensures c.indexed-then-md-eq2.ensures

pub returns-then-s-eq5 : goal.returns-then-s-eq5
returns-then-s-eq5 c = sib_bare _ c.args.e.now _ _ c.byte-s.result _ c.byte-s.ensures.0 _ (omega arith) c.if-s-eq5.true c.dword-then-s-eq5.ensures c.indexed-then-s-eq5.ensures

pub returns : goal.returns
returns c = sib_based _ c.args.e.now _ _ c.byte-s.result _ c.byte-s.ensures.0 0 0 (omega arith) (rw (ne_eqb _ _ c.if-s-eq5.false) refl) refl c.indexed-2.ensures
