use Rattle.hops.proofs.Swiftly.{few_left, stored_left}
use Rattle.alu.specs.Brief.{out_in}
use native.Mathlib.Omega.{arith}
use mathlib.Core.Path.{◌≡◌, refl}
use Rattle.hops.proofs.settle.Goals as goal

pub returns-then-p-lt3 : goal.returns-then-p-lt3
returns-then-p-lt3 c = rw (c.onward.ensures) (few_left _ _ (c.args.c) (c.args.table) (c.args.p) (c.args.q) (out_in (c.args.o)) _ (c.if-p-lt3.true) (c.deposit.ensures) refl refl)

pub returns : goal.returns
returns c = let h : c.args.p.access ≡ 3 = omega (arith, c.requires.0, (c.if-p-lt3.false)) in rw (c.onward-2.ensures) (stored_left _ _ (c.args.c) (c.args.table) (c.args.p) (c.args.q) (out_in (c.args.o)) _ _ h (c.requires.1 h) (c.store-ending.ensures.0) (c.store-ending.ensures.1) refl refl)
