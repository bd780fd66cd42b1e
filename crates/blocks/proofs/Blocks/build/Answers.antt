use borrow.Author.Rules.{rules}
use native.Mathlib.Omega.{arith}
use Rattle.blocks.proofs.Building.{built_none, built_on, built_done}
use Rattle.blocks.proofs.Blocks.build.Goals as goal

pub loop-j-init : goal.loop-j-init
loop-j-init c = built_none _ _ _ _ (search rules) c.self.invariant (rw c.self.view_is c.begin.ensures)

pub read-requires : goal.read-requires
read-requires c = omega (arith, c.requires.0)

pub pack-requires : goal.pack-requires
pack-requires c = c.in-Some.ensures.1

pub overflow_add-off : goal.overflow_add-off
overflow_add-off c = omega (arith, c.in-Some.ensures.1.length)

pub returns-then-off-gt48 : goal.returns-then-off-gt48
returns-then-off-gt48 c = built_done c.loop-j.invariant

pub returns-in_default : goal.returns-in_default
returns-in_default c = built_done c.loop-j.invariant

pub invariant_of-self-then-is_last : goal.invariant_of-self-then-is_last
invariant_of-self-then-is_last c = (built_on _ _ _ _ _ _ _ _ _ c.loop-j.invariant c.requires.1.0 c.requires.1.1 (omega arith) (omega arith) c.in-Some.ensures c.pack.ensures c.count.ensures).known

pub returns-then-is_last : goal.returns-then-is_last
returns-then-is_last c = built_done (built_on _ _ _ _ _ _ _ _ _ c.loop-j.invariant c.requires.1.0 c.requires.1.1 (omega arith) (omega arith) c.in-Some.ensures c.pack.ensures c.count.ensures)

pub loop-j-preserved : goal.loop-j-preserved
loop-j-preserved c = built_on _ _ _ _ _ _ _ _ _ c.loop-j.invariant c.requires.1.0 c.requires.1.1 (omega arith) (omega arith) c.in-Some.ensures c.pack.ensures c.count.ensures

pub returns : goal.returns
returns c = built_done c.loop-j.invariant
