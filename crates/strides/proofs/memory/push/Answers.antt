use Rattle.std.proofs.Common.{refl, ◌<◌, arith}
use Rattle.strides.proofs.Reaching.{dword_there, pushed_to}
use Rattle.strides.proofs.Standing.{stays}
use Rattle.strides.proofs.memory.push.Goals as goal

pub returns-in_default : goal.returns-in_default
returns-in_default c = stays _ _ (c.args.c) (c.args.r) (c.args.h) _ (c.args.f) (c.requires.0) (c.stuck.ensures)

pub store-ending-requires : goal.store-ending-requires
store-ending-requires c = dword_there c.requires.0 c.in-Some.ensures

pub returns : goal.returns
returns c = let few : c.args.v < 4294967296 = omega (arith, c.ranges.v) in rw (c.onward.ensures) (pushed_to _ _ (c.args.c) (c.args.r) (c.args.h) _ (c.args.f) (c.requires.0) (c.requires.1.0) (c.eight-top.ensures.1) (c.register-top.ensures) refl c.in-Some.ensures few (c.store-ending.ensures.0) (c.put.ensures) (c.store-ending.ensures.1) (c.requires.1.1.1) (c.requires.1.1.0))
