use Rattle.std.proofs.Common.{◌<◌, refl, arith}
use Rattle.strides.proofs.Reaching.{dword_there, called_on, called_off}
use Rattle.strides.proofs.Standing.{stays}
use Rattle.strides.proofs.memory.call.Goals as goal

pub returns-in_default : goal.returns-in_default
returns-in_default c = stays _ _ (c.args.c) (c.args.r) (c.args.h) _ (c.args.f) (c.requires.0) (c.stuck.ensures)

pub store-requires : goal.store-requires
store-requires c = dword_there c.requires.0 c.in-Some.ensures

pub returns-in-Follows : goal.returns-in-Follows
returns-in-Follows c = let few : c.args.next < 4294967296 = omega (arith, c.ranges.next) in rw (c.onward.ensures) (called_on _ _ (c.args.c) (c.args.r) (c.args.h) _ (c.args.f) (c.requires.0) (c.requires.1.0) (c.eight-top.ensures.1) (c.register-top.ensures) refl c.in-Some.ensures few (c.store.ensures.0) (c.put.ensures) (c.store.ensures.1) (c.requires.1.1.1) (c.requires.1.1.0) refl refl c.in-Follows.is)

pub returns-in_default-store : goal.returns-in_default-store
returns-in_default-store c = let few : c.args.next < 4294967296 = omega (arith, c.ranges.next) in rw (c.onward-in_default-store.ensures) (called_off _ _ (c.args.c) (c.args.r) (c.args.h) _ (c.args.f) (c.requires.0) (c.requires.1.0) (c.eight-top.ensures.1) (c.register-top.ensures) refl c.in-Some.ensures few (c.store.ensures.0) (c.put.ensures) (c.store.ensures.1) (c.requires.1.1.1) (c.requires.1.1.0) refl refl c.in_default-store.not-Follows)
