use Rattle.std.proofs.Common.{ℕ, ◌<◌, get_or, arith}
use Rattle.strides.proofs.Reaching.{dword_there, kept}
use Rattle.strides.proofs.Standing.{stays}
use Rattle.strides.proofs.memory.keep.Goals as goal

pub returns-in_default : goal.returns-in_default
returns-in_default c = stays _ _ c.args.c c.args.r c.args.h _ c.args.f c.requires.0 c.stuck.ensures

pub store-ending-requires : goal.store-ending-requires
store-ending-requires c = dword_there c.requires.0 c.in-Some.ensures

pub returns : goal.returns
returns c = let bytes : (n : ℕ) → get_or c.args.mem.now n 0 < 256 = λ n. omega (arith, c.slice_known-1.given n) in rw c.onward.ensures (kept _ _ c.args.c c.args.r c.args.h _ c.args.f c.requires.0 c.requires.1.0 c.eight.ensures.1 c.requires.1.1.0 bytes c.spot.ensures c.in-Some.ensures c.register.ensures c.store-ending.ensures.0 c.store-ending.ensures.1 c.requires.1.1.1)
