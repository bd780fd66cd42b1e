use Rattle.std.proofs.Common.{refl, ◌<◌, rules}
use Rattle.strides.proofs.Reaching.{dword_there, popped_to, returned}
use Rattle.strides.proofs.Standing.{stays}
use Rattle.strides.proofs.memory.pop.Goals as goal

pub returns-in_default : goal.returns-in_default
returns-in_default c = stays _ _ c.args.c c.args.r c.args.h _ c.args.f c.requires.0 c.stuck.ensures

pub present_dword-v-requires : goal.present_dword-v-requires
present_dword-v-requires c = (dword_there c.requires.0 c.in-Some.ensures).0

pub returns-then-f-eq70 : goal.returns-then-f-eq70
returns-then-f-eq70 c = let few : c.present_dword-v.result < 4294967296 = search rules in rw c.onward.ensures (returned _ _ c.args.c c.args.r c.args.h _ c.args.f c.requires.0 c.requires.1.0 c.eight.ensures.1 c.register-top.ensures c.in-Some.ensures c.present_dword-v.ensures few refl c.put.ensures c.if-f-eq70.true)

pub returns : goal.returns
returns c = let few : c.present_dword-v.result < 4294967296 = search rules in rw c.onward-2.ensures (popped_to _ _ c.args.c c.args.r c.args.h _ c.args.f c.requires.0 c.requires.1.0 c.eight.ensures.1 c.register-top.ensures c.in-Some.ensures c.present_dword-v.ensures few refl c.put.ensures c.requires.1.1.0 c.if-f-eq70.false c.requires.1.1.1 c.put-2.ensures)
