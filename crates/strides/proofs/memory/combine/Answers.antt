use Rattle.std.proofs.Common.{◌<◌, rules}
use Rattle.strides.proofs.Reaching.{dword_there, combined, compared}
use Rattle.strides.proofs.Standing.{stays}
use Rattle.strides.proofs.memory.combine.Goals as goal

pub returns-in_default : goal.returns-in_default
returns-in_default c = stays _ _ c.args.c c.args.r c.args.h _ c.args.f c.requires.0 c.stuck.ensures

pub present_dword-requires : goal.present_dword-requires
present_dword-requires c = (dword_there c.requires.0 c.in-Some.ensures).0

pub returns-then-f-eq39 : goal.returns-then-f-eq39
returns-then-f-eq39 c = let few : c.present_dword.result < 4294967296 = search rules in rw c.onward.ensures (compared _ _ c.args.c c.args.r c.args.h _ c.args.f c.requires.0 c.requires.1.0 c.eight.ensures.1 c.spot.ensures c.in-Some.ensures c.requires.1.1.1 c.requires.1.1.0 c.dwords-o.result c.register.ensures c.present_dword.ensures few c.dwords-o.ensures c.if-f-eq39.true)

pub wrote-requires : goal.wrote-requires
wrote-requires c = c.requires.1.0.1.a

pub returns : goal.returns
returns c = let few : c.present_dword.result < 4294967296 = search rules in rw c.wrote.ensures.1 (combined _ _ c.args.c c.args.r c.args.h _ c.args.f c.requires.0 c.requires.1.0 c.eight.ensures.1 c.spot.ensures c.in-Some.ensures c.requires.1.1.1 c.requires.1.1.0 c.dwords-o.result c.register.ensures c.present_dword.ensures few c.dwords-o.ensures c.if-f-eq39.false c.wrote.ensures.0)
