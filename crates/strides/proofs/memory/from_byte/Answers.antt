use Rattle.strides.proofs.Reaching.{byte_there, byte_loaded, byte_compared}
use Rattle.strides.proofs.Standing.{stays}
use Rattle.strides.proofs.memory.from_byte.Goals as goal

pub returns-in_default : goal.returns-in_default
returns-in_default c = stays _ _ c.args.c c.args.r c.args.h _ c.args.f c.requires.0 c.stuck.ensures

pub present_byte-y-requires : goal.present_byte-y-requires
present_byte-y-requires c = (byte_there c.requires.0 c.in-Some.ensures).0

pub returns-then-f-eq73 : goal.returns-then-f-eq73
returns-then-f-eq73 c = rw c.onward.ensures (byte_loaded _ _ c.args.c c.args.r c.args.h _ c.args.f c.requires.0 c.requires.1.0 c.eight.ensures.1 c.spot.ensures c.in-Some.ensures c.requires.1.1.1 c.present_byte-y.ensures.0 c.present_byte-y.ensures.1 c.if-f-eq73.true c.put_byte.ensures)

pub returns : goal.returns
returns c = rw c.onward-2.ensures (byte_compared _ _ c.args.c c.args.r c.args.h _ c.args.f c.requires.0 c.requires.1.0 c.eight.ensures.1 c.spot.ensures c.in-Some.ensures c.requires.1.1.1 c.present_byte-y.ensures.0 c.present_byte-y.ensures.1 c.requires.1.1.0 c.if-f-eq73.false c.bytes-o.result c.byte_register.ensures.0 c.bytes-o.ensures)
