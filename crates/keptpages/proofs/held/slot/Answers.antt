use lib.Bits.{bit_xor}
use Rattle.std.proofs.Common.{◌/◌, sym, ◌∙◌}
use Rattle.keptpages.proofs.Holding.{high_place, low_place}
use Rattle.keptpages.proofs.held.slot.Goals as goal

pub returns-then-w : goal.returns-then-w
returns-then-w c = high_place (bit_xor (c.args.l / 4096) (c.args.l / 262144)) ∙ sym c.if-w.true

pub returns : goal.returns
returns c = low_place (bit_xor (c.args.l / 4096) (c.args.l / 262144)) ∙ sym c.if-w.false
