use mathlib.Core.Path.{refl, ◌∙◌}
use Rattle.alu.proofs.Laws.{bit_le}
use Rattle.alu.proofs.Words.{bit_is, sum_in, sum_carries}
use Rattle.alu.proofs.brief.add.Goals as goal

pub carries-requires : goal.carries-requires
carries-requires g c =
    let n = g.met.W.Word.values in
    let x = c.number-x.ensures in
    let y = c.number-y.ensures in
    rw (c.from.ensures, c.from-2.ensures, c.from-3.ensures ∙ bit_is c.args.c, c.VALUES.ensures ∙ n) (sum_carries _ _ _ _ x.1 y.1 (bit_le c.args.c))

pub returns : goal.returns
returns g c =
    let n = g.met.W.Word.values in
    let x = c.number-x.ensures in
    let y = c.number-y.ensures in
    let into = rw (c.from.ensures, c.from-2.ensures, c.from-3.ensures ∙ bit_is c.args.c, c.VALUES.ensures ∙ n) at c.carries.ensures in
    let seen = rw (c.from.ensures, c.from-2.ensures, c.from-3.ensures ∙ bit_is c.args.c, c.VALUES.ensures ∙ n) at c.showing.ensures in
    rw (c.from.ensures, c.from-2.ensures, c.from-3.ensures ∙ bit_is c.args.c, c.VALUES.ensures ∙ n, c.VALUES-2.ensures ∙ n, ← x.0, ← y.0) (sum_in _ _ _ _ x.1 y.1 (bit_le c.args.c) _ refl into seen)
