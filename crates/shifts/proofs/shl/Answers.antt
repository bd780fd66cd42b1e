use Rattle.shifts.proofs.Shifts.{shl_low}
use Prim.Native.Nat.{◌-◌}
use mathlib.Core.Path.{◌∙◌}
use Rattle.shifts.proofs.shl.Goals as goal

pub returns : goal.returns
returns g c =
    let w = g.W.Word.wide in
    let x = c.number-x.ensures in
    let v = rw x.0 at x.1 in
    let p = c.number-p.ensures.0 ∙ rw x.0 at c.low.ensures ∙ shl_low w (c.args.n - 1) _ v in
    let r = c.number-r.ensures.0 ∙ rw x.0 at c.low-2.ensures ∙ shl_low w c.args.n _ v in
    rw (c.is_negative.ensures, c.is_negative-last.ensures, p, r) at c.after.ensures
