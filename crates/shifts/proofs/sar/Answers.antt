use Rattle.alu.proofs.Words.{tops}
use Rattle.shifts.proofs.Shifts.{sar_times}
use Prim.Native.Nat.{◌-◌, ◌^◌}
use mathlib.Core.Path.{◌≡◌, sym, ◌∙◌}
use mathlib.Core.Bool.{cond}
use Rattle.alu.specs.Arithmetic.{bits, top, sign}
use Rattle.shifts.proofs.sar.Goals.{then-negative, else-negative}
use Rattle.shifts.proofs.sar.Goals as goal

pub returns : goal.returns
returns g c =
    let w = g.W.Word.wide in
    let x = c.number-x in
    let n = c.VALUES.ensures ∙ g.met.W.Word.values in
    let t : c.if-negative.t ≡ cond (sign (bits w) x.result) (2 ^ bits w - 1) 0 =
    rw (← c.is_negative-negative.ensures, ← n) (elim c.if-negative.branch [ then-negative b ↦ rw b.if-negative.true b.t-is | else-negative b ↦ rw b.if-negative.false b.t-is ]) in
    let r = sar_times (bits w) (top (bits w)) c.args.n x.result _ (sym (tops w)) x.ensures.1 t in
    let p = sar_times (bits w) (top (bits w)) (c.args.n - 1) x.result _ (sym (tops w)) x.ensures.1 t in
    rw (p, r, x.ensures.0) at c.after.ensures
