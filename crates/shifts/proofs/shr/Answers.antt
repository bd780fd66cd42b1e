use Rattle.shifts.proofs.Shifts.{shr_times}
use Prim.Native.Nat.{◌-◌}
use Rattle.shifts.proofs.shr.Goals as goal

pub returns : goal.returns
returns g c =
    let v = c.number-x.ensures.0 in
    rw (c.is_negative.ensures, v, shr_times c.args.n _, shr_times (c.args.n - 1) _) at c.after.ensures
