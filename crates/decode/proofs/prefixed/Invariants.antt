use Prim.Native.Nat.{◌-◌}
use Rattle.decode.specs.Read.{shown}
use Rattle.fetch.specs.Read.{log_at}
use Rattle.decode.specs.Decode.{prefixed}
use mathlib.Core.Path.{◌≡◌}
use Rattle.decode.proofs.prefixed.Given as goal

abbrev pub invariant-loop-n : goal.invariant-loop-n
invariant-loop-n l = prefixed 16 l.s.eip (shown l.s) (log_at l.s.eip 0) ≡ prefixed (16 - l.n) l.s.eip (shown l.s) (log_at l.s.eip l.n)
