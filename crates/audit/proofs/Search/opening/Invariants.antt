use Prim.Native.Nat.{◌*◌}
use mathlib.Core.Path.{◌≡◌}
use Rattle.machine.specs.Audit.{first, exposed}
use mathlib.Core.Option.{none}
use Rattle.audit.proofs.Search.opening.Given as goal

abbrev pub invariant-loop-d : goal.invariant-loop-d
invariant-loop-d l = first (exposed l.self.mem.now l.self.control) (l.d * 1024) ≡ none
