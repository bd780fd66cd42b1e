use lib.ListN.{length}
use Prim.Native.Nat.{◌+◌, ◌<◌}
use native.Mathlib.Omega.{arith}
use borrow.Author.Rules.{rules}
use Rattle.hops.proofs.put_present.Goals as goal

pub bounds-mem-i-2 : goal.bounds-mem-i-2
bounds-mem-i-2 c = let h : c.args.i + 1 < length c.args.mem.now = omega (arith, c.requires) in search (rules, h)

pub bounds-mem-i-3 : goal.bounds-mem-i-3
bounds-mem-i-3 c = let h : c.args.i + 2 < length c.args.mem.now = omega (arith, c.requires) in search (rules, h)
