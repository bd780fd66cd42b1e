use Prim.Native.Nat.{ℕ, ◌<◌}
use native.Mathlib.Omega.{arith}
use lib.ListN.{get_or}
use Rattle.blocks.proofs.Numbers.{digits}
use Rattle.blocks.proofs.word.Goals as goal

pub returns : goal.returns
returns c = let small : (n : ℕ) → get_or c.args.mem.now n 0 < 256 = λ n. omega (arith, c.type_inv.mem n) in digits c.args.mem.now c.args.i _ small c.from_le_bytes.ensures
