use Rattle.std.proofs.Common.{arith}
use Rattle.strides.proofs.ends.words.Goals as goal

pub returns : goal.returns
returns c = (c.register.ensures, λ n. omega (arith, c.shared_slice_known-1.given n))
