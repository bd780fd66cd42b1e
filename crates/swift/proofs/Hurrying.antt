-- The run's tests, and how far it came. Assumes nothing.
use Prim.Native.Nat.{ℕ, ◌<◌, ◌≤◌}
use mathlib.Core.Path.{◌≡◌}
use mathlib.Core.Bool.{true, ◌&&◌}
use borrow.Author.Tests.{ltb-true, leb-true}
use lib.Dec.{ltb, leb}
use Rattle.shortcut.proofs.Small.{and_left, and_right}

pub two_tests : (n l x y : ℕ) → (ltb n l && leb x y) ≡ true → (n < l) × (x ≤ y)
two_tests n l x y h = (ltb-true n l (and_left (ltb n l) (leb x y) h), leb-true x y (and_right (ltb n l) (leb x y) h))
