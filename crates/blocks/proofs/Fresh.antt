-- A table without blocks. Assumes nothing.
use Prim.Native.Nat.{ℕ, zero, suc, ◌+◌}
use mathlib.Core.Path.{◌≡◌, refl}
use mathlib.Core.List.{List}
use lib.ListN.{get_or, replicate}
use Rattle.blocks.specs.Blocks.{Known}
use Rattle.blocks.proofs.Tables.{empty_ok}

none_known : (g : List ℕ) → ((k : ℕ) → get_or g k 0 ≡ 0) → Known g
none_known g z s _ _ = empty_ok g s (z (s + 8))

zeros : (n k : ℕ) → get_or {0} {A = ℕ} (replicate {0} {A = ℕ} n 0) k 0 ≡ 0
zeros zero k = refl
zeros (suc n) zero = refl
zeros (suc n) (suc k) = zeros n k

pub fresh : Known (replicate {0} {A = ℕ} 4096 0)
fresh = none_known (replicate {0} {A = ℕ} 4096 0) (zeros 4096)
