-- Chains worked out, whatever the flags before: of one dword and of several, and the sync program's test. Assumes nothing.
use Rattle.std.specs.Prelude.{ℕ, ◌≡◌, Bool, true, false, [], ◌∷◌}
use Rattle.alu.specs.declared.Status.{Status}
use Rattle.positions.specs.Chains.{number, Left, added, subtracted}
use Rattle.positions.specs.Claims.{borrows}

-- dwords that are the number n, and this CF
abbrev pub Leaves : Left → ℕ → Bool → Type 0
Leaves r n cf = (number 32 r.words ≡ n) × (r.status.cf ≡ cf)

-- the top dword's carry is CF; a carry goes through dwords of ones and no further
abbrev pub WorkedSums : Status → Type 0
WorkedSums s =
    Leaves (added 32 (0xffffffff ∷ []) (1 ∷ []) s) 0 true
    × Leaves (added 32 (0xffffffff ∷ 0xffffffff ∷ 0 ∷ 0 ∷ []) (1 ∷ 0 ∷ 0 ∷ 0 ∷ []) s) 0x10000000000000000 false

-- a borrow is not lost where the second dword is all ones
abbrev pub WorkedDifferences : Status → Type 0
WorkedDifferences s =
    Leaves (subtracted 32 (0 ∷ []) (1 ∷ []) s) 0xffffffff true
    × Leaves (subtracted 32 (0 ∷ 0 ∷ 5 ∷ []) (1 ∷ 0xffffffff ∷ 1 ∷ []) s) 0x300000000ffffffff false

-- 1 0000 0000h and its neighbours
abbrev pub WorkedTests : Status → Type 0
WorkedTests s =
    (borrows (0 ∷ 1 ∷ []) (0xffffffff ∷ 0 ∷ []) s ≡ true)
    × (borrows (0xffffffff ∷ 0 ∷ []) (0 ∷ 1 ∷ []) s ≡ true)
    × (borrows (0 ∷ 1 ∷ []) (0xfffffffe ∷ 0 ∷ []) s ≡ false)
    × (borrows (0xfffffffe ∷ 0 ∷ []) (0 ∷ 1 ∷ []) s ≡ false)
