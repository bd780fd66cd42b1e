-- An entry goes by its four bytes; what is gone names nothing, and what is absent is not mapped. Assumes nothing.
use Prim.Native.Nat.{ℕ, ◌+◌, ◌*◌, ◌<◌}
use mathlib.Core.Path.{◌≡◌, ap}
use mathlib.Core.Bool.{Bool}
use mathlib.Core.List.{[]}
use native.Mathlib.Omega.{arith}
use native.Mathlib.Numerals.{unary_clauses}
use Rattle.machine.specs.Record.{Mem, at}
use Rattle.machine.specs.Paging.{Gone, Names, entry_of, dword_at, Absent, Mapped}

pub dword_same : (m n : Mem) (a b : ℕ) → ((j : ℕ) → j < 4 → at m (a + j) ≡ at n (b + j)) → dword_at m a ≡ dword_at n b
dword_same m n a b byte =
    let low : at m a ≡ at n b = simp unary_clauses at (byte 0 (omega arith)) in
    λ i. low i + 256 * byte 1 (omega arith) i + 65536 * byte 2 (omega arith) i + 16777216 * byte 3 (omega arith) i

pub zeros_gone : (m : Mem) (a : ℕ) → ((j : ℕ) → j < 4 → at m (a + j) ≡ 0) → entry_of (dword_at m a) ≡ Gone
unfolding entry_of
zeros_gone m a byte = ap entry_of (dword_same m [] a 0 byte)

pub gone_names : (us rw' : Bool) (f : ℕ) → Gone ≡ Names us rw' f → ⊥
gone_names us rw' f e = let z : ◌≡◌ {A = ℕ} 0 1 = cc in omega arith

pub absent_mapped : (us rw' : Bool) (f a b : ℕ) → Absent ≡ Mapped us rw' f a b → ⊥
absent_mapped us rw' f a b e = let z : ◌≡◌ {A = ℕ} 0 1 = cc in omega arith
