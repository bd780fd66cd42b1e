-- What a step leaves in memory: marks of the pages it used, then its stores (document 01, "Order within one step", 6).
-- Assumes nothing.
use Rattle.std.specs.Prelude.{ℕ, ◌+◌, ◌*◌, ◌/◌, ◌%◌, Bool, true, false, cond, List, [], ◌∷◌, ◌++◌, set}
use Rattle.machine.specs.declared.Control.{Control}
use Rattle.machine.specs.Record.{Mem, at, paging}
use Rattle.machine.specs.Paging.{Page, Beyond, Absent, Mapped, page_of, Translation, At, No, translate}

-- a patch: a physical address and what becomes of its byte
pub record Patch : Type 0 where
  pub place : ℕ
  pub becomes : ℕ → ℕ

unfoldable pub patch : Patch → Mem → Mem
patch p m = set m p.place (p.becomes (at m p.place))

-- one after another
unfoldable pub patches : List Patch → Mem → Mem
patches [] m = m
patches (p ∷ ps) m = patches ps (patch p m)

-- a byte accessed: is it a write, and its linear address
pub record Touch : Type 0 where
  pub write : Bool
  pub linear : ℕ

-- a byte to be stored at a linear address
pub record Store : Type 0 where
  pub linear : ℕ
  pub byte : ℕ

-- an entry's low byte with A (bit 5) set, and for a write D (bit 6) too
abbrev pub mark : Bool → ℕ → ℕ
mark true b = b % 32 + 96 + b / 128 * 128
mark false b = b % 32 + 32 + b / 64 * 64

-- A in the directory entry; A, and for a write D, in the table entry
unfoldable pub marks_of : Bool → Page → List Patch
marks_of w (Beyond a) = []
marks_of w Absent = []
marks_of w (Mapped us rw' f a b) = record { place = a; becomes = mark false } ∷ record { place = b; becomes = mark w } ∷ []

-- nothing is marked where the access is refused
unfoldable pub if_at : Translation → List Patch → List Patch
if_at (At p) ps = ps
if_at (No r) ps = []

unfoldable pub marks : Mem → Control → Touch → List Patch
marks m c t = if_at (translate m c t.write t.linear) (cond (paging c) (marks_of t.write (page_of m c t.linear)) [])

unfoldable pub stored : Store → Translation → List Patch
stored s (No r) = []
stored s (At p) = record { place = p; becomes = λ _. s.byte } ∷ []

-- every mark and every store goes by the maps as they were at the step's start
unfoldable pub touched : Mem → Control → List Touch → List Patch
touched m c [] = []
touched m c (t ∷ ts) = marks m c t ++ touched m c ts

unfoldable pub written : Mem → Control → List Store → List Patch
written m c [] = []
written m c (s ∷ ss) = stored s (translate m c true s.linear) ++ written m c ss

-- the marks, then the stores: a store over an entry just marked wins
unfoldable pub commit : Mem → Control → List Touch → List Store → Mem
commit m c ts ss = patches (touched m c ts ++ written m c ss) m
