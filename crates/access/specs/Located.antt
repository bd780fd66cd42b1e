-- An access that was found, and what is left of it in memory.
-- Assumes nothing.
use Rattle.std.specs.Prelude.{◌≡◌, ℕ, zero, suc, ◌+◌, ◌/◌, ◌%◌, Bool, true, false, cond, List, [], ◌∷◌, ◌++◌, None, Result, Ok, Err}
use Rattle.machine.specs.Record.{Mem, wrap}
use Rattle.machine.specs.declared.Control.{Control}
use Rattle.machine.specs.declared.Reply.{Reply}
use Rattle.machine.specs.declared.Want.{Want}
use Rattle.machine.specs.declared.Want.TheVariants.{Nothing, Read, Write}
use Rattle.machine.specs.Paging.{view}
use Rattle.machine.specs.Commit.{Patch, Touch, patches, touched, written}
use Rattle.machine.specs.Act.{Log, ok, refuse, access, noting, touch, stores_of}
use Rattle.paging.specs.Walked.{patches_of}
use Rattle.access.specs.declared.Trail.{Trail}
use Rattle.access.specs.declared.Place.{Place}
use Rattle.access.specs.declared.Place.TheVariants.{Nowhere, Byte, Near, Across}
use Rattle.access.specs.declared.Access.{Access}

-- an access of a dword (true) or a byte, for writing or for reading
abbrev pub asked : Bool → Bool → ℕ → Want
asked true wide l = Write wide l
asked false wide l = Read wide l

-- n bytes one after another
unfoldable pub span : Bool → ℕ → ℕ → List Touch
span w l zero = []
span w l (suc n) = span w l n ++ (touch w (wrap (l + n)) ∷ [])

-- the bytes that an access touches
abbrev pub touches_of : Want → List Touch
touches_of Nothing = []
touches_of (Read wide l) = span false l (cond wide 4 1)
touches_of (Write wide l) = span true l (cond wide 4 1)

unfoldable pub trail_marks : Bool → Trail → List Patch
trail_marks w t = patches_of w t.first ++ patches_of w t.last

-- the byte at p becomes b
abbrev pub put_byte : ℕ → ℕ → Patch
put_byte p b = record { place = p; becomes = λ _. b }

-- the bytes of v, at the places found
unfoldable pub placed : Place → ℕ → List Patch
placed Nowhere v = []
placed (Byte p) v = put_byte p.0 (v % 256) ∷ []
placed (Near p) v =
    put_byte p.0 (v % 256) ∷ put_byte (p.0 + 1) (v / 256 % 256) ∷ put_byte (p.0 + 2) (v / 65536 % 256) ∷ put_byte (p.0 + 3) (v / 16777216 % 256) ∷ []
placed (Across a b c d) v =
    put_byte a.0 (v % 256) ∷ put_byte b.0 (v / 256 % 256) ∷ put_byte c.0 (v / 65536 % 256) ∷ put_byte d.0 (v / 16777216 % 256) ∷ []

unfoldable pub puts : Access → ℕ → List Patch
puts a v = cond a.write (placed a.place v) []

-- no access
abbrev pub nowhere : Access
nowhere = record { place = Nowhere; value = 0; write = false; trail = record { first = None; last = None } }

-- a is what the access t finds: its value, its marks, and where a value would be stored
pub record Held (m : Mem) (c : Control) (t : Want) (a : Access) : Type 0 where
  pub does : (g : Log) → access t (view m c) g ≡ ok a.value (noting g (touches_of t))
  pub marked : (x : Mem) → patches (touched m c (touches_of t)) x ≡ patches (trail_marks a.write a.trail) x
  pub stored : (v : ℕ) → written m c (stores_of t v) ≡ puts a v

abbrev pub LocatedOk : Mem → Control → Want → Result Access Reply → Type 0
LocatedOk m c t (Ok a) = Held m c t a
LocatedOk m c t (Err q) = (g : Log) → access t (view m c) g ≡ refuse q

-- t has the marks of n instruction bytes from eip on
abbrev pub TrailOk : Mem → Control → ℕ → ℕ → Trail → Type 0
TrailOk m c eip n t = (x : Mem) → patches (touched m c (span false eip n)) x ≡ patches (trail_marks false t) x
