-- How an instruction is written: a do-block over the view. Each byte accessed is noted as it is seen, and the first refusal ends the step.
-- Assumes nothing.
use Rattle.std.specs.Prelude.{ℕ, ◌+◌, ◌*◌, ◌/◌, ◌%◌, Bool, true, false, cond, List, [], ◌∷◌, ◌++◌, ltb}
use Rattle.machine.specs.declared.Core.{Core}
use Rattle.machine.specs.declared.Reply.{Reply}
use Rattle.machine.specs.declared.Reply.TheVariants.{Fault}
use Rattle.machine.specs.declared.Want.{Want}
use Rattle.machine.specs.declared.Want.TheVariants.{Nothing, Read, Write}
use Rattle.machine.specs.Record.{wrap}
use Rattle.machine.specs.Paging.{Seen, Byte, Refused, View}
use Rattle.machine.specs.Commit.{Touch, Store}
use Rattle.machine.specs.Run.{Plan, Finish, Stop}

-- so far in this step: how many instruction bytes, which bytes accessed, which stores wanted
pub record Log : Type 0 where
  pub fetched : ℕ
  pub touches : List Touch
  pub stores : List Store

pub data Res (A : Type 0) : Type 0 where
  ok : A → Log → Res A
  refuse : Reply → Res A

abbrev pub Act : Type 0 → Type 0
Act A = View → Log → Res A

abbrev pub after : {A B : Type 0} → Res A → (A → Log → Res B) → Res B
after (ok a g) k = k a g
after (refuse r) k = refuse r

infixl 20 ◌>>=◌ ◌>>◌
abbrev pub ◌>>=◌ : {A B : Type 0} → Act A → (A → Act B) → Act B
◌>>=◌ m f = λ v g. after (m v g) (λ a g'. f a v g')

abbrev pub ◌>>◌ : {A B : Type 0} → Act A → Act B → Act B
◌>>◌ m n = λ v g. after (m v g) (λ _ g'. n v g')

abbrev pub return : {A : Type 0} → A → Act A
return a = λ v g. ok a g

abbrev pub stop : {A : Type 0} → Reply → Act A
stop r = λ v g. refuse r

abbrev pub unit : Type 0
unit = Unit {0}

-- ---- one byte

abbrev pub touch : Bool → ℕ → Touch
touch w l = record { write = w; linear = l }

abbrev pub noting : Log → List Touch → Log
noting g ts = record { fetched = g.fetched; touches = g.touches ++ ts; stores = g.stores }

abbrev pub noted : Seen → Bool → ℕ → Log → Res ℕ
noted (Byte b) w l g = ok b (noting g (touch w l ∷ []))
noted (Refused r) w l g = refuse r

-- one byte, read or about to be written
unfoldable pub byte : Bool → ℕ → Act ℕ
byte w l = λ v g. noted (v w l) w l g

-- ---- the instruction's bytes

unfoldable pub counted : Act unit
counted = λ v g. cond (ltb g.fetched 15)
    (ok tt (record { fetched = g.fetched + 1; touches = g.touches; stores = g.stores }))
    (refuse (Fault 13 0 0))

abbrev pub fetched_so_far : Act ℕ
fetched_so_far = λ v g. ok g.fetched g

-- the next byte of the instruction at eip; needing a sixteenth is Fault 13
unfoldable pub fetch : ℕ → Act ℕ
fetch eip = do
  n ← fetched_so_far
  counted
  byte false (wrap (eip + n))

-- ---- data

-- a dword is four bytes in order
unfoldable pub dword : Bool → ℕ → Act ℕ
dword w l = do
  a ← byte w l
  b ← byte w (wrap (l + 1))
  c ← byte w (wrap (l + 2))
  d ← byte w (wrap (l + 3))
  return (a + 256 * b + 65536 * c + 16777216 * d)

-- of a dword (true) or a byte
abbrev pub load : Bool → Bool → ℕ → Act ℕ
load w true l = dword w l
load w false l = byte w l

-- an access that an instruction asks for, and the value found there: 0 where none is asked for
unfoldable pub access : Want → Act ℕ
access Nothing = return 0
access (Read wide l) = load false wide l
access (Write wide l) = load true wide l

-- the bytes of x, from l on
abbrev pub bytes : Bool → ℕ → ℕ → List Store
bytes true l x =
    record { linear = l; byte = x % 256 }
    ∷ record { linear = wrap (l + 1); byte = x / 256 % 256 }
    ∷ record { linear = wrap (l + 2); byte = x / 65536 % 256 }
    ∷ record { linear = wrap (l + 3); byte = x / 16777216 % 256 }
    ∷ []
bytes false l x = record { linear = l; byte = x % 256 } ∷ []

-- what is accessed as a write is stored to
unfoldable pub stores_of : Want → ℕ → List Store
stores_of Nothing x = []
stores_of (Read wide l) x = []
stores_of (Write wide l) x = bytes wide l x

unfoldable pub store : Want → ℕ → Act unit
store t x = λ v g. ok tt (record { fetched = g.fetched; touches = g.touches; stores = g.stores ++ stores_of t x })

-- ---- the step

abbrev pub ended : Res Core → Plan
ended (ok k g) = Finish k g.touches g.stores
ended (refuse r) = Stop r

unfoldable pub plan_of : Act Core → View → Plan
plan_of a v = ended (a v (record { fetched = 0; touches = []; stores = [] }))
