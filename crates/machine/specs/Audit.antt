-- The audit: do the maps keep the user away from the directory and the tables? (document 01, "The audit")
-- Assumes nothing.
use Rattle.std.specs.Prelude.{ℕ, zero, suc, ◌*◌, ◌/◌, ◌%◌, Bool, true, false, not, ◌&&◌, ◌||◌, cond, length, ltb, eqb}
use Rattle.std.proofs.Math.Option.{Option, none, some}
use Rattle.machine.specs.declared.Control.{Control}
use Rattle.machine.specs.declared.Cpu.{Cpu}
use Rattle.machine.specs.declared.Reply.{Reply}
use Rattle.machine.specs.declared.Reply.TheVariants.{BadRecord, Safe, TableOutside, Exposed}
use Rattle.machine.specs.Record.{Mem, sound}
use Rattle.machine.specs.Paging.{Entry, Gone, Names, entry, dir_frame, Page, Beyond, Absent, Mapped, page}

-- the lowest i below n that passes
abbrev pub later : Option ℕ → Bool → ℕ → Option ℕ
later none b n = cond b (some n) none
later (some i) b n = some i

unfoldable pub first : (ℕ → Bool) → ℕ → Option ℕ
first p zero = none
first p (suc n) = later (first p n) (p n) n

abbrev pub is_some : Option ℕ → Bool
is_some none = false
is_some (some i) = true

-- frame f exists in a memory of n bytes
abbrev pub in_memory : ℕ → ℕ → Bool
in_memory n f = ltb (f * 4096) n

-- a present entry whose frame doesn't exist
abbrev pub missing : ℕ → Entry → Bool
missing n Gone = false
missing n (Names us rw' f) = not (in_memory n f)

abbrev pub names : ℕ → Entry → Bool
names f Gone = false
names f (Names us rw' g) = eqb f g

-- frame f holds the directory or a present table
unfoldable pub holds_table : Mem → Control → ℕ → Bool
holds_table m c f = eqb f (dir_frame c) || is_some (first (λ d. names f (entry m (dir_frame c) d)) 1024)

-- a user-writable page that reaches a frame which q forbids, whether or not the frame exists
abbrev pub opens : (ℕ → Bool) → Page → Bool
opens q (Beyond a) = false
opens q Absent = false
opens q (Mapped us rw' f a b) = us && rw' && q f

unfoldable pub found : Option ℕ → (ℕ → Reply) → Reply → Reply
found none f r = r
found (some i) f r = f i

-- it must hold, else the answer is this reply
unfoldable pub need : Bool → Reply → Reply → Reply
need true q r = r
need false q r = q

-- entry d of the directory names a table that doesn't exist
abbrev pub outside : Mem → Control → ℕ → Bool
outside m c d = missing (length m) (entry m (dir_frame c) d)

-- page p, counted from linear address 0, lets the user write a table
abbrev pub exposed : Mem → Control → ℕ → Bool
exposed m c p = opens (holds_table m c) (page m c (p / 1024) (p % 1024))

-- what the audit says of the tables: index 1024 is the directory
unfoldable pub tables : Mem → Control → Reply
tables m c =
    need (in_memory (length m) (dir_frame c)) (TableOutside 1024)
    (found (first (outside m c) 1024) TableOutside
    (found (first (exposed m c) 1048576) (λ p. Exposed (p * 4096)) Safe))

unfoldable pub audit : Mem → Cpu → Reply
audit m r = need (sound m r) BadRecord (tables m r.control)
