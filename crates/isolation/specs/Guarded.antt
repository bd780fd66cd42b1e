-- What demand 3 claims: which bytes a ring 3 run may change, and what stays as it was.
-- Assumes nothing.
use Rattle.std.specs.Prelude.{ℕ, ◌/◌, ◌%◌, ◌<◌, ◌≡◌, ◌↔◌, Bool, true, length}
use Rattle.machine.specs.declared.Control.{Control}
use Rattle.machine.specs.declared.Cpu.{Cpu}
use Rattle.machine.specs.declared.Reply.TheVariants.{Safe}
use Rattle.machine.specs.Record.{Mem, at}
use Rattle.machine.specs.Paging.{Names, entry, dir_frame, Mapped, page}
use Rattle.machine.specs.Audit.{audit}
use Rattle.machine.specs.Run.{Outcome}

-- frame f holds the directory or a present table
pub data TableFrame (m : Mem) (c : Control) (f : ℕ) : Type 0 where
  directory : f ≡ dir_frame c → TableFrame m c f
  table : (d : ℕ) (us rw' : Bool) → d < 1024 → entry m (dir_frame c) d ≡ Names us rw' f → TableFrame m c f

-- some page reaches frame f with U/S set in both entries, and with R/W as said
pub record MappedFrame (m : Mem) (c : Control) (rw' : Bool) (f : ℕ) : Type 0 where
  pub dir : ℕ
  pub tab : ℕ
  pub dir_slot : ℕ
  pub tab_slot : ℕ
  pub dir_small : dir < 1024
  pub tab_small : tab < 1024
  pub maps : page m c dir tab ≡ Mapped true rw' f dir_slot tab_slot

-- the maps let the user write frame f
abbrev pub UserFrame : Mem → Control → ℕ → Type 0
UserFrame m c f = MappedFrame m c true f

-- a and b differ in bits 5 and 6, accessed and dirty, at most
abbrev pub Alike : ℕ → ℕ → Type 0
Alike a b = (a % 32 ≡ b % 32) × (a / 128 ≡ b / 128)

-- byte i, once b and now b': kept, or in a frame the user may write, or the low byte of an entry with other accessed and dirty bits
pub data Change (m : Mem) (c : Control) (i b b' : ℕ) : Type 0 where
  kept : b ≡ b' → Change m c i b b'
  in_user : UserFrame m c (i / 4096) → Change m c i b b'
  marked : TableFrame m c (i / 4096) → i % 4 ≡ 0 → Alike b b' → Change m c i b b'

pub record Isolated (m : Mem) (c : Control) (n : Mem) : Type 0 where
  pub size : length m ≡ length n
  pub changes : (i : ℕ) → Change m c i (at m i) (at n i)

-- demand 3 about memory m, record r and what a run made of them
pub record Guarded (m : Mem) (r : Cpu) (o : Outcome) : Type 0 where
  pub control : o.cpu.control ≡ r.control
  pub changes : Isolated m r.control o.mem
  pub safe : audit o.mem o.cpu ≡ Safe
  pub frames : (f : ℕ) → UserFrame m r.control f ↔ UserFrame o.mem r.control f
