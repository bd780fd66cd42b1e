-- Request k of document 02: two memories that ring 3 cannot tell apart, and what runs over them have in common.
-- Assumes nothing.
use Rattle.std.specs.Prelude.{ℕ, ◌/◌, ◌≡◌, Bool, true, false, length}
use Rattle.machine.specs.declared.Control.{Control}
use Rattle.machine.specs.declared.Cpu.{Cpu}
use Rattle.machine.specs.declared.Reply.TheVariants.{Safe}
use Rattle.machine.specs.Record.{Mem, at, sound, paging}
use Rattle.machine.specs.Paging.{At, translate}
use Rattle.machine.specs.Audit.{audit}
use Rattle.machine.specs.Run.{End}
use Rattle.isolation.specs.Guarded.{TableFrame, MappedFrame}

-- frame f is user-readable: some page reaches it with U/S set in both entries, whatever R/W says
abbrev pub UserReadable : Mem → Control → ℕ → Type 0
UserReadable m c f = (rw' : Bool) × MappedFrame m c rw' f

-- ring 3 reads a byte of frame f at some linear address: what user-readable means of a frame in memory (`readable_means`)
abbrev pub Reads : Mem → Control → ℕ → Type 0
Reads m c f = (l : ℕ) × (p : ℕ) × (translate m c false l ≡ At p) × (p / 4096 ≡ f)

-- frame f holds the directory or a present table, or is user-readable
pub data Shown (m : Mem) (c : Control) (f : ℕ) : Type 0 where
  as_table : TableFrame m c f → Shown m c f
  as_readable : UserReadable m c f → Shown m c f

-- memories of one length with the same bytes in these frames
pub record Agree (frames : ℕ → Type 0) (m n : Mem) : Type 0 where
  pub size : length m ≡ length n
  pub bytes : (i : ℕ) → frames (i / 4096) → at m i ≡ at n i

-- two memories and one sound ring 3 record, paging on, the audit Safe in both, that agree on what is shown
pub record Twins (r : Cpu) (m n : Mem) : Type 0 where
  pub is_sound : sound m r ≡ true
  pub ring3 : r.control.ring ≡ 3
  pub on : paging r.control ≡ true
  pub safe : audit m r ≡ Safe
  pub also_safe : audit n r ≡ Safe
  pub agree : Agree (Shown m r.control) m n

-- the same reply, count and record, and memories that agree on these frames
pub record SameEnd (frames : ℕ → Type 0) (e e' : End) : Type 0 where
  pub reply : e.last.reply ≡ e'.last.reply
  pub count : e.count ≡ e'.count
  pub cpu : e.last.cpu ≡ e'.last.cpu
  pub mem : Agree frames e.last.mem e'.last.mem

-- what request k claims of a machine, given by its runs: over twins, with the same budget, they end the same, and agree again on those frames
abbrev pub Hides : (ℕ → Mem → Cpu → End) → Type 0
Hides runs = (budget : ℕ) (m n : Mem) (r : Cpu) → Twins r m n → SameEnd (Shown m r.control) (runs budget m r) (runs budget n r)
