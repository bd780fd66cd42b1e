-- Quick steps: a step in its short form, on pages that are kept, where nothing can refuse and nothing is left to mark.
-- Assumes nothing.
use Rattle.std.specs.Prelude.{ℕ, ◌+◌, ◌-◌, ◌≤◌, ◌≡◌, Bool, true, false, cond, List, length}
use Rattle.alu.specs.declared.Out.{Out}
use Rattle.alu.specs.Brief.{status_in}
use Rattle.machine.specs.declared.Control.{Control}
use Rattle.machine.specs.declared.Cpu.{Cpu}
use Rattle.machine.specs.declared.Reply.TheVariants.{Done}
use Rattle.machine.specs.Record.{Mem, has, sound, with_core}
use Rattle.machine.specs.Paging.{dir_frame}
use Rattle.machine.specs.Commit.{patches}
use Rattle.machine.specs.Run.{End, step, steps}
use Rattle.keptpages.specs.declared.Kept.{Kept}
use Rattle.keptpages.specs.Quiet.{Agree, KeptOk, HeldOk}
use Rattle.access.specs.declared.Access.{Access}
use Rattle.access.specs.declared.Place.{Place}
use Rattle.access.specs.declared.Place.TheVariants.{Byte, Near}
use Rattle.access.specs.Located.{Held, placed, puts}
use Rattle.outcome.specs.declared.Fast.{Fast}
use Rattle.outcome.specs.Outcome.{file, asks, want_first, want_second, stores, left_of, right_of, registers_after, next_of}
use Rattle.shortcut.specs.Shortcut.{core_from}
use Rattle.hops.specs.declared.Rest.{Rest}
use Rattle.hops.specs.declared.Ending.{Ending}
use Rattle.hops.specs.declared.Ending.TheVariants as ends
use Rattle.hops.specs.declared.Swift.{Swift}
use Rattle.hops.specs.declared.Sought.{Sought}
use Rattle.phases.specs.Step.{micro32}
use Rattle.phases.specs.Planned.{access_marks}

-- ---- how a step ended

-- it was made
abbrev pub moves : Ending → Bool
moves ends.Follows = true
moves ends.Stuck = false
moves ends.Done = true
moves ends.Remapped = true

-- the pages that are kept hold on
abbrev pub keeps : Ending → Bool
keeps ends.Follows = true
keeps ends.Stuck = true
keeps ends.Done = true
keeps ends.Remapped = false

-- ---- the access

abbrev pub spotted : Fast → ℕ → Place
spotted p i = cond p.wide (Near (record { 0 = i })) (Byte (record { 0 = i }))

-- memory once x is stored at index i
unfoldable pub saved : Fast → ℕ → ℕ → Mem → Mem
saved p i x m = cond (stores p) (patches (placed (spotted p i) x) m) m

-- v is what lies there, which a push does not ask for; with it both operands are known
pub record Holds (p : Fast) (v : ℕ) (q : Sought) : Type 0 where
  pub value : q.value ≡ cond (asks 4 p) 0 v
  pub left : q.x ≡ left_of p q.value
  pub right : q.y ≡ right_of p q.value

-- both accesses of the instruction are found, and no mark is left to make
pub record Reaches (m : Mem) (c : Control) (p : Fast) (q : Sought) : Type 0 where
  pub one : Access
  pub two : Access
  pub firstly : Held m c (want_first p) one
  pub secondly : Held m c (want_second p) two
  pub value : one.value ≡ q.value
  pub operands : (q.x ≡ left_of p q.value) × (q.y ≡ right_of p q.value)
  pub quiet : access_marks two (access_marks one m) ≡ m
  pub left : (x : ℕ) → patches (puts two x) (patches (puts one x) m) ≡ saved p q.at x m

-- ---- the pages that are kept

-- the directory's frame and the table's are as they were
abbrev pub Spared : Mem → Mem → Control → ℕ → Type 0
Spared m m' c t = (length m' ≡ length m) × ((Agree m m' (dir_frame c)) × (Agree m m' t))

-- what a step leaves whose access was found and whose result is o: memory, the registers, where it goes on, the flags; and if the maps hold on, they
-- are as they were
pub record Left (m : Mem) (e : List ℕ) (c : Control) (t : ℕ) (p : Fast) (q : Sought) (o : Out) (m' : Mem) (e' : List ℕ) (w : Swift) : Type 0 where
  pub done : moves w.ending ≡ true
  pub memory : m' ≡ saved p q.at o.value m
  pub registers : e' ≡ (registers_after p (file e) o.value).e
  pub onward : w.rest.eip ≡ next_of p q.value
  pub flags : status_in w.rest.flags ≡ o.status
  pub spared : keeps w.ending ≡ true → Spared m m' c t

-- the code page, and pages of data that have their entries in its table
abbrev pub PagesOk : Mem → Control → Kept → List ℕ → Type 0
PagesOk m c h d = (KeptOk m c false h) × (HeldOk m c h.table d)

-- ---- the record, while its parts are kept apart: what a quick step can't change is in d

abbrev pub current : Cpu → List ℕ → Rest → Cpu
current d e r = with_core d (core_from e r.eip (status_in r.flags) (has 512 d.eflags) (has 1024 d.eflags))

-- ---- one step, on the code page h: it is the definition's, or nothing is changed

pub record SwiftOk (m : Mem) (e : List ℕ) (c : Control) (r : Rest) (h : Kept) (m' : Mem) (e' d' : List ℕ) (w : Swift) : Type 0 where
  pub did : moves w.ending ≡ true → (d : Cpu) → d.control ≡ c → sound m (current d e r) ≡ true
      → record { reply = Done; cpu = current d e' w.rest; mem = m' } ≡ step micro32 m (current d e r)
  pub not : moves w.ending ≡ false → (m' ≡ m) × ((e' ≡ e) × ((w.rest.eip ≡ r.eip) × (w.rest.flags ≡ r.flags)))
  pub kept : keeps w.ending ≡ true → PagesOk m' c h d'

-- ---- n quick steps are n steps of the definition

abbrev pub after : ℕ → End → End
after n e = record { count = n + e.count; last = e.last }

pub record Led (m : Mem) (d : Cpu) (e : List ℕ) (r : Rest) (n : ℕ) (m' : Mem) (e' : List ℕ) (r' : Rest) : Type 0 where
  pub holds : sound m' (current d e' r') ≡ true
  pub went : (b : ℕ) → n ≤ b → steps micro32 b m (current d e r) ≡ after n (steps micro32 (b - n) m' (current d e' r'))

abbrev pub RushOk : Mem → List ℕ → Control → Rest → ℕ → Mem → List ℕ → Rest → Type 0
RushOk m e c r n m' e' r' = (d : Cpu) → d.control ≡ c → sound m (current d e r) ≡ true → Led m d e r n m' e' r'
