-- A step and a run, over any set of instructions: a planner says what an instruction does with what it sees.
-- Assumes nothing.
use Rattle.std.specs.Prelude.{ℕ, zero, suc, Bool, true, false, List}
use Rattle.machine.specs.declared.Core.{Core}
use Rattle.machine.specs.declared.Cpu.{Cpu}
use Rattle.machine.specs.declared.Reply.{Reply}
use Rattle.machine.specs.declared.Reply.TheVariants.{Done, BadRecord, Spent}
use Rattle.machine.specs.Record.{Mem, sound, iopl, core_of, with_core}
use Rattle.machine.specs.Replies.{is_done}
use Rattle.machine.specs.Paging.{View, view}
use Rattle.machine.specs.Commit.{Touch, Store, commit}

-- the core after, the bytes accessed and the stores; or the reply that ends the step
pub data Plan : Type 0 where
  Finish : Core → List Touch → List Store → Plan
  Stop : Reply → Plan

-- the core before, IOPL, the ring, and what memory shows
abbrev pub Planner : Type 0
Planner = Core → ℕ → ℕ → View → Plan

pub record Outcome : Type 0 where
  pub reply : Reply
  pub cpu : Cpu
  pub mem : Mem

-- only Done changes anything
unfoldable pub settle : Mem → Cpu → Plan → Outcome
settle m r (Finish k ts ss) = record {
  reply = Done;
  cpu = with_core r k;
  mem = commit m r.control ts ss;
}
settle m r (Stop q) = record { reply = q; cpu = r; mem = m }

abbrev pub still : Reply → Mem → Cpu → Outcome
still q m r = record { reply = q; cpu = r; mem = m }

-- the record is checked first
unfoldable pub checked : Bool → Mem → Cpu → Plan → Outcome
checked false m r p = still BadRecord m r
checked true m r p = settle m r p

-- how many steps were Done, and what the run ended with
pub record End : Type 0 where
  pub count : ℕ
  pub last : Outcome

-- a step that is not Done ends the run; any other counts, and the run goes on
unfoldable pub onward : Bool → Outcome → (Mem → Cpu → End) → End
onward false o go = record { count = 0; last = o }
onward true o go = record { count = suc (go o.mem o.cpu).count; last = (go o.mem o.cpu).last }

module _ (plan : Planner) where
  unfoldable pub step : Mem → Cpu → Outcome
  step m r = checked (sound m r) m r (plan (core_of r) (iopl r.eflags) r.control.ring (view m r.control))

  unfoldable pub steps : ℕ → Mem → Cpu → End
  steps zero m r = record { count = 0; last = still Spent m r }
  steps (suc n) m r = onward (is_done (step m r).reply) (step m r) (λ m' r'. steps n m' r')

  unfoldable pub run : ℕ → Mem → Cpu → End
  run n m r = elim (sound m r) [ true ↦ steps n m r | false ↦ record { count = 0; last = still BadRecord m r } ]
