-- What demand 1 claims of a run: its Done steps lead to where it ends, and what ended it adds nothing.
-- Assumes nothing.
use Rattle.std.specs.Prelude.{ℕ, suc, ◌<◌, ◌≤◌, ◌≡◌, true, false}
use Rattle.machine.specs.declared.Cpu.{Cpu}
use Rattle.machine.specs.declared.Reply.TheVariants.{BadRecord, Spent}
use Rattle.machine.specs.Record.{Mem, sound}
use Rattle.machine.specs.Replies.{is_done}
use Rattle.machine.specs.Run.{Planner, Outcome, End, still, step}

-- so many Done steps lead from memory m and record r to m' and r'
pub data Advance (plan : Planner) : ℕ → Mem → Cpu → Mem → Cpu → Type 0 where
  none : {m : Mem} {r : Cpu} → Advance plan 0 m r m r
  more : {k : ℕ} {m m' : Mem} {r r' : Cpu} → is_done (step plan m r).reply ≡ true
      → Advance plan k (step plan m r).mem (step plan m r).cpu m' r' → Advance plan (suc k) m r m' r'

-- demand 1 about a run of at most n steps from memory m and record r, and its end
pub record Kept (plan : Planner) (n : ℕ) (m : Mem) (r : Cpu) (e : End) : Type 0 where
  pub advance : Advance plan e.count m r e.last.mem e.last.cpu
  pub budget : e.count ≤ n
  pub refused : sound m r ≡ false → e ≡ record { count = 0; last = still BadRecord m r }

-- and no other end than the run's has this: it ended no sooner and with no other reply than it must
pub record Alone (plan : Planner) (n : ℕ) (m : Mem) (r : Cpu) (e : End) : Type 0 where
  pub kept : Kept plan n m r e
  -- where it was cut short, what it answers is the next step's answer, which is not Done and changes nothing
  pub cut : e.count < n → (is_done e.last.reply ≡ false) × (step plan e.last.mem e.last.cpu ≡ e.last)
  -- where it was not, the budget is used up
  pub spent : sound m r ≡ true → e.count ≡ n → e.last.reply ≡ Spent

-- one step, as a run of budget 1 tells it: Done is Spent with count 1
unfoldable pub lone : Outcome → End
lone o = elim (is_done o.reply) [ true ↦ record { count = 1; last = still Spent o.mem o.cpu } | false ↦ record { count = 0; last = o } ]
