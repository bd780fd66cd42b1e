-- Demand 1, for every set of instructions: a step that is not Done changes nothing, and a run keeps its Done steps alone; no other end does.
-- Assumes nothing.
use Prim.Native.Nat.{ℕ, zero, suc, ◌<◌, ◌≤◌}
use mathlib.Core.Path.{◌≡◌, refl, sym, ap, ◌∙◌}
use mathlib.Core.Bool.{Bool, true, false, true≢false}
use native.Mathlib.Omega.{arith}
use Rattle.machine.specs.declared.Cpu.{Cpu}
use Rattle.machine.specs.declared.Reply.{Reply}
use Rattle.machine.specs.declared.Reply.TheVariants.{BadRecord, Spent}
use Rattle.machine.specs.Record.{Mem, sound}
use Rattle.machine.specs.Replies.{is_done}
use Rattle.machine.specs.Run.{Plan, Finish, Stop, Planner, Outcome, settle, End, onward, still, checked, step, steps, run}
use Rattle.isolation.specs.Kept.{Advance, none, more, Kept, Alone, lone}

-- ---- a step

settle_still : (m : Mem) (r : Cpu) (p : Plan) → is_done (settle m r p).reply ≡ false
    → ((settle m r p).mem ≡ m) × ((settle m r p).cpu ≡ r)
unfolding settle
settle_still m r (Finish k ts ss) e = absurd (true≢false e)
settle_still m r (Stop q) e = (refl, refl)

checked_still : (m : Mem) (r : Cpu) (b : Bool) (p : Plan) → is_done (checked b m r p).reply ≡ false
    → ((checked b m r p).mem ≡ m) × ((checked b m r p).cpu ≡ r)
unfolding checked
checked_still m r true p e = settle_still m r p e
checked_still m r false p e = (refl, refl)

pub step_still : (plan : Planner) (m : Mem) (r : Cpu) → is_done (step plan m r).reply ≡ false
    → ((step plan m r).mem ≡ m) × ((step plan m r).cpu ≡ r)
unfolding step
step_still plan m r e = checked_still m r (sound m r) _ e

-- ---- a step as a run of budget 1 tells it

pub lone_done : (o : Outcome) → is_done o.reply ≡ true → lone o ≡ record { count = 1; last = still Spent o.mem o.cpu }
unfolding lone
lone_done o h = rw (h, lone) refl

pub lone_off : (o : Outcome) → is_done o.reply ≡ false → lone o ≡ record { count = 0; last = o }
unfolding lone
lone_off o h = rw (h, lone) refl

-- ---- a run

onward_count : (b : Bool) (o : Outcome) (go : Mem → Cpu → End) (n : ℕ) → (go o.mem o.cpu).count ≤ n
    → (onward b o go).count ≤ suc n
unfolding onward
onward_count true o go n h = omega arith
onward_count false o go n h = omega arith

module _ (plan : Planner) where
  -- where the end leads from memory m and record r
  abbrev Leads : Mem → Cpu → End → Type 0
  Leads m r e = Advance plan e.count m r e.last.mem e.last.cpu

  onward_leads : (m : Mem) (r : Cpu) (go : Mem → Cpu → End) (b : Bool) → is_done (step plan m r).reply ≡ b
      → Leads (step plan m r).mem (step plan m r).cpu (go (step plan m r).mem (step plan m r).cpu)
      → Leads m r (onward b (step plan m r) go)
  unfolding onward
  onward_leads m r go true e a = more e a
  onward_leads m r go false e a = let s = step_still plan m r e in rw (s.0, s.1) none

  steps_leads : (n : ℕ) (m : Mem) (r : Cpu) → Leads m r (steps plan n m r)
  unfolding steps
  steps_leads zero m r = none
  steps_leads (suc n) m r = onward_leads m r _ _ refl (steps_leads n (step plan m r).mem (step plan m r).cpu)

  steps_count : (n : ℕ) (m : Mem) (r : Cpu) → (steps plan n m r).count ≤ n
  unfolding steps
  steps_count zero m r = omega arith
  steps_count (suc n) m r = onward_count _ (step plan m r) _ n (steps_count n _ _)

  onward_end : (o : Outcome) (go : Mem → Cpu → End) (b : Bool) → is_done o.reply ≡ b → is_done (go o.mem o.cpu).last.reply ≡ false
      → is_done (onward b o go).last.reply ≡ false
  unfolding onward
  onward_end o go true e h = h
  onward_end o go false e h = e

  steps_end : (n : ℕ) (m : Mem) (r : Cpu) → is_done (steps plan n m r).last.reply ≡ false
  unfolding steps
  steps_end zero m r = refl
  steps_end (suc n) m r = onward_end (step plan m r) _ _ refl (steps_end n (step plan m r).mem (step plan m r).cpu)

  -- the end is the answer of the step that would come next
  abbrev Next : End → Type 0
  Next e = step plan e.last.mem e.last.cpu ≡ e.last

  onward_next : (n : ℕ) (m : Mem) (r : Cpu) (go : Mem → Cpu → End) (b : Bool) → is_done (step plan m r).reply ≡ b
      → ((go (step plan m r).mem (step plan m r).cpu).count < n → Next (go (step plan m r).mem (step plan m r).cpu))
      → (onward b (step plan m r) go).count < suc n → Next (onward b (step plan m r) go)
  unfolding onward
  onward_next n m r go true e h l = h (omega arith)
  onward_next n m r go false e h l = let s = step_still plan m r e in (λ i. step plan (s.0 i) (s.1 i))

  steps_next : (n : ℕ) (m : Mem) (r : Cpu) → (steps plan n m r).count < n → Next (steps plan n m r)
  unfolding steps
  steps_next zero m r l = absurd (omega arith)
  steps_next (suc n) m r l = onward_next n m r _ _ refl (steps_next n (step plan m r).mem (step plan m r).cpu) l

  onward_spent : (n : ℕ) (o : Outcome) (go : Mem → Cpu → End) (b : Bool) → ((go o.mem o.cpu).count ≡ n → (go o.mem o.cpu).last.reply ≡ Spent)
      → (onward b o go).count ≡ suc n → (onward b o go).last.reply ≡ Spent
  unfolding onward
  onward_spent n o go true h l = h (omega arith)
  onward_spent n o go false h l = absurd (omega arith)

  steps_spent : (n : ℕ) (m : Mem) (r : Cpu) → (steps plan n m r).count ≡ n → (steps plan n m r).last.reply ≡ Spent
  unfolding steps
  steps_spent zero m r l = refl
  steps_spent (suc n) m r l = onward_spent n (step plan m r) _ _ (steps_spent n (step plan m r).mem (step plan m r).cpu) l

  pub run_sound : (n : ℕ) (m : Mem) (r : Cpu) → sound m r ≡ true → run plan n m r ≡ steps plan n m r
  unfolding run
  run_sound n m r e = rw (e, run)

  run_bad : (n : ℕ) (m : Mem) (r : Cpu) → sound m r ≡ false → run plan n m r ≡ record { count = 0; last = still BadRecord m r }
  unfolding run
  run_bad n m r e = rw (e, run)

  step_bad : (m : Mem) (r : Cpu) → sound m r ≡ false → step plan m r ≡ still BadRecord m r
  unfolding step checked
  step_bad m r e = rw e refl

  pub run_alone : (n : ℕ) (m : Mem) (r : Cpu) → Alone plan n m r (run plan n m r)
  run_alone n m r = by (sound m r) refl
    where
      by : (b : Bool) → sound m r ≡ b → Alone plan n m r (run plan n m r)
      by true e =
          rw (run_sound n m r e)
          record {
            kept = record { advance = steps_leads n m r; budget = steps_count n m r; refused = λ h. absurd (true≢false (sym e ∙ h)) };
            cut = λ l. (steps_end n m r, steps_next n m r (omega arith));
            spent = λ _. steps_spent n m r;
          }
      by false e =
          rw (run_bad n m r e)
          record {
            kept = record { advance = none; budget = omega arith; refused = λ h. refl };
            cut = λ _. (refl, step_bad m r e);
            spent = λ h. absurd (true≢false (sym h ∙ e));
          }

  pub run_kept : (n : ℕ) (m : Mem) (r : Cpu) → Kept plan n m r (run plan n m r)
  run_kept n m r = (run_alone n m r).kept

  -- ---- no other end is kept

  steps_are : (k n : ℕ) (m m' : Mem) (r r' : Cpu) (q : Reply) → Advance plan k m r m' r' → k ≤ n
      → (k < n → (is_done q ≡ false) × (step plan m' r' ≡ still q m' r')) → (k ≡ n → q ≡ Spent)
      → record { count = k; last = still q m' r' } ≡ steps plan n m r
  unfolding steps onward
  steps_are zero zero m m' r r' q none l cut spent = λ i. record { count = 0; last = still (spent refl i) m r }
  steps_are zero (suc n) m m' r r' q none l cut spent =
      let c = cut (omega arith) in
      rw (ap (λ (o : Outcome). is_done o.reply) c.1 ∙ c.0) (λ i. record { count = 0; last = sym c.1 i })
  steps_are (suc k) zero m m' r r' q (more d a) l cut spent = absurd (omega arith)
  steps_are (suc k) (suc n) m m' r r' q (more d a) l cut spent =
      rw d (ap (λ (e : End). record { count = suc e.count; last = e.last })
      (steps_are k n _ m' _ r' q a (omega arith) (λ h. cut (omega arith)) (λ h. spent (omega arith))))

  pub kept_alone : (n : ℕ) (m : Mem) (r : Cpu) (e : End) → Alone plan n m r e → e ≡ run plan n m r
  kept_alone n m r e k = by (sound m r) refl
    where
      by : (b : Bool) → sound m r ≡ b → e ≡ run plan n m r
      by true h = steps_are e.count n m _ r _ _ k.kept.advance k.kept.budget k.cut (k.spent h) ∙ sym (run_sound n m r h)
      by false h = k.kept.refused h ∙ sym (run_bad n m r h)

  -- ---- Done ends no run

  pub run_ends : (n : ℕ) (m : Mem) (r : Cpu) → is_done (run plan n m r).last.reply ≡ false
  run_ends n m r = by (sound m r) refl
    where
      by : (b : Bool) → sound m r ≡ b → is_done (run plan n m r).last.reply ≡ false
      by true h = rw (run_sound n m r h) (steps_end n m r)
      by false h = rw (run_bad n m r h) refl

  -- ---- one step

  steps_lone : (m : Mem) (r : Cpu) → steps plan 1 m r ≡ lone (step plan m r)
  unfolding steps onward lone
  steps_lone m r = by (is_done (step plan m r).reply) refl
    where
      by : (b : Bool) → is_done (step plan m r).reply ≡ b → steps plan 1 m r ≡ lone (step plan m r)
      by true h = rw (h, lone) refl
      by false h = rw (h, lone) refl

  pub run_lone : (m : Mem) (r : Cpu) → run plan 1 m r ≡ lone (step plan m r)
  run_lone m r = by (sound m r) refl
    where
      by : (b : Bool) → sound m r ≡ b → run plan 1 m r ≡ lone (step plan m r)
      by true h = run_sound 1 m r h ∙ steps_lone m r
      by false h = run_bad 1 m r h ∙ sym (lone_off _ (ap (λ (o : Outcome). is_done o.reply) (step_bad m r h)) ∙ (λ i. record { count = 0; last = step_bad m r h i }))
