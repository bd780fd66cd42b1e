-- From a plan to the step. Assumes nothing.
use Prim.Native.Nat.{ℕ, ◌%◌}
use Rattle.std.specs.Prelude.{Result, Ok, Err}
use Rattle.machine.specs.declared.Reply.{Reply}
use mathlib.Core.Path.{◌≡◌, refl, sym, ap, ◌∙◌}
use mathlib.Core.Bool.{Bool, true, false, ◌&&◌}
use borrow.Author.Tests.{eqb-true}
use lib.Dec.{eqb, leb}
use Rattle.machine.specs.declared.Cpu.{Cpu}
use Rattle.machine.specs.declared.Reply.TheVariants.{Done, BadRecord}
use Rattle.machine.specs.Record.{Mem, sound, sound_at, size_sound, ring_sound, cr0_sound, cr3_sound, flags_sound, with_core}
use Rattle.machine.specs.Commit.{patches}
use Rattle.machine.specs.Run.{checked, step}
use Rattle.access.specs.declared.Trail.{Trail}
use Rattle.access.specs.Located.{trail_marks, TrailOk}
use Rattle.phases.specs.declared.Planned.{Planned}
use Rattle.phases.specs.Step.{micro32}
use Rattle.phases.specs.Planned.{left, outcome_of, PlanOk}

and_first : (a b : Bool) → a && b ≡ true → a ≡ true
and_first true b e = refl
and_first false b e = e

pub sound_size : (n : ℕ) (r : Cpu) → sound_at n r ≡ true → n % 4096 ≡ 0
unfolding sound_at
sound_size n r e =
    let size = eqb (n % 4096) 0 in
    let ring = ring_sound r.control.ring in
    let cr0 = cr0_sound r.control.cr0 in
    let cr3 = cr3_sound r.control.cr3 in
    eqb-true _ _
    (and_first size (leb 4096 n)
    (and_first (size && leb 4096 n) (leb n 16777216)
    (and_first (size_sound n) ring
    (and_first (size_sound n && ring) cr0
    (and_first (size_sound n && ring && cr0) cr3
    (and_first (size_sound n && ring && cr0 && cr3) (flags_sound r.eflags) e))))))

module _ (m : Mem) (r : Cpu) where
  pub step_bad : sound m r ≡ false → record { reply = BadRecord; cpu = r; mem = m } ≡ step micro32 m r
  unfolding step checked
  step_bad h = rw h

  module _ (good : sound m r ≡ true) where
    from_plan : (p : Result Planned Reply) → PlanOk m r p → outcome_of m r p ≡ step micro32 m r
    unfolding step checked
    from_plan p k = rw good k.does

    pub step_off : (q : Reply) → PlanOk m r (Err q) → record { reply = q; cpu = r; mem = m } ≡ step micro32 m r
    unfolding outcome_of
    step_off q k = from_plan (Err q) k

    pub step_on : (p : Planned) → PlanOk m r (Ok p) → (t : Trail) {m₁ m₂ : Mem} {r' : Cpu} → TrailOk m r.control r.eip p.length t → m₁ ≡ patches (trail_marks false t) m
        → m₂ ≡ left p m₁ → r' ≡ with_core r p.core → record { reply = Done; cpu = r'; mem = m₂ } ≡ step micro32 m r
    unfolding outcome_of
    step_on p k t o e₁ e₂ e₃ =
        (λ j. record { reply = Done; cpu = e₃ j; mem = (e₂ ∙ ap (left p) (e₁ ∙ sym (o m))) j }) ∙ from_plan (Ok p) k
