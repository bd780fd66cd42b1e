-- The machine with its own view is the machine, and hides the records; with the open view it does not.
-- Assumes nothing.
use Prim.Native.Nat.{ℕ, zero, suc}
use mathlib.Core.Path.{◌≡◌, refl, sym, ap, ◌∙◌, subst, fun_ext}
use mathlib.Core.Bool.{true, false}
use native.Mathlib.Omega.{arith}
use Rattle.machine.specs.declared.Cpu.{Cpu}
use Rattle.machine.specs.declared.Reply.TheVariants.{BadRecord}
use Rattle.machine.specs.Record.{Mem, sound, register}
use Rattle.machine.specs.Replies.{is_done}
use Rattle.machine.specs.Paging.{view}
use Rattle.machine.specs.Run.{onward, still, step, steps, run}
use Rattle.isolation.specs.Twins.{Hides}
use Rattle.isolation.proofs.Noninterference.{run_hides}
use Rattle.phases.specs.Step.{micro32}
use Rattle.leaks.specs.Guest.{memory, user}
use Rattle.leaks.specs.OtherView.{step_by, steps_by, run_by}
use Rattle.leaks.specs.Claims.{OwnView, Hidden, Leaks, leaking}
use Rattle.leaks.proofs.Worked.{worked}
use Rattle.leaks.proofs.Secrets.{secrets}

own_step : (m : Mem) (r : Cpu) → step_by view m r ≡ step micro32 m r
unfolding step_by step
own_step m r = refl

own_steps : (k : ℕ) (m : Mem) (r : Cpu) → steps_by view k m r ≡ steps micro32 k m r
unfolding steps_by steps
own_steps zero m r = refl
own_steps (suc k) m r = λ i. onward (is_done (own_step m r i).reply) (own_step m r i) (λ m' r'. own_steps k m' r' i)

pub own_view : OwnView
unfolding run_by run
own_view k m r = λ i. elim (sound m r) [ true ↦ own_steps k m r i | false ↦ record { count = 0; last = still BadRecord m r } ]

pub hidden : Hidden
hidden = subst Hides (fun_ext (λ k. fun_ext (λ m. fun_ext (λ r. sym (own_view k m r))))) (run_hides micro32)

pub leaks : Leaks
leaks h =
    let e : (leaking 7).last.cpu ≡ (leaking 9).last.cpu = (h 2 (memory 7) (memory 9) user (secrets 7 9)).cpu in
    let q : register (leaking 7).last.cpu.regs 0 ≡ register (leaking 9).last.cpu.regs 0 = ap (λ (x : Cpu). register x.regs 0) e in
    let z : ◌≡◌ {A = ℕ} 7 9 = sym worked.1.0 ∙ q ∙ worked.1.1 in
    omega arith
