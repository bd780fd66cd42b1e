-- A run that goes the quick way where it can: its laws, one for each place where it begins, goes on or ends.
-- Assumes nothing.
use Prim.Native.Nat.{ℕ, ◌+◌, ◌-◌, ◌≤◌}
use mathlib.Core.Path.{◌≡◌, sym, ap, ◌∙◌}
use mathlib.Core.Bool.{true, false}
use native.Mathlib.Omega.{arith}
use Rattle.machine.specs.declared.Cpu.{Cpu}
use Rattle.machine.specs.declared.Reply.TheVariants.{BadRecord, Spent}
use Rattle.machine.specs.Record.{Mem, sound}
use Rattle.machine.specs.Run.{Outcome, End, step, steps, run}
use Rattle.isolation.proofs.Kept.{run_sound}
use Rattle.isolation.proofs.Ring3.{step_sound}
use Rattle.phases.specs.Step.{micro32}
use Rattle.hops.specs.Hops.{after}
use Rattle.swift.specs.Swift.{DashOk}

-- ---- its beginning, and its end at the budget

pub begun : (b : ℕ) (m : Mem) (c : Cpu) → sound m c ≡ true → run micro32 b m c ≡ after 0 (steps micro32 (b - 0) m c)
begun b m c h =
    let z : b ≡ b - 0 = omega arith in
    let o : End = steps micro32 b m c in
    let y : o.count ≡ 0 + o.count = omega arith in
    run_sound micro32 b m c h ∙ (λ i. record { count = y i; last = o.last }) ∙ ap (λ (x : ℕ). after 0 (steps micro32 x m c)) z

pub run_bad : (b : ℕ) (m : Mem) (c : Cpu) → sound m c ≡ false → record { count = 0; last = record { reply = BadRecord; cpu = c; mem = m } } ≡ run micro32 b m c
unfolding run
run_bad b m c h = sym (rw (h, run))

pub spent : (b n : ℕ) (e₀ : End) (m : Mem) (c : Cpu) → n ≤ b → b ≤ n → e₀ ≡ after n (steps micro32 (b - n) m c) → record { count = n; last = record { reply = Spent; cpu = c; mem = m } } ≡ e₀
unfolding steps
spent b n e₀ m c p q e =
    let z : b - n ≡ 0 = omega arith in
    let y : n + 0 ≡ n = omega arith in
    sym (e ∙ rw z (λ i. record { count = y i; last = record { reply = Spent; cpu = c; mem = m } }))

-- ---- after quick steps

module _ (b n : ℕ) (e₀ : End) (m : Mem) (c : Cpu) (inv : e₀ ≡ after n (steps micro32 (b - n) m c)) (good : sound m c ≡ true)
    (k : ℕ) (m' : Mem) (c' : Cpu) (l : DashOk m c k m' c') (few : k ≤ b - n) where
  pub rushed : e₀ ≡ after (n + k) (steps micro32 (b - (n + k)) m' c')
  rushed =
      let z : b - n - k ≡ b - (n + k) = omega arith in
      let o : End = steps micro32 (b - n - k) m' c' in
      let y : n + (k + o.count) ≡ n + k + o.count = omega arith in
      inv ∙ ap (after n) (l.went good (b - n) few) ∙ (λ i. record { count = y i; last = o.last }) ∙ ap (λ (x : ℕ). after (n + k) (steps micro32 x m' c')) z

-- ---- after a complete step

pub stepped_sound : (m : Mem) (c : Cpu) (s : Outcome) → sound m c ≡ true → s ≡ step micro32 m c → sound s.mem s.cpu ≡ true
stepped_sound m c s good e = rw (← e) at (step_sound micro32 m c good)

-- the count stays below the budget
pub few_left : (n k b : ℕ) → n ≤ b → k ≤ b - n → n + k ≤ b
few_left n k b h f = omega arith
