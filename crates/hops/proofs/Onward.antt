-- A run, one step further. Assumes nothing.
use Prim.Native.Nat.{ℕ, suc, ◌+◌, ◌-◌, ◌<◌}
use mathlib.Core.Path.{◌≡◌, refl, sym, ap, ◌∙◌}
use mathlib.Core.Bool.{Bool, true, false}
use native.Mathlib.Omega.{arith}
use Rattle.machine.specs.declared.Cpu.{Cpu}
use Rattle.machine.specs.declared.Reply.TheVariants.{Done}
use Rattle.machine.specs.Record.{Mem}
use Rattle.machine.specs.Replies.{is_done}
use Rattle.machine.specs.Run.{Outcome, End, step, steps, onward}
use Rattle.phases.specs.Step.{micro32}
use Rattle.hops.specs.Hops.{after}

one_left : (n b : ℕ) → n < b → b - n ≡ suc (b - (n + 1))
one_left n b h = omega arith

pub no_steps : (b : ℕ) (m : Mem) (r : Cpu) → steps micro32 b m r ≡ after 0 (steps micro32 (b - 0) m r)
no_steps b m r = by (steps micro32 b m r) refl
  where
    by : (x : End) → x ≡ steps micro32 b m r → steps micro32 b m r ≡ after 0 (steps micro32 (b - 0) m r)
    by x h =
        let z : b ≡ b - 0 = omega arith in
        let y : x.count ≡ 0 + x.count = omega arith in
        sym h ∙ (λ i. record { count = y i; last = x.last }) ∙ ap (after 0) (h ∙ ap (λ (n : ℕ). steps micro32 n m r) z)

module _ (n k : ℕ) (m : Mem) (r : Cpu) where
  steps_on : is_done (step micro32 m r).reply ≡ true → after k (steps micro32 (suc n) m r) ≡ after (k + 1) (steps micro32 n (step micro32 m r).mem (step micro32 m r).cpu)
  unfolding steps onward
  steps_on e =
      ap (λ (b : Bool). after k (onward b (step micro32 m r) (λ m' r'. steps micro32 n m' r'))) e
      ∙ (λ i. record { count = shift (steps micro32 n (step micro32 m r).mem (step micro32 m r).cpu).count i; last = (steps micro32 n (step micro32 m r).mem (step micro32 m r).cpu).last })
    where
      shift : (x : ℕ) → k + suc x ≡ k + 1 + x
      shift x = omega arith

  steps_off : is_done (step micro32 m r).reply ≡ false → after k (steps micro32 (suc n) m r) ≡ record { count = k; last = step micro32 m r }
  unfolding steps onward
  steps_off e =
      ap (λ (b : Bool). after k (onward b (step micro32 m r) (λ m' r'. steps micro32 n m' r'))) e
      ∙ (λ i. record { count = none i; last = step micro32 m r })
    where
      none : k + 0 ≡ k
      none = omega arith

module _ (b n : ℕ) (e₀ : End) (m : Mem) (c : Cpu) (s : Outcome) (h : n < b) (inv : e₀ ≡ after n (steps micro32 (b - n) m c)) (e : s ≡ step micro32 m c) where
  pub went_on : s.reply ≡ Done → e₀ ≡ after (n + 1) (steps micro32 (b - (n + 1)) s.mem s.cpu)
  went_on d =
      inv ∙ ap (λ (x : ℕ). after n (steps micro32 x m c)) (one_left n b h)
      ∙ steps_on (b - (n + 1)) n m c (ap is_done (ap (λ (o : Outcome). o.reply) (sym e) ∙ d))
      ∙ ap (λ (o : Outcome). after (n + 1) (steps micro32 (b - (n + 1)) o.mem o.cpu)) (sym e)

  pub ended_at : is_done s.reply ≡ false → record { count = n; last = s } ≡ e₀
  ended_at d =
      sym (inv ∙ ap (λ (x : ℕ). after n (steps micro32 x m c)) (one_left n b h)
      ∙ steps_off (b - (n + 1)) n m c (ap (λ (o : Outcome). is_done o.reply) (sym e) ∙ d)
      ∙ ap (λ (o : Outcome). record { count = n; last = o }) (sym e))
