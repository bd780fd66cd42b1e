-- Blocks one after another are quick steps one after another.
-- Assumes nothing.
use Prim.Native.Nat.{ℕ, ◌+◌, ◌-◌, ◌/◌, ◌%◌, ◌<◌, ◌≤◌}
use mathlib.Core.Path.{◌≡◌, refl, ap, ◌∙◌}
use mathlib.Core.Logic.{◌≢◌}
use mathlib.Core.Bool.{Bool, ◌&&◌, ◌||◌, not, true, false, true≢false}
use mathlib.Core.List.{List}
use native.Mathlib.Omega.{arith}
use borrow.Author.Tests.{eqb-false}
use lib.Dec.{eqb, leb}
use lib.ListN.{length}
use Rattle.machine.specs.declared.Control.{Control}
use Rattle.machine.specs.Record.{Mem}
use Rattle.machine.specs.Run.{End, steps}
use Rattle.keptpages.specs.declared.Kept.{Kept}
use Rattle.blocks.specs.Blocks.{Keyed}
use Rattle.hops.specs.declared.Ending.TheVariants as ends
use Rattle.hops.specs.declared.Rest.{Rest}
use Rattle.phases.specs.Step.{micro32}
use Rattle.hops.specs.Hops.{keeps, PagesOk, current, after, RushOk}
use Rattle.hops.proofs.Rushing.{rush_begun, split_test}
use Rattle.sprints.specs.declared.Traced.{Traced}
use Rattle.sprints.specs.Sprints.{Before, TracedOk}

-- n steps and k more
module _ (m₀ : Mem) (e₀ : List ℕ) (c : Control) (r₀ : Rest) (n : ℕ) (m : Mem) (e : List ℕ) (r : Rest) (a : RushOk m₀ e₀ c r₀ n m e r) (k : ℕ) (m' : Mem) (e' : List ℕ) (r' : Rest)
    (b : RushOk m e c r k m' e' r') where
  pub rush_joined : RushOk m₀ e₀ c r₀ (n + k) m' e' r'
  rush_joined d hc good =
      let x = a d hc good in
      let y = b d hc x.holds in
      record {
        holds = y.holds;
        went = λ u l.
            x.went u (omega arith) ∙ ap (after n) (y.went (u - n) (omega arith)) ∙ twice (steps micro32 (u - n - k) m' (current d e' r'))
            ∙ ap (λ (z : ℕ). after (n + k) (steps micro32 z m' (current d e' r'))) (rest u);
      }
    where
      twice : (z : End) → after n (after k z) ≡ after (n + k) z
      twice z = let q : n + (k + z.count) ≡ n + k + z.count = omega arith in λ i. record { count = q i; last = z.last }

      rest : (u : ℕ) → u - n - k ≡ u - (n + k)
      rest u = omega arith

-- where n instructions are done
pub record Sprinted (m₀ : Mem) (e₀ : List ℕ) (c : Control) (r₀ : Rest) (h : Kept) (d : List ℕ) (m : Mem) (e : List ℕ) (n : ℕ) (r : Rest) : Type 0 where
  pub rushed : RushOk m₀ e₀ c r₀ n m e r
  pub same : length m ≡ length m₀
  pub pages : PagesOk m c h d

module _ (m₀ : Mem) (e₀ : List ℕ) (c : Control) (r₀ : Rest) (h : Kept) (d : List ℕ) where
  pub off : PagesOk m₀ c h d → Sprinted m₀ e₀ c r₀ h d m₀ e₀ 0 r₀
  off p = record { rushed = rush_begun m₀ e₀ c r₀; same = refl; pages = p }

  module _ (m : Mem) (e : List ℕ) (n : ℕ) (r : Rest) (z : Sprinted m₀ e₀ c r₀ h d m e n r) where
    pub paused : TracedOk m₀ e₀ c r₀ h d m e (record { count = n; ending = ends.Follows; rest = r })
    paused = record { rushed = z.rushed; size = z.same; kept = λ _. z.pages }

    -- the block's bytes are there
    pub room : (eqb (r.eip / 4096) h.page && leb (r.eip % 4096) 4032) ≡ true → r.eip < 4294967296 → (i : ℕ) → i ≡ h.base + r.eip % 4096 → i + 64 ≤ length m
    room t small i ei =
        let q = split_test (r.eip / 4096) h.page (r.eip % 4096) 4032 t in
        let w : h.base + 4096 < length m + 1 = z.pages.0.whole (omega (arith, q.0, small)) in
        omega (arith, w, q.1)

    pub ready : length m₀ % 4096 ≡ 0 → h.base % 4096 ≡ 0 → (eqb (r.eip / 4096) h.page && leb (r.eip % 4096) 4032) ≡ true → r.eip < 4294967296
        → (g : List ℕ) (s i : ℕ) → i ≡ h.base + r.eip % 4096 → s + 32 ≤ 4096 → s % 32 ≡ 0 → Keyed m i g s → Before m c h d g r s
    ready size even t small g s i ei within whole keyed =
        let q = split_test (r.eip / 4096) h.page (r.eip % 4096) 4032 t in
        record {
          stands = record { size = ap (λ (x : ℕ). x % 4096) z.same ∙ size; pages = z.pages; page = q.0; room = omega (arith, q.1); small = small };
          even = even;
          wide = q.1;
          within = within;
          whole = whole;
          keyed = rw ei at keyed;
        }

    module _ (m' : Mem) (e' : List ℕ) (w : Traced) (t : TracedOk m e c r h d m' e' w) where
      pub on : keeps w.ending ≡ true → Sprinted m₀ e₀ c r₀ h d m' e' (n + w.count) w.rest
      on x = record { rushed = rush_joined m₀ e₀ c r₀ n m e r z.rushed w.count m' e' w.rest t.rushed; same = t.size ∙ z.same; pages = t.kept x }

      pub done : TracedOk m₀ e₀ c r₀ h d m' e' (record { count = n + w.count; ending = w.ending; rest = w.rest })
      done = record { rushed = rush_joined m₀ e₀ c r₀ n m e r z.rushed w.count m' e' w.rest t.rushed; size = t.size ∙ z.same; kept = t.kept }

-- the test after a block
pub goes_on : (a b : Bool) (n : ℕ) → (not a || not b || eqb n 0) ≡ false → (b ≡ true) × (n ≢ 0)
goes_on true true n h = (refl, eqb-false n 0 h)
goes_on true false n h = absurd (true≢false h)
goes_on false b n h = absurd (true≢false h)
