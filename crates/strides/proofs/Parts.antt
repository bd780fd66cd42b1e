-- The small parts: byte registers, and what a store of a dword leaves as it was.
-- Assumes nothing.
use Rattle.std.proofs.Common.{◌≡◌, ℕ, ◌+◌, ◌*◌, ◌/◌, ◌%◌, ◌<◌, ◌≤◌, true, false, ◌||◌, eqb, List, get_or, set, sym, refl, ap, ◌∙◌, arith, ne_eqb}
use mathlib.Core.Bool.{false≢true}
use borrow.Author.Tests.{eqb-false}
use Rattle.machine.specs.declared.Control.{Control}
use Rattle.machine.specs.Record.{Mem, read_at, write_at}
use Rattle.machine.specs.Paging.{dir_frame}
use Rattle.keptpages.specs.Quiet.{Agree}
use Rattle.outcome.specs.Outcome.{file}
use Rattle.shortcut.proofs.Small.{or_left, or_right}
use Rattle.hops.specs.declared.Ending.{Ending}
use Rattle.hops.specs.declared.Ending.TheVariants as ends
use Rattle.hops.specs.Hops.{moves, keeps, Spared}
use Rattle.hops.proofs.Seeking.{four_length, four_agree}

-- ---- byte registers

module _ (e : List ℕ) (n x : ℕ) (is : x ≡ get_or e (n % 4) 0) where
  pub high_read : n / 4 % 2 ≡ 1 → (x / 256 % 256 ≡ read_at false (file e) n) × (x / 256 % 256 < 256)
  unfolding read_at
  high_read h = (rw h (ap (λ (z : ℕ). z / 256 % 256) is), omega arith)

  pub low_read : (n / 4 % 2 ≡ 1 → ⊥) → (x % 256 ≡ read_at false (file e) n) × (x % 256 < 256)
  unfolding read_at
  low_read h = (rw (ne_eqb (n / 4 % 2) 1 h) (ap (λ (z : ℕ). z % 256) is), omega arith)

  pub high_put : (y : ℕ) {e' : List ℕ} → y < 256 → n / 4 % 2 ≡ 1 → e' ≡ set e (n % 4) (x / 65536 * 65536 + y * 256 + x % 256) → e' ≡ (write_at false (file e) n y).e
  unfolding write_at
  high_put y s h ee = let z : y % 256 ≡ y = omega arith in rw (h, z, ← is) ee

  pub low_put : (y : ℕ) {e' : List ℕ} → y < 256 → (n / 4 % 2 ≡ 1 → ⊥) → e' ≡ set e (n % 4) (x / 256 * 256 + y) → e' ≡ (write_at false (file e) n y).e
  unfolding write_at
  low_put y s h ee = let z : y % 256 ≡ y = omega arith in rw (ne_eqb (n / 4 % 2) 1 h, z, ← is) ee

-- ---- how a form ended

pub done_apart : ends.Done ≡ ends.Follows → ⊥
done_apart h = cc

pub stuck_apart : ends.Stuck ≡ ends.Follows → ⊥
stuck_apart h = cc

remapped_apart : ends.Remapped ≡ ends.Follows → ⊥
remapped_apart h = cc

-- ---- a store of a dword at i

-- what is known of it by its answer
abbrev pub Answers : Mem → Mem → Control → ℕ → ℕ → Ending → Type 0
Answers m m' c t b r = (keeps r ≡ true → Spared m m' c t) × ((r ≡ ends.Follows → Agree m m' b) × (moves r ≡ true))

module _ (m : Mem) (c : Control) (t b i v : ℕ) {m' : Mem}
    (is : m' ≡ set (set (set (set m i (v % 256)) (i + 1) (v / 256 % 256)) (i + 2) (v / 65536 % 256)) (i + 3) (v / 16777216 % 256)) where
  pub others : Answers m m' c t b ends.Remapped
  others = (λ h. absurd (false≢true h), (λ h. absurd (remapped_apart h), refl))

  -- all of it is in one frame, so that only that one is changed
  module _ (room : i % 4096 ≤ 4092) where
    leaves : (f : ℕ) → eqb (i / 4096) f ≡ false → Agree m m' f
    leaves f h =
        let n : i / 4096 ≡ f → ⊥ = eqb-false _ _ h in
        let k : (i + 3) / 4096 ≡ i / 4096 = omega (arith, room) in
        rw is (four_agree m i v f n (λ z. n (sym k ∙ z)))

    module _ (maps : (eqb (i / 4096) t || eqb (i / 4096) (dir_frame c)) ≡ false) where
      spared : Spared m m' c t
      spared = (rw is (four_length m i v), (leaves (dir_frame c) (or_right (eqb (i / 4096) t) (eqb (i / 4096) (dir_frame c)) maps), leaves t (or_left (eqb (i / 4096) t) (eqb (i / 4096) (dir_frame c)) maps)))

      pub on_page : Answers m m' c t b ends.Done
      on_page = (λ _. spared, (λ h. absurd (done_apart h), refl))

      pub elsewhere : (i / 4096 ≡ b → ⊥) → Answers m m' c t b ends.Follows
      elsewhere h = (λ _. spared, (λ _. leaves b (ne_eqb (i / 4096) b h), refl))
