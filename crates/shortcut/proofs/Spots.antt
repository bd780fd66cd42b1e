-- Where an operand lies, from what the code read of its bytes.
-- Assumes nothing.
use Rattle.std.proofs.Common.{◌≡◌, ℕ, ◌+◌, ◌/◌, ◌%◌, ◌<◌, ◌≤◌, Bool, true, false, not, ◌&&◌, eqb, ◌≢◌, List, refl, ap, ◌∙◌, arith, eq-eqb, ne_eqb, eqb-true, le-leb}
use borrow.Author.Tests.{lt-leb}
use Rattle.machine.specs.Record.{Mem, at}
use Rattle.machine.specs.Paging.{dword_at}
use Rattle.decode.specs.Decode.{in_memory, displacement_bytes, scale_of, index_of}
use Rattle.operands.specs.Operands.{address}
use Rattle.shortcut.specs.Bytes.{displacement_at, is_bare, sib_at, sib_bytes, operand_at, operand_bytes}
use Rattle.outcome.specs.Outcome.{file}
use Rattle.shortcut.specs.Forms.{spot_of, up_to}
use Rattle.shortcut.proofs.Small.{operand_few, and_left, and_right, other}

and_false : (x : Bool) → (x && false) ≡ false
and_false true = refl
and_false false = refl

-- the code's tests of the commonest forms
pub near_byte : (b : ℕ) → (eqb (b / 64) 1 && not (eqb (b % 8) 4)) ≡ true → (b / 64 ≡ 1) × (b % 8 ≢ 4)
near_byte b h = (eqb-true (b / 64) 1 (and_left (eqb (b / 64) 1) (not (eqb (b % 8) 4)) h), other (b % 8) 4 (and_right (eqb (b / 64) 1) (not (eqb (b % 8) 4)) h))

pub near_none : (b : ℕ) → (eqb (b / 64) 0 && (not (eqb (b % 8) 4) && not (eqb (b % 8) 5))) ≡ true → (b / 64 ≡ 0) × ((b % 8 ≢ 4) × (b % 8 ≢ 5))
near_none b h =
    let x = eqb (b / 64) 0 in
    let y = not (eqb (b % 8) 4) in
    let z = not (eqb (b % 8) 5) in
    let t = and_right x (y && z) h in
    (eqb-true (b / 64) 0 (and_left x (y && z) h), (other (b % 8) 4 (and_left y z t), other (b % 8) 5 (and_right y z t)))

-- mod 1 and mod 2 have a base, whatever the SIB byte s
pub has_base : (s : ℕ) → (eqb (s % 8) 5 && false) ≡ false
has_base s = and_false (eqb (s % 8) 5)

module _ (m : Mem) (e : List ℕ) (j md s a : ℕ) (es : s ≡ at m j) where
  pub sib_bare : (x : ℕ) → md ≡ 0 → s % 8 ≡ 5 → x ≡ dword_at m (j + 1) → a ≡ address (file e) (in_memory 8 (index_of s) (scale_of s) x)
      → (a ≡ address (file e) (sib_at m j md)) × (7 ≡ 2 + sib_bytes m j md)
  unfolding sib_at sib_bytes
  sib_bare x h g ex ea = rw (h, ← es, eq-eqb _ _ g) (ea ∙ ap (λ (z : ℕ). address (file e) (in_memory 8 (index_of s) (scale_of s) z)) ex, refl)

  -- n is the mod field's value on the code's path, so that the length there is a number
  pub sib_based : (n x : ℕ) → md ≡ n → is_bare n s ≡ false → x ≡ displacement_at m (j + 1) n → a ≡ address (file e) (in_memory (s % 8) (index_of s) (scale_of s) x)
      → (a ≡ address (file e) (sib_at m j md)) × (3 + displacement_bytes n ≡ 2 + sib_bytes m j md)
  unfolding sib_at sib_bytes
  sib_based n x h g ex ea = rw (h, ← es, g) (ea ∙ ap (λ (z : ℕ). address (file e) (in_memory (s % 8) (index_of s) (scale_of s) z)) ex, omega arith)

module _ (m : Mem) (e : List ℕ) (j b a : ℕ) (mem : b < 192) where
  pub form_sib : (u : ℕ) → b % 8 ≡ 4 → a ≡ address (file e) (sib_at m j (b / 64)) → u ≡ 2 + sib_bytes m j (b / 64)
      → (a ≡ address (file e) (operand_at m j b)) × (u ≡ 2 + operand_bytes m j b)
  unfolding operand_at operand_bytes
  form_sib u h ea eu = rw (lt-leb _ _ mem, eq-eqb _ _ h) (ea, eu)

  pub form_bare : (x : ℕ) → b / 64 ≡ 0 → b % 8 ≡ 5 → x ≡ dword_at m j → a ≡ address (file e) (in_memory 8 8 1 x)
      → (a ≡ address (file e) (operand_at m j b)) × (6 ≡ 2 + operand_bytes m j b)
  unfolding operand_at operand_bytes
  form_bare x h g ex ea = rw (lt-leb _ _ mem, h, g) (ea ∙ ap (λ (z : ℕ). address (file e) (in_memory 8 8 1 z)) ex, refl)

  pub form_based : (n x : ℕ) → b / 64 ≡ n → (b % 8 ≡ 4 → ⊥) → (eqb n 0 && eqb (b % 8) 5) ≡ false → x ≡ displacement_at m j n → a ≡ address (file e) (in_memory (b % 8) 8 1 x)
      → (a ≡ address (file e) (operand_at m j b)) × (2 + displacement_bytes n ≡ 2 + operand_bytes m j b)
  unfolding operand_at operand_bytes
  form_based n x h s g ex ea = rw (lt-leb _ _ mem, ne_eqb _ _ s, h, g) (ea ∙ ap (λ (z : ℕ). address (file e) (in_memory (b % 8) 8 1 z)) ex, refl)

module _ (m : Mem) (e : List ℕ) (i b : ℕ) where
  pub spot_register : 192 ≤ b → (0 ≡ spot_of m e i b) × ((2 ≡ up_to m i b) × (2 ≤ 7))
  unfolding spot_of operand_bytes
  spot_register h = rw (le-leb _ _ h) (refl, (refl, omega arith))

  pub spot_memory : (a u : ℕ) → b < 192 → a ≡ address (file e) (operand_at m (i + 2) b) → u ≡ 2 + operand_bytes m (i + 2) b
      → (a ≡ spot_of m e i b) × ((u ≡ up_to m i b) × (u ≤ 7))
  unfolding spot_of
  spot_memory a u h ea eu = let f = operand_few m (i + 2) b in rw (lt-leb _ _ h) (ea, (eu, omega (arith, f, eu)))
