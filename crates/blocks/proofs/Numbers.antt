-- Numbers of 64 bits: the eight bytes of one, and a form in one.
-- Assumes nothing.
use Prim.Native.Nat.{ℕ, zero, suc, ◌+◌, ◌*◌, ◌/◌, ◌%◌, ◌<◌}
use mathlib.Core.Path.{◌≡◌, refl, sym, ap, ◌∙◌}
use mathlib.Core.List.{List, [], ◌∷◌}
use lib.ListN.{get_or}
use Rattle.std.specs.Int.{to_le_bytes, from_le_bytes, w64}
use Rattle.std.proofs.lemmas.Nat.{le_bytes_8}
use native.Mathlib.Omega.{arith}
use Rattle.machine.specs.Record.{Mem, at}
use Rattle.forms.specs.declared.Form.{Form}
use Rattle.forms.specs.Forms.{Small}
use Rattle.blocks.specs.Blocks.{Digits, unpacked}

-- ---- the eight bytes of a number

-- those at index i
abbrev eight : Mem → ℕ → List ℕ
eight m i = at m i ∷ at m (i + 1) ∷ at m (i + 2) ∷ at m (i + 3) ∷ at m (i + 4) ∷ at m (i + 5) ∷ at m (i + 6) ∷ at m (i + 7) ∷ []

pub digits : (m : Mem) (i w : ℕ) → ((n : ℕ) → at m n < 256)
    → w ≡ from_le_bytes w64 (eight m i) → Digits m i w
digits m i w small e = by
  where
    few : (j : ℕ) → get_or (eight m i) j 0 < 256
    few zero = small i
    few (suc zero) = small (i + 1)
    few (suc (suc zero)) = small (i + 2)
    few (suc (suc (suc zero))) = small (i + 3)
    few (suc (suc (suc (suc zero)))) = small (i + 4)
    few (suc (suc (suc (suc (suc zero))))) = small (i + 5)
    few (suc (suc (suc (suc (suc (suc zero)))))) = small (i + 6)
    few (suc (suc (suc (suc (suc (suc (suc zero))))))) = small (i + 7)
    few (suc (suc (suc (suc (suc (suc (suc (suc j)))))))) = omega arith

    there : (l : ℕ) → get_or (eight m i) l 0 ≡ get_or (to_le_bytes w64 w) l 0
    there l = sym (ap (λ (x : List ℕ). get_or x l 0) (le_bytes_8 (eight m i) w refl few e))

    by : Digits m i w
    by zero h = let z : i + 0 ≡ i = omega arith in let d : w % 256 ≡ w / 1 % 256 = omega arith in ap (at m) z ∙ there 0 ∙ d
    by (suc zero) h = there 1
    by (suc (suc zero)) h = there 2
    by (suc (suc (suc zero))) h = there 3
    by (suc (suc (suc (suc zero)))) h = there 4
    by (suc (suc (suc (suc (suc zero))))) h = there 5
    by (suc (suc (suc (suc (suc (suc zero)))))) h = there 6
    by (suc (suc (suc (suc (suc (suc (suc zero))))))) h = there 7
    by (suc (suc (suc (suc (suc (suc (suc (suc l)))))))) h = absurd (omega arith)

-- ---- a form

module _ (k l a b n x : ℕ) (e : x ≡ k + 256 * l + 65536 * a + 16777216 * b + 4294967296 * n) (hk : k < 128) (hl : l < 16) (ha : a < 8) (hb : b < 8) where
  kind_is : x % 128 ≡ k
  kind_is = omega arith

  length_is : x / 256 % 16 ≡ l
  length_is = omega arith

  a_is : x / 65536 % 8 ≡ a
  a_is = omega arith

  b_is : x / 16777216 % 8 ≡ b
  b_is = omega arith

  number_is : x / 4294967296 ≡ n
  number_is = omega arith

pub packed : (f : Form) (x : ℕ) → Small f → x ≡ f.kind + 256 * f.length + 65536 * f.a + 16777216 * f.b + 4294967296 * f.number → unpacked x ≡ f
packed f x s e = λ i. record {
  kind = kind_is _ _ _ _ _ x e s.kind s.length s.a s.b i;
  length = length_is _ _ _ _ _ x e s.kind s.length s.a s.b i;
  a = a_is _ _ _ _ _ x e s.kind s.length s.a s.b i;
  b = b_is _ _ _ _ _ x e s.kind s.length s.a s.b i;
  number = number_is _ _ _ _ _ x e s.kind s.length s.a s.b i;
}
