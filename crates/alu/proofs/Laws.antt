-- Laws of the arithmetic, over the weight H of the top bit: 2 ^ w is H + H. Assumes nothing.
use Prim.Native.Nat.{ℕ, suc, ◌+◌, ◌-◌, ◌*◌, ◌%◌, ◌≤◌, ◌<◌}
use native.Mathlib.Nat.{mod-eq_of_lt, mod-eq-sub-mod}
use native.Mathlib.Omega.{arith}
use mathlib.Core.Path.{◌≡◌, refl, sym, ap, ◌∙◌}
use mathlib.Core.Bool.{Bool, true, false, not, ◌&&◌, beq, not-not}
use lib.Dec.{ltb, leb}
use borrow.Author.Tests.{ltb-true, ltb-false, leb-true, leb-false, lt-ltb, le-ltb, le-leb, lt-leb}
use Rattle.alu.specs.Arithmetic.{bit}

pub bit_le : (c : Bool) → bit c ≤ 1
bit_le true = omega arith
bit_le false = omega arith

-- t modulo m, where t is below 2 m
pub mod_once : (m t : ℕ) → m ≤ t → t < m + m → t % m ≡ t - m
mod_once m t h k = mod-eq-sub-mod h ∙ mod-eq_of_lt (omega arith)

-- a signed number lifted by H, as the top bit says
lift_low : (H a : ℕ) → a < H → (a + H) % (H + H) ≡ a + H
lift_low H a h = mod-eq_of_lt (omega arith)

lift_high : (H a : ℕ) → H ≤ a → a < H + H → (a + H) % (H + H) ≡ a - H
lift_high H a h k = mod_once (H + H) (a + H) (omega arith) (omega arith) ∙ omega arith

ruleset tests = (arith, ltb-true, ltb-false, leb-true, leb-false)

-- a number from H up to 3 H stands for one in the signed range, lifted twice
abbrev outside : (H x : ℕ) → Bool
outside H x = not (leb H x && ltb x (3 * H))

within : (H x : ℕ) → H ≤ x → x < 3 * H → outside H x ≡ false
within H x h k = simp (le-leb H x h, lt-ltb x (3 * H) k)

under : (H x : ℕ) → x < H → outside H x ≡ true
under H x h = simp (lt-leb H x h)

over : (H x : ℕ) → 3 * H ≤ x → outside H x ≡ true
over H x h = simp (le-leb H x (omega arith), le-ltb x (3 * H) h)

-- two tests of the same distance, and of opposite ones
pub leb_same : (a b c d : ℕ) → a + d ≡ c + b → leb a b ≡ leb c d
leb_same a b c d h = by (leb c d) refl
  where
    by : (v : Bool) → leb c d ≡ v → leb a b ≡ leb c d
    by true e = rw e (le-leb a b (omega tests))
    by false e = rw e (lt-leb a b (omega tests))

leb_not : (a b c d : ℕ) → suc (b + d) ≡ a + c → leb a b ≡ not (leb c d)
leb_not a b c d h = by (leb c d) refl
  where
    by : (v : Bool) → leb c d ≡ v → leb a b ≡ not (leb c d)
    by true e = rw e (lt-leb a b (omega tests))
    by false e = rw e (le-leb a b (omega tests))

-- from H up to 3 H, the top bit of what is left is set where nothing is carried out
out_or_top : (H t : ℕ) → H ≤ t → t < 3 * H → leb (H + H) t ≡ not (leb H (t % (H + H)))
out_or_top H t h k = by (leb (H + H) t) refl
  where
    by : (v : Bool) → leb (H + H) t ≡ v → leb (H + H) t ≡ not (leb H (t % (H + H)))
    by true e =
        let m = mod_once (H + H) t (omega tests) (omega tests) in
        rw (e, lt-leb H (t % (H + H)) (omega tests))
    by false e =
        let m : t % (H + H) ≡ t = mod-eq_of_lt (omega tests) in
        rw (e, le-leb H (t % (H + H)) (omega tests))

-- the carry into the top place, by the top bits of the operands and of the result
abbrev pub into_top : Bool → Bool → Bool → Bool
into_top p q u = not (beq (not (beq p q)) u)

-- OF: the carry into the top place is not the one out of it
abbrev overflows : Bool → Bool → Bool → Bool → Bool
overflows p q u v = not (beq (into_top p q u) v)

-- OF of a sum
module _ (H a b c : ℕ) (ha : a < H + H) (hb : b < H + H) (hc : c ≤ 1) where
  abbrev add_x : ℕ
  add_x = (a + H) % (H + H) + (b + H) % (H + H) + c

  abbrev add_out : Bool
  add_out = leb (H + H) (a + b + c)

  -- operands of different signs
  mixed : (u v : Bool) → v ≡ not u → overflows true false u v ≡ false
  mixed true v e = rw e
  mixed false v e = rw e

  add_go : (p q u : Bool) → leb H a ≡ p → leb H b ≡ q → leb H ((a + b + c) % (H + H)) ≡ u → overflows p q u add_out ≡ outside H add_x
  add_go true true true ep eq eu =
      let la = lift_high H a (omega tests) ha in
      let lb = lift_high H b (omega tests) hb in
      let lr = mod_once (H + H) (a + b + c) (omega tests) (omega tests) in
      rw (le-leb (H + H) (a + b + c) (omega tests)) (sym (within H add_x (omega tests) (omega tests)))
  add_go true true false ep eq eu =
      let la = lift_high H a (omega tests) ha in
      let lb = lift_high H b (omega tests) hb in
      let lr = mod_once (H + H) (a + b + c) (omega tests) (omega tests) in
      rw (le-leb (H + H) (a + b + c) (omega tests)) (sym (under H add_x (omega tests)))
  add_go true false u ep eq eu =
      let la = lift_high H a (omega tests) ha in
      let lb = lift_low H b (omega tests) in
      mixed u add_out (out_or_top H (a + b + c) (omega tests) (omega tests) ∙ ap not eu) ∙ sym (within H add_x (omega tests) (omega tests))
  add_go false true u ep eq eu =
      let la = lift_low H a (omega tests) in
      let lb = lift_high H b (omega tests) hb in
      mixed u add_out (out_or_top H (a + b + c) (omega tests) (omega tests) ∙ ap not eu) ∙ sym (within H add_x (omega tests) (omega tests))
  add_go false false true ep eq eu =
      let la = lift_low H a (omega tests) in
      let lb = lift_low H b (omega tests) in
      let lr : (a + b + c) % (H + H) ≡ a + b + c = mod-eq_of_lt (omega tests) in
      rw (lt-leb (H + H) (a + b + c) (omega tests)) (sym (over H add_x (omega tests)))
  add_go false false false ep eq eu =
      let la = lift_low H a (omega tests) in
      let lb = lift_low H b (omega tests) in
      let lr : (a + b + c) % (H + H) ≡ a + b + c = mod-eq_of_lt (omega tests) in
      rw (lt-leb (H + H) (a + b + c) (omega tests)) (sym (within H add_x (omega tests) (omega tests)))

  pub add_of : overflows (leb H a) (leb H b) (leb H ((a + b + c) % (H + H))) add_out ≡ outside H add_x
  add_of = add_go (leb H a) (leb H b) (leb H ((a + b + c) % (H + H))) refl refl refl

beq_not_l : (p q : Bool) → beq (not p) q ≡ not (beq p q)
beq_not_l true true = refl
beq_not_l true false = refl
beq_not_l false true = refl
beq_not_l false false = refl

beq_not_r : (p q : Bool) → beq p (not q) ≡ not (beq p q)
beq_not_r true true = refl
beq_not_r true false = refl
beq_not_r false true = refl
beq_not_r false false = refl

-- a borrow is a carry that is not there, of the inverted operand
inverts : (p q u v : Bool) → overflows p q u v ≡ overflows p (not q) u (not v)
inverts p q u v = simp (beq_not_l, beq_not_r, not-not)

-- OF of a difference is that of the sum with the inverted operand and the inverted borrow
module _ (H a b c : ℕ) (ha : a < H + H) (hb : b < H + H) (hc : c ≤ 1) where
  abbrev sub_x : ℕ
  sub_x = (a + H) % (H + H)

  abbrev sub_y : ℕ
  sub_y = (b + H) % (H + H) + c

  abbrev sub_t : ℕ
  sub_t = H + H + a - (b + c)

  abbrev inverse : ℕ
  inverse = H + H - suc b

  total : a + inverse + (1 - c) ≡ sub_t
  total = omega arith

  lifts : (q : Bool) → leb H b ≡ q → (inverse + H) % (H + H) + (b + H) % (H + H) + 1 ≡ H + H
  lifts true e =
      let lb = lift_high H b (omega tests) hb in
      let li = lift_low H inverse (omega tests) in
      omega tests
  lifts false e =
      let lb = lift_low H b (omega tests) in
      let li = lift_high H inverse (omega tests) (omega tests) in
      omega tests

  abbrev apart : Bool
  apart = not (leb sub_y (sub_x + H) && ltb sub_x (sub_y + H))

  distances : outside H (sub_x + (inverse + H) % (H + H) + (1 - c)) ≡ apart
  distances =
      let x = sub_x + (inverse + H) % (H + H) + (1 - c) in
      let l = lifts (leb H b) refl in
      λ i. not (leb_same H x sub_y (sub_x + H) (omega arith) i && leb_same (suc x) (3 * H) (suc sub_x) (sub_y + H) (omega arith) i)

  pub sub_of : overflows (leb H a) (leb H b) (leb H (sub_t % (H + H))) (ltb a (b + c)) ≡ apart
  sub_of =
      let q = leb_not H inverse H b (omega arith) in
      let v = leb_not (H + H) sub_t (suc a) (b + c) (omega arith) in
      let o = add_of H a inverse (1 - c) ha (omega arith) (omega arith) in
      inverts (leb H a) (leb H b) (leb H (sub_t % (H + H))) (ltb a (b + c))
      ∙ rw (← q, ← v, ← total) o
      ∙ distances
