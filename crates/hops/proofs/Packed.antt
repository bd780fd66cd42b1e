-- A core put into a record and taken out again, and a record taken apart and put together.
-- Assumes nothing.
use Prim.Native.Nat.{ℕ, ◌+◌, ◌*◌, ◌/◌, ◌%◌, ◌<◌, ◌≤◌}
use mathlib.Core.Path.{◌≡◌, refl}
use mathlib.Core.Bool.{Bool, true, false, ◌&&◌, false≢true}
use native.Mathlib.Omega.{arith}
use native.Mathlib.Nat.{mod-lt}
use borrow.Author.Tests.{eqb-true, eqb-false, ltb-true}
use lib.ListN.{length}
use lib.Dec.{eqb, ltb, lit<}
use Rattle.machine.specs.declared.Flags.{Flags}
use Rattle.machine.specs.declared.Core.{Core}
use Rattle.machine.specs.declared.Cpu.{Cpu}
use Rattle.machine.specs.Record.{Mem, digit, iopl, flags_in, pack, size_sound, ring_sound, cr0_sound, cr3_sound, flags_sound, sound_at, sound, core_of, with_core}
use Rattle.isolation.proofs.Ring3.{digit_small}

-- ---- taken out again

module _ (c p a z g i d o q : ℕ) (hc : c ≤ 1) (hp : p ≤ 1) (ha : a ≤ 1) (hz : z ≤ 1) (hg : g ≤ 1)
    (hi : i ≤ 1) (hd : d ≤ 1) (ho : o ≤ 1) (hq : q < 4) where
  abbrev packed : ℕ
  packed = 2 + 1 * c + 4 * p + 16 * a + 64 * z + 128 * g + 512 * i + 1024 * d + 2048 * o + 4096 * q

  at_0 : packed % 2 ≡ c
  at_0 = omega arith

  at_2 : packed / 4 % 2 ≡ p
  at_2 = omega arith

  at_4 : packed / 16 % 2 ≡ a
  at_4 = omega arith

  at_6 : packed / 64 % 2 ≡ z
  at_6 = omega arith

  at_7 : packed / 128 % 2 ≡ g
  at_7 = omega arith

  at_9 : packed / 512 % 2 ≡ i
  at_9 = omega arith

  at_10 : packed / 1024 % 2 ≡ d
  at_10 = omega arith

  at_11 : packed / 2048 % 2 ≡ o
  at_11 = omega arith

  at_12 : packed / 4096 % 4 ≡ q
  at_12 = omega arith

digit_back : (b : Bool) → eqb (digit b) 1 ≡ b
digit_back true = refl
digit_back false = refl

set_is : (b : Bool) {x : ℕ} → x ≡ digit b → eqb x 1 ≡ b
set_is b e = rw e (digit_back b)

module _ (e : ℕ) (f : Flags) where
  flags_back : flags_in (pack e f) ≡ f
  unfolding pack flags_in
  flags_back =
      let s = f.status in
      let c' = digit_small s.cf in
      let p' = digit_small s.pf in
      let a' = digit_small s.af in
      let z' = digit_small s.zf in
      let g' = digit_small s.sf in
      let i' = digit_small f.interrupt in
      let d' = digit_small f.direction in
      let o' = digit_small s.of in
      let q' = mod-lt (e / 4096) (lit< tt) in
      λ j. record {
        status = record {
          cf = set_is s.cf (at_0 _ _ _ _ _ _ _ _ _ c' p' a' z' g' i' d' o' q') j;
          pf = set_is s.pf (at_2 _ _ _ _ _ _ _ _ _ c' p' a' z' g' i' d' o' q') j;
          af = set_is s.af (at_4 _ _ _ _ _ _ _ _ _ c' p' a' z' g' i' d' o' q') j;
          zf = set_is s.zf (at_6 _ _ _ _ _ _ _ _ _ c' p' a' z' g' i' d' o' q') j;
          sf = set_is s.sf (at_7 _ _ _ _ _ _ _ _ _ c' p' a' z' g' i' d' o' q') j;
          of = set_is s.of (at_11 _ _ _ _ _ _ _ _ _ c' p' a' z' g' i' d' o' q') j;
        };
        interrupt = set_is f.interrupt (at_9 _ _ _ _ _ _ _ _ _ c' p' a' z' g' i' d' o' q') j;
        direction = set_is f.direction (at_10 _ _ _ _ _ _ _ _ _ c' p' a' z' g' i' d' o' q') j;
      }

  iopl_back : iopl (pack e f) ≡ iopl e
  unfolding pack
  iopl_back =
      let s = f.status in
      at_12 _ _ _ _ _ _ _ _ _ (digit_small s.cf) (digit_small s.pf) (digit_small s.af) (digit_small s.zf) (digit_small s.sf)
      (digit_small f.interrupt) (digit_small f.direction) (digit_small s.of) (mod-lt (e / 4096) (lit< tt))

pub core_back : (d : Cpu) (k : Core) → core_of (with_core d k) ≡ k
core_back d k = λ j. record { regs = k.regs; eip = k.eip; flags = flags_back d.eflags k.flags j }

pub core_again : (d : Cpu) (k k' : Core) → with_core (with_core d k) k' ≡ with_core d k'
unfolding pack
core_again d k k' = rw (iopl_back d.eflags k.flags)

-- ---- put together

digit_of : (x : ℕ) → x % 2 ≡ digit (eqb (x % 2) 1)
digit_of x = by (eqb (x % 2) 1) refl
  where
    by : (b : Bool) → eqb (x % 2) 1 ≡ b → x % 2 ≡ digit b
    by true h = eqb-true _ _ h
    by false h = let n : x % 2 ≡ 1 → ⊥ = eqb-false _ _ h in omega arith

halves : (x : ℕ) → x ≡ digit (eqb (x % 2) 1) + 2 * (x / 2)
halves x = let h = digit_of x in omega (arith, h)

-- the bits of e one after another, of which the second is 1 and four are 0
summed : (e x1 x2 x3 x4 x5 x6 x7 x8 x9 x10 x11 x12 c p a z g i d o : ℕ) → e ≡ c + 2 * x1 → x1 ≡ 1 + 2 * x2 → x2 ≡ p + 2 * x3 → x3 ≡ 0 + 2 * x4 → x4 ≡ a + 2 * x5
    → x5 ≡ 0 + 2 * x6 → x6 ≡ z + 2 * x7 → x7 ≡ g + 2 * x8 → x8 ≡ 0 + 2 * x9 → x9 ≡ i + 2 * x10 → x10 ≡ d + 2 * x11 → x11 ≡ o + 2 * x12
    → 2 + 1 * c + 4 * p + 16 * a + 64 * z + 128 * g + 512 * i + 1024 * d + 2048 * o + 4096 * x12 ≡ e
summed e x1 x2 x3 x4 x5 x6 x7 x8 x9 x10 x11 x12 c p a z g i d o e0 e1 e2 e3 e4 e5 e6 e7 e8 e9 e10 e11 = omega arith

both : (a b : Bool) → a && b ≡ true → (a ≡ true) × (b ≡ true)
both true b e = (refl, e)
both false b e = absurd (false≢true e)

module _ (e : ℕ) (h : flags_sound e ≡ true) where
  tests : (e / 2 % 2 ≡ 1) × ((e / 8 % 2 ≡ 0) × ((e / 32 % 2 ≡ 0) × ((e / 256 % 2 ≡ 0) × (ltb e 16384 ≡ true))))
  tests =
      let h4 = both (eqb (e / 2 % 2) 1 && eqb (e / 8 % 2) 0 && eqb (e / 32 % 2) 0 && eqb (e / 256 % 2) 0) (ltb e 16384) h in
      let h3 = both (eqb (e / 2 % 2) 1 && eqb (e / 8 % 2) 0 && eqb (e / 32 % 2) 0) (eqb (e / 256 % 2) 0) h4.0 in
      let h2 = both (eqb (e / 2 % 2) 1 && eqb (e / 8 % 2) 0) (eqb (e / 32 % 2) 0) h3.0 in
      let h1 = both (eqb (e / 2 % 2) 1) (eqb (e / 8 % 2) 0) h2.0 in
      (eqb-true _ _ h1.0, (eqb-true _ _ h1.1, (eqb-true _ _ h2.1, (eqb-true _ _ h3.1, h4.1))))

  next_bit : (x y : ℕ) → y ≡ x / 2 → x ≡ digit (eqb (x % 2) 1) + 2 * y
  next_bit x y q = rw q (halves x)

  fixed : (x y b : ℕ) → y ≡ x / 2 → x % 2 ≡ b → x ≡ b + 2 * y
  fixed x y b q k = omega arith

  small : e / 4096 ≡ e / 4096 % 4
  small = let k : e < 16384 = ltb-true _ _ tests.1.1.1.1 in omega arith

  pack_back : pack e (flags_in e) ≡ e
  unfolding pack flags_in
  pack_back =
      rw (← small)
      (summed e (e / 2) (e / 4) (e / 8) (e / 16) (e / 32) (e / 64) (e / 128) (e / 256) (e / 512) (e / 1024) (e / 2048) (e / 4096) _ _ _ _ _ _ _ _
      (next_bit e (e / 2) refl) (fixed (e / 2) (e / 4) 1 (omega arith) tests.0) (next_bit (e / 4) (e / 8) (omega arith)) (fixed (e / 8) (e / 16) 0 (omega arith) tests.1.0)
      (next_bit (e / 16) (e / 32) (omega arith)) (fixed (e / 32) (e / 64) 0 (omega arith) tests.1.1.0) (next_bit (e / 64) (e / 128) (omega arith))
      (next_bit (e / 128) (e / 256) (omega arith)) (fixed (e / 256) (e / 512) 0 (omega arith) tests.1.1.1.0) (next_bit (e / 512) (e / 1024) (omega arith))
      (next_bit (e / 1024) (e / 2048) (omega arith)) (next_bit (e / 2048) (e / 4096) (omega arith)))

pub record_back : (m : Mem) (d : Cpu) → sound m d ≡ true → with_core d (core_of d) ≡ d
unfolding sound_at
record_back m d h =
    let f = (both (size_sound (length m) && ring_sound d.control.ring && cr0_sound d.control.cr0 && cr3_sound d.control.cr3) (flags_sound d.eflags) h).1 in
    λ j. record { regs = d.regs; eip = d.eip; eflags = pack_back d.eflags f j; control = d.control }
