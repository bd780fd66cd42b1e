-- Decoding where all the bytes are shown: one fetch after another, to the instruction.
-- Assumes nothing.
use Rattle.std.proofs.Common.{◌≡◌, ℕ, ◌+◌, ◌/◌, ◌%◌, ◌<◌, Bool, true, false, cond, ◌&&◌, eqb, leb, refl, arith, lt-ltb}
use mathlib.Core.Bool.{false≢true}
use Rattle.machine.specs.Record.{Mem, at}
use Rattle.machine.specs.Paging.{View, dword_at}
use Rattle.machine.specs.Act.{ok, byte, counted, fetch}
use Rattle.encoding.specs.declared.Class.{Class}
use Rattle.encoding.specs.declared.Class.TheVariants.{NotBuilt, Override, Escape, Undefined}
use Rattle.encoding.specs.Encodings.{class_of, is_not_built, is_override, is_escape, is_undefined}
use Rattle.encoding.specs.Attributes.{reg_field, has_modrm, has_offset, undefined_form, unbuilt_form, is_wide, immediate_bytes, immediate_of, implied_register, family_of, operation_of}
use Rattle.fetch.specs.Fetch.{signed, fetch_signed, fetch_dword, number}
use Rattle.fetch.specs.Read.{log_at}
use Rattle.fetch.proofs.Laws.{span_more}
use Rattle.decode.specs.Decode.{prefixed, opcode, in_register, in_memory, displacement_bytes, scale_of, index_of, after_sib, after_modrm, judged, finish, with_modrm, classed, decode}
use Rattle.shortcut.specs.Bytes.{Shows, displacement_at, is_bare, sib_at, sib_bytes, operand_at, operand_bytes}
use Rattle.shortcut.specs.Forms.{up_to}

-- a class that is an instruction's own
abbrev pub is_own : Class → Bool
is_own NotBuilt = false
is_own Override = false
is_own Escape = false
is_own Undefined = false
is_own _ = true

module _ (v : View) (m : Mem) (eip i : ℕ) (sh : Shows v m eip i) where
  fetched : (n : ℕ) → n < 15 → fetch eip v (log_at eip n) ≡ ok (at m (i + n)) (log_at eip (n + 1))
  unfolding fetch counted byte
  fetched n h = let k : n < 16 = omega arith in rw (lt-ltb n 15 h, sh n k, span_more eip n)

  fetched_to : (n k j : ℕ) → n < 15 → n + 1 ≡ k → i + n ≡ j → fetch eip v (log_at eip n) ≡ ok (at m j) (log_at eip k)
  fetched_to n k j h e f = rw (← e, ← f) (fetched n h)

  -- ---- numbers: n bytes went before

  pub number_none : (n : ℕ) → number eip 0 v (log_at eip n) ≡ ok 0 (log_at eip n)
  unfolding number
  number_none n = refl

  pub number_one : (n : ℕ) → n < 15 → number eip 1 v (log_at eip n) ≡ ok (signed (at m (i + n))) (log_at eip (n + 1))
  unfolding number fetch_signed
  number_one n h = rw (fetched n h)

  pub number_four : (n : ℕ) → n + 3 < 15 → number eip 4 v (log_at eip n) ≡ ok (dword_at m (i + n)) (log_at eip (n + 4))
  unfolding number fetch_dword
  number_four n h =
      let f0 = fetched_to n (n + 1) (i + n) (omega arith) refl refl in
      let f1 = fetched_to (n + 1) (n + 2) (i + n + 1) (omega arith) (omega arith) (omega arith) in
      let f2 = fetched_to (n + 2) (n + 3) (i + n + 2) (omega arith) (omega arith) (omega arith) in
      let f3 = fetched_to (n + 3) (n + 4) (i + n + 3) (omega arith) (omega arith) (omega arith) in
      rw (f0, f1, f2, f3)

  pub number_long : (long : Bool) (n : ℕ) → n + 3 < 15
      → number eip (cond long 4 1) v (log_at eip n) ≡ ok (cond long (dword_at m (i + n)) (signed (at m (i + n)))) (log_at eip (n + cond long 4 1))
  number_long true n h = number_four n h
  number_long false n h = number_one n (omega arith)

  displaced : (n md : ℕ) → n + 3 < 15 → number eip (displacement_bytes md) v (log_at eip n) ≡ ok (displacement_at m (i + n) md) (log_at eip (n + displacement_bytes md))
  displaced n md h = by (eqb md 1) (eqb md 2)
    where
      by : (a b : Bool) → number eip (cond a 1 (cond b 4 0)) v (log_at eip n)
          ≡ ok (cond a (signed (at m (i + n))) (cond b (dword_at m (i + n)) 0)) (log_at eip (n + cond a 1 (cond b 4 0)))
      by true b = number_one n (omega arith)
      by false true = number_four n h
      by false false = let z : n + 0 ≡ n = omega arith in rw z (number_none n)

  -- ---- the operand

  at_sib : (md : ℕ) → after_sib eip md (at m (i + 2)) v (log_at eip 3) ≡ ok (sib_at m (i + 2) md) (log_at eip (2 + sib_bytes m (i + 2) md))
  unfolding after_sib sib_at sib_bytes
  at_sib md = by (is_bare md (at m (i + 2))) refl
    where
      next : i + 3 ≡ i + 2 + 1
      next = omega arith

      by : (b : Bool) → is_bare md (at m (i + 2)) ≡ b → after_sib eip md (at m (i + 2)) v (log_at eip 3) ≡ ok (sib_at m (i + 2) md) (log_at eip (2 + sib_bytes m (i + 2) md))
      by true e = rw (e, number_four 3 (omega arith), next)
      by false e =
          let n : 3 + displacement_bytes md ≡ 2 + (1 + displacement_bytes md) = omega arith in
          rw (e, displaced 3 md (omega arith), n, next)

  pub at_operand : (b : ℕ) → after_modrm eip b v (log_at eip 2) ≡ ok (operand_at m (i + 2) b) (log_at eip (2 + operand_bytes m (i + 2) b))
  unfolding after_modrm operand_at operand_bytes
  at_operand b = by (leb 192 b) refl (eqb (b % 8) 4) refl (eqb (b / 64) 0 && eqb (b % 8) 5) refl
    where
      by : (d : Bool) → leb 192 b ≡ d → (s : Bool) → eqb (b % 8) 4 ≡ s → (a : Bool) → (eqb (b / 64) 0 && eqb (b % 8) 5) ≡ a
          → after_modrm eip b v (log_at eip 2) ≡ ok (operand_at m (i + 2) b) (log_at eip (2 + operand_bytes m (i + 2) b))
      by true d s e a f = rw d
      by false d true e a f = rw (d, e, fetched 2 (omega arith), at_sib (b / 64))
      by false d false e true f = rw (d, e, f, number_four 2 (omega arith))
      by false d false e false f = rw (d, e, f, displaced 2 (b / 64) (omega arith))

  -- ---- the instruction

  abbrev o : ℕ
  o = at m i

  abbrev b₁ : ℕ
  b₁ = at m (i + 1)

  -- as the decoder tests it
  pub record Plain (c : Class) : Type 0 where
    pub is_class : class_of o ≡ c
    pub no_override : is_override c ≡ false
    pub no_escape : is_escape c ≡ false
    pub built : is_not_built c ≡ false
    pub defined : is_undefined c ≡ false

  pub own : (c : Class) → class_of o ≡ c → is_own c ≡ true → Plain c
  own NotBuilt h l = absurd (false≢true l)
  own Override h l = absurd (false≢true l)
  own Escape h l = absurd (false≢true l)
  own Undefined h l = absurd (false≢true l)
  own _ h l = record { is_class = h; no_override = refl; no_escape = refl; built = refl; defined = refl }

  pub with_modrm_lem : (c : Class) (x n : ℕ) → Plain c → has_modrm c ≡ true → undefined_form c b₁ ≡ false → unbuilt_form c b₁ ≡ false
      → number eip (immediate_bytes c o (reg_field b₁)) v (log_at eip (up_to m i b₁)) ≡ ok x (log_at eip n)
      → decode eip v (log_at eip 0)
      ≡ ok (record { family = family_of c (reg_field b₁); operation = operation_of c o (reg_field b₁); wide = is_wide c o; register = reg_field b₁; operand = operand_at m (i + 2) b₁; immediate = immediate_of c x; length = n }) (log_at eip n)
  unfolding decode opcode prefixed classed with_modrm judged finish
  with_modrm_lem c x n p h u w e =
      rw (fetched_to 0 1 i (omega arith) refl (omega arith), p.is_class, p.no_override, p.is_class, p.no_escape, p.is_class, p.built, p.defined, h, fetched 1 (omega arith), u, w, at_operand b₁, e)

  pub without_modrm : (c : Class) (x n : ℕ) → Plain c → has_modrm c ≡ false → has_offset c ≡ false → number eip (immediate_bytes c o 0) v (log_at eip 1) ≡ ok x (log_at eip n)
      → decode eip v (log_at eip 0)
      ≡ ok (record { family = family_of c 0; operation = operation_of c o 0; wide = is_wide c o; register = 0; operand = in_register (implied_register c o); immediate = immediate_of c x; length = n }) (log_at eip n)
  unfolding decode opcode prefixed classed finish
  without_modrm c x n p h k e = rw (fetched_to 0 1 i (omega arith) refl (omega arith), p.is_class, p.no_override, p.is_class, p.no_escape, p.is_class, p.built, p.defined, h, k, e)

-- ---- an operand's kind

pub operand_direct : (m : Mem) (j b : ℕ) → (operand_at m j b).direct ≡ leb 192 b
unfolding operand_at sib_at
operand_direct m j b = by (leb 192 b) (eqb (b % 8) 4) (eqb (b / 64) 0 && eqb (b % 8) 5) (is_bare (b / 64) (at m j))
  where
    by : (d s a f : Bool) → (cond d (in_register (b % 8)) (cond s (cond f (in_memory 8 (index_of (at m j)) (scale_of (at m j)) (dword_at m (j + 1))) (in_memory (at m j % 8) (index_of (at m j)) (scale_of (at m j)) (displacement_at m (j + 1) (b / 64))))
        (cond a (in_memory 8 8 1 (dword_at m j)) (in_memory (b % 8) 8 1 (displacement_at m j (b / 64)))))).direct ≡ d
    by true s a f = refl
    by false true a true = refl
    by false true a false = refl
    by false false true f = refl
    by false false false f = refl

pub operand_register : (m : Mem) (j b : ℕ) → leb 192 b ≡ true → (operand_at m j b).register ≡ b % 8
unfolding operand_at
operand_register m j b h = rw h
