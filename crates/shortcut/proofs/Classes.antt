-- Which opcodes of one byte a class has: the table is looked through once.
-- Assumes nothing.
use Rattle.std.proofs.Common.{◌≡◌, ℕ, zero, suc, ◌-◌, ◌*◌, ◌/◌, ◌<◌, Bool, true, false, not, ◌&&◌, ◌||◌, eqb, refl, ap, arith, eqb-true}
use mathlib.Core.Bool.{false≢true}
use native.Mathlib.Decide.{ℕ_discrete}
use Rattle.encoding.specs.declared.Class.{Class}
use Rattle.encoding.specs.declared.Class.TheVariants.{ArithmeticGroup, MoveGroup, JumpIf}
use Rattle.encoding.specs.Encodings.{class_of}
use Rattle.shortcut.specs.Forms.{combines_to, combines_from, combines, operation_of, is_group}
use Rattle.shortcut.proofs.Small.{and_left, and_right}

abbrev below : (ℕ → Bool) → ℕ → Bool
below f zero = true
below f (suc n) = f n && below f n

each : (f : ℕ → Bool) (n : ℕ) → below f n ≡ true → (k : ℕ) → k < n → f k ≡ true
each f zero h k l = absurd (omega (arith, l))
each f (suc n) h k l = by (ℕ_discrete k n) (λ g. each f n (and_right (f n) (below f n) h) k g)
  where
    by : Dec (k ≡ n) → (k < n → f k ≡ true) → f k ≡ true
    by (yes z) r = rw z (and_left (f n) (below f n) h)
    by (no z) r = r (omega (arith, l, z))

abbrev implies : Bool → Bool → Bool
implies x y = not x || y

so : (x y : Bool) → implies x y ≡ true → x ≡ true → y ≡ true
so true y h k = h
so false y h k = absurd (false≢true k)

-- of these classes every opcode satisfies f
abbrev of_class : (Class → Bool) → (ℕ → Bool) → ℕ → Bool
of_class p f b = implies (p (class_of b)) (f b)

in_class : (p : Class → Bool) (f : ℕ → Bool) → below (of_class p f) 256 ≡ true → (b : ℕ) → b < 256 → p (class_of b) ≡ true → f b ≡ true
in_class p f h b l k = so (p (class_of b)) (f b) (each (of_class p f) 256 h b l) k

pub group_opcodes : (b : ℕ) → b < 256 → class_of b ≡ ArithmeticGroup → b / 4 ≡ 32
unfolding class_of
group_opcodes b l k = eqb-true (b / 4) 32 (in_class is_group (λ (x : ℕ). eqb (x / 4) 32) refl b l (ap is_group k))

abbrev is_move : Class → Bool
is_move MoveGroup = true
is_move _ = false

pub move_opcodes : (b : ℕ) → b < 256 → class_of b ≡ MoveGroup → b / 2 ≡ 99
unfolding class_of
move_opcodes b l k = eqb-true (b / 2) 99 (in_class is_move (λ (x : ℕ). eqb (x / 2) 99) refl b l (ap is_move k))

abbrev is_jump : Class → Bool
is_jump JumpIf = true
is_jump _ = false

pub jump_opcodes : (b : ℕ) → b < 256 → class_of b ≡ JumpIf → b / 16 ≡ 7
unfolding class_of
jump_opcodes b l k = eqb-true (b / 16) 7 (in_class is_jump (λ (x : ℕ). eqb (x / 16) 7) refl b l (ap is_jump k))

abbrev by_opcode : ℕ → Bool
by_opcode b = implies (combines (class_of b)) (eqb (b / 8 - b / 128 * 8) (operation_of (class_of b) b))

-- the operation is in the opcode
pub operation_is : (b : ℕ) (c : Class) → b < 256 → c ≡ class_of b → combines c ≡ true → b / 8 - b / 128 * 8 ≡ operation_of c b
unfolding class_of
operation_is b c l e h =
    let a : below by_opcode 256 ≡ true = refl in
    rw e (eqb-true (b / 8 - b / 128 * 8) (operation_of (class_of b) b) (so (combines (class_of b)) (eqb (b / 8 - b / 128 * 8) (operation_of (class_of b) b)) (each by_opcode 256 a b l) (rw e at h)))

pub to_combines : (c : Class) → combines_to c ≡ true → combines c ≡ true
to_combines c h = rw h

pub from_combines : (c : Class) → combines_from c ≡ true → combines c ≡ true
from_combines c h = or_yes (combines_to c) (combines_from c) h
  where
    or_yes : (x y : Bool) → y ≡ true → (x || y) ≡ true
    or_yes true y k = refl
    or_yes false y k = k
