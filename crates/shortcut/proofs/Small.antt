-- How many bytes an operand can have, and what the code's tests say of it.
-- Assumes nothing.
use Rattle.std.proofs.Common.{◌≡◌, ℕ, ◌/◌, ◌%◌, ◌≤◌, Bool, true, false, cond, not, ◌&&◌, ◌||◌, eqb, leb, ◌≢◌, sym, refl, arith, w32, Fits}
use mathlib.Core.Bool.{false≢true}
use borrow.Author.Tests.{eqb-false, not-true}
use Rattle.machine.specs.Record.{Mem, at}
use Rattle.decode.specs.Decode.{displacement_bytes}
use Rattle.shortcut.specs.Bytes.{is_bare, sib_bytes, operand_bytes}

-- ---- what a test that is made of two says of each

pub and_left : (x y : Bool) → (x && y) ≡ true → x ≡ true
and_left true y h = refl
and_left false y h = h

pub and_right : (x y : Bool) → (x && y) ≡ true → y ≡ true
and_right true y h = h
and_right false y h = absurd (false≢true h)

pub or_left : (x y : Bool) → (x || y) ≡ false → x ≡ false
or_left true y h = h
or_left false y h = refl

pub or_right : (x y : Bool) → (x || y) ≡ false → y ≡ false
or_right true y h = absurd (false≢true (sym h))
or_right false y h = h

-- a number that is another
pub other : (a b : ℕ) → not (eqb a b) ≡ true → a ≢ b
other a b h = eqb-false a b (not-true (eqb a b) h)

-- ---- bounds

pub cond_le : (b : Bool) (n : ℕ) {x y : ℕ} → x ≤ n → y ≤ n → cond b x y ≤ n
cond_le true n h k = h
cond_le false n h k = k

pub one_or_none : (b : Bool) → cond b 1 0 ≤ 1
one_or_none b = cond_le b 1 (omega arith) (omega arith)

pub four_or_one : (b : Bool) → cond b 4 1 ≤ 4
four_or_one b = cond_le b 4 (omega arith) (omega arith)

few : (md : ℕ) → displacement_bytes md ≤ 4
few md = cond_le (eqb md 1) 4 (omega arith) (cond_le (eqb md 2) 4 (omega arith) (omega arith))

sib_few : (m : Mem) (j md : ℕ) → sib_bytes m j md ≤ 5
unfolding sib_bytes
sib_few m j md = let h = few md in cond_le (is_bare md (at m j)) 5 (omega arith) (omega (arith, h))

pub operand_few : (m : Mem) (j b : ℕ) → operand_bytes m j b ≤ 5
unfolding operand_bytes
operand_few m j b =
    let h = few (b / 64) in
    cond_le (leb 192 b) 5 (omega arith)
    (cond_le (eqb (b % 8) 4) 5 (sib_few m j (b / 64)) (cond_le (eqb (b / 64) 0 && eqb (b % 8) 5) 5 (omega arith) (omega (arith, h))))

pub small_fits : (x : ℕ) → x ≤ 100 → Fits w32 x
small_fits x h = omega arith
