-- Each form that is read is the instruction that its bytes are: what it means, whatever the registers hold, is the short form that the laws of
-- the quick way know.
-- Assumes nothing.
use Prim.Native.Nat.{ℕ, ◌+◌, ◌-◌, ◌/◌, ◌%◌, ◌<◌, ◌≤◌}
use mathlib.Core.Path.{◌≡◌, refl, ap, ◌∙◌}
use mathlib.Core.Bool.{Bool, true, false, cond, not, ◌&&◌, ◌||◌}
use mathlib.Core.List.{List, []}
use native.Mathlib.Omega.{arith}
use borrow.Author.Tests.{le-leb, lt-leb, le-ltb, leb-true, ne_eqb, eqb-true, eqb-false, ltb-false, not-true, not-false}
use lib.Dec.{ltb, leb, eqb}
use Rattle.alu.specs.declared.Status.{Status}
use Rattle.machine.specs.Record.{Mem, at, wrap, read_at}
use Rattle.machine.specs.Paging.{dword_at}
use Rattle.encoding.specs.declared.Class.{Class}
use Rattle.encoding.specs.declared.Class.TheVariants.{ArithmeticTo, ArithmeticFrom, TestTo, ArithmeticAccumulator, ArithmeticGroup, TestAccumulator, MoveRegister, LoadAddress, IncrementRegister, DecrementRegister, PushRegister, PopRegister, JumpIf, ReturnPlain}
use Rattle.encoding.specs.Encodings.{class_of}
use Rattle.operands.specs.Operands.{address}
use Rattle.decode.specs.Decode.{in_memory, displacement_bytes}
use Rattle.outcome.specs.Outcome.{file}
use Rattle.fetch.specs.Fetch.{signed}
use Rattle.shortcut.specs.Bytes.{displacement_at, operand_bytes}
use Rattle.shortcut.specs.Forms.{combines_to, combines_from, operation_of, spot_of, up_to, left_fast, to_fast, from_fast, number_fast, address_fast, number_at, places_fast, times_fast, double_fast, register_fast, load_fast, accumulator_fast, count_fast}
use Rattle.shortcut.proofs.Small.{and_left, and_right, or_left, or_right}
use Rattle.shortcut.proofs.Spots.{form_based, spot_memory}
use Rattle.shortcut.proofs.Taken.{taken_to, taken_from, taken_number, taken_address, taken_places, taken_times, taken_double, taken_push_number, taken_near, taken_far, taken_call, taken_load, taken_accumulator, taken_test, taken_inc, taken_dec, taken_push, taken_pop, taken_return, taken_jump}
use Rattle.forms.specs.declared.Form.{Form}
use Rattle.forms.specs.Forms.{reg, by_register, by_number, by_memory, meant, Small, ReadOk}

abbrev form : ℕ → ℕ → ℕ → ℕ → ℕ → Form
form k l a b n = record { kind = k; length = l; a = a; b = b; number = n }

-- ---- the groups of kinds

module _ (op l a b n : ℕ) (e : List ℕ) (s : Status) (eip : ℕ) (few : op < 16) where
  kind_register : meant (form op l a b n) e eip s ≡ by_register (form op l a b n) op e eip
  unfolding meant
  kind_register = let k : op / 16 ≡ 0 = omega (arith, few) in rw k refl

  kind_number : meant (form (16 + op) l a b n) e eip s ≡ by_number (form (16 + op) l a b n) op e eip
  unfolding meant
  kind_number = let k : (16 + op) / 16 ≡ 1 = omega (arith, few) in let z : (16 + op) - 16 ≡ op = omega arith in rw (k, z) refl

  kind_memory : meant (form (32 + op) l a b n) e eip s ≡ by_memory (form (32 + op) l a b n) op e eip
  unfolding meant
  kind_memory = let k : (32 + op) / 16 ≡ 2 = omega (arith, few) in let z : (32 + op) - 32 ≡ op = omega arith in rw (k, z) refl

-- ---- what the code's tests of two say

pub move_dword : (op b : ℕ) → (not (eqb op 9) || eqb (b % 2) 0) ≡ false → (op ≡ 9) × (b % 2 ≡ 1)
move_dword op b h =
    let z = not-false (eqb op 9) (or_left (not (eqb op 9)) (eqb (b % 2) 0) h) in
    let k : b % 2 ≡ 0 → ⊥ = eqb-false (b % 2) 0 (or_right (not (eqb op 9)) (eqb (b % 2) 0) h) in
    (eqb-true op 9 z, omega (arith, k))

pub register_dword : (md b : ℕ) → (ltb md 192 || eqb (b % 2) 0) ≡ false → (192 ≤ md) × (b % 2 ≡ 1)
register_dword md b h =
    let k : b % 2 ≡ 0 → ⊥ = eqb-false (b % 2) 0 (or_right (ltb md 192) (eqb (b % 2) 0) h) in
    (ltb-false md 192 (or_left (ltb md 192) (eqb (b % 2) 0) h), omega (arith, k))

-- ---- a register and a number beside it: register 8 is none, and 0

none_beside : (e : List ℕ) (b n : ℕ) → reg e 8 ≡ 0 → wrap (reg e b + n) ≡ address (file e) (in_memory b 8 1 n)
unfolding address
none_beside e b n z = let w : reg e b + n ≡ reg e b + reg e 8 + n = omega (arith, z) in ap wrap w

-- k is the mod field
pub near : (m : Mem) (i md k n : ℕ) → md < 192 → md / 64 ≡ k → (md % 8 ≡ 4 → ⊥) → (eqb k 0 && eqb (md % 8) 5) ≡ false → n ≡ displacement_at m (i + 2) k
    → ((e : List ℕ) → reg e 8 ≡ 0 → wrap (reg e (md % 8) + n) ≡ spot_of m e i md) × (2 + displacement_bytes k ≡ up_to m i md)
near m i md k n d h s g en = ((λ e z. (spot e z).0), (spot [] refl).1.0)
  where
    spot : (e : List ℕ) → reg e 8 ≡ 0 → (wrap (reg e (md % 8) + n) ≡ spot_of m e i md) × ((2 + displacement_bytes k ≡ up_to m i md) × (2 + displacement_bytes k ≤ 7))
    spot e z =
        let q = form_based m e (i + 2) md (wrap (reg e (md % 8) + n)) d k n h s g en (none_beside e (md % 8) n z) in
        spot_memory m e i md (wrap (reg e (md % 8) + n)) (2 + displacement_bytes k) d q.0 q.1

-- ---- two operands with ModRM

operation_few : (c : Class) (b : ℕ) → operation_of c b < 10
operation_few ArithmeticTo b = omega arith
operation_few ArithmeticFrom b = omega arith
operation_few TestTo b = omega arith
operation_few _ b = omega arith

pub under_ten : (c : Class) (op b : ℕ) → op ≡ operation_of c b → op < 10
under_ten c op b h = rw h (operation_few c b)

module _ (m : Mem) (i b md : ℕ) where
  module _ (op : ℕ) (e : List ℕ) (s : Status) (eip : ℕ) where
    to_direct : op < 10 → 192 ≤ md → b % 2 ≡ 1 → meant (form op 2 (md % 8) (md / 8 % 8) 0) e eip s ≡ to_fast m e eip i op b md
    unfolding left_fast spot_of operand_bytes read_at
    to_direct few d o = kind_register op 2 (md % 8) (md / 8 % 8) 0 e s eip (omega (arith, few)) ∙ rw (o, le-leb 192 md d) refl

    to_test : op ≡ 8 → 192 ≤ md → (b % 2 ≡ 1 → ⊥) → meant (form 74 2 (md % 8) (md / 8 % 8) 0) e eip s ≡ to_fast m e eip i op b md
    unfolding meant left_fast spot_of operand_bytes
    to_test z d o = rw (z, ne_eqb _ _ o, le-leb 192 md d) refl

    from_direct : op < 10 → 192 ≤ md → b % 2 ≡ 1 → meant (form op 2 (md / 8 % 8) (md % 8) 0) e eip s ≡ from_fast m e eip i op b md
    unfolding from_fast spot_of operand_bytes read_at
    from_direct few d o = kind_register op 2 (md / 8 % 8) (md % 8) 0 e s eip (omega (arith, few)) ∙ rw (o, le-leb 192 md d) refl

    module _ (u n : ℕ) (es : wrap (reg e (md % 8) + n) ≡ spot_of m e i md) (eu : u ≡ up_to m i md) (d : md < 192) where
      to_memory : op ≡ 9 → b % 2 ≡ 1 → meant (form 64 u (md / 8 % 8) (md % 8) n) e eip s ≡ to_fast m e eip i op b md
      unfolding meant left_fast read_at
      to_memory z o = rw (z, o, lt-leb 192 md d, es, eu) refl

      from_memory : op < 10 → b % 2 ≡ 1 → meant (form (32 + op) u (md / 8 % 8) (md % 8) n) e eip s ≡ from_fast m e eip i op b md
      unfolding from_fast read_at
      from_memory few o = kind_memory op u (md / 8 % 8) (md % 8) n e s eip (omega (arith, few)) ∙ rw (o, lt-leb 192 md d, es, eu) refl

      from_compare : op ≡ 7 → (b % 2 ≡ 1 → ⊥) → meant (form 72 u (md / 8 % 8) (md % 8) n) e eip s ≡ from_fast m e eip i op b md
      unfolding meant from_fast
      from_compare z o = rw (z, ne_eqb _ _ o, lt-leb 192 md d, es, eu) refl

      from_move : op ≡ 9 → (b % 2 ≡ 1 → ⊥) → meant (form 73 u (md / 8 % 8) (md % 8) n) e eip s ≡ from_fast m e eip i op b md
      unfolding meant from_fast
      from_move z o = rw (z, ne_eqb _ _ o, lt-leb 192 md d, es, eu) refl

      of_address : meant (form 71 u (md / 8 % 8) (md % 8) n) e eip s ≡ address_fast m e eip i md
      unfolding meant address_fast
      of_address = rw (es, eu) refl

  -- the fields are small
  small : (k l a x n : ℕ) → k < 128 → l < 16 → a < 8 → x < 8 → n < 4294967296 → Small (form k l a x n)
  small k l a x n hk hl ha hx hn = record { kind = hk; length = hl; a = ha; b = hx; number = hn }

  -- what a memory operand's number is: the spot, whatever the registers hold
  abbrev Spotted : ℕ → ℕ → Type 0
  Spotted u n = ((e : List ℕ) → reg e 8 ≡ 0 → wrap (reg e (md % 8) + n) ≡ spot_of m e i md) × (u ≡ up_to m i md)

  module _ (eb : b ≡ at m i) (em : md ≡ at m (i + 1)) (c : Class) (op : ℕ) (ec : c ≡ class_of b) (eo : op ≡ operation_of c b) where
    few : op < 10
    few = under_ten c op b eo

    module _ (h : combines_to c ≡ true) where
      pub read_to : 192 ≤ md → b % 2 ≡ 1 → ReadOk m i (form op 2 (md % 8) (md / 8 % 8) 0)
      read_to d o = (
        (λ e s eip _ _. taken_to m e s eip i b md c eb em ec _ h op eo (to_direct op e s eip few d o)),
        small _ _ _ _ _ (omega (arith, few)) (omega arith) (omega arith) (omega arith) (omega arith),
      )

      pub read_test : op ≡ 8 → 192 ≤ md → (b % 2 ≡ 1 → ⊥) → ReadOk m i (form 74 2 (md % 8) (md / 8 % 8) 0)
      read_test z d o = (
        (λ e s eip _ _. taken_to m e s eip i b md c eb em ec _ h op eo (to_test op e s eip z d o)),
        small _ _ _ _ _ (omega arith) (omega arith) (omega arith) (omega arith) (omega arith),
      )

      pub read_store : (u n : ℕ) → op ≡ 9 → md < 192 → b % 2 ≡ 1 → u ≤ 6 → n < 4294967296 → Spotted u n → ReadOk m i (form 64 u (md / 8 % 8) (md % 8) n)
      read_store u n z d o hu hn q = (
        (λ e s eip _ z₈. taken_to m e s eip i b md c eb em ec _ h op eo (to_memory op e s eip u n (q.0 e z₈) q.1 d z o)),
        small _ _ _ _ _ (omega arith) (omega (arith, hu)) (omega arith) (omega arith) hn,
      )

    module _ (h : combines_from c ≡ true) where
      pub read_from : 192 ≤ md → b % 2 ≡ 1 → ReadOk m i (form op 2 (md / 8 % 8) (md % 8) 0)
      read_from d o = (
        (λ e s eip _ _. taken_from m e s eip i b md c eb em ec _ h op eo (from_direct op e s eip few d o)),
        small _ _ _ _ _ (omega (arith, few)) (omega arith) (omega arith) (omega arith) (omega arith),
      )

      module _ (u n : ℕ) (d : md < 192) (hu : u ≤ 6) (hn : n < 4294967296) (q : Spotted u n) where
        pub read_load : b % 2 ≡ 1 → ReadOk m i (form (32 + op) u (md / 8 % 8) (md % 8) n)
        read_load o = (
          (λ e s eip _ z₈. taken_from m e s eip i b md c eb em ec _ h op eo (from_memory op e s eip u n (q.0 e z₈) q.1 d few o)),
          small _ _ _ _ _ (omega (arith, few)) (omega (arith, hu)) (omega arith) (omega arith) hn,
        )

        pub read_compare : op ≡ 7 → (b % 2 ≡ 1 → ⊥) → ReadOk m i (form 72 u (md / 8 % 8) (md % 8) n)
        read_compare z o = (
          (λ e s eip _ z₈. taken_from m e s eip i b md c eb em ec _ h op eo (from_compare op e s eip u n (q.0 e z₈) q.1 d z o)),
          small _ _ _ _ _ (omega arith) (omega (arith, hu)) (omega arith) (omega arith) hn,
        )

        pub read_move : op ≡ 9 → (b % 2 ≡ 1 → ⊥) → ReadOk m i (form 73 u (md / 8 % 8) (md % 8) n)
        read_move z o = (
          (λ e s eip _ z₈. taken_from m e s eip i b md c eb em ec _ h op eo (from_move op e s eip u n (q.0 e z₈) q.1 d z o)),
          small _ _ _ _ _ (omega arith) (omega (arith, hu)) (omega arith) (omega arith) hn,
        )

  module _ (eb : b ≡ at m i) (em : md ≡ at m (i + 1)) where
    pub read_address : (u n : ℕ) → class_of b ≡ LoadAddress → md < 192 → u ≤ 6 → n < 4294967296 → Spotted u n → ReadOk m i (form 71 u (md / 8 % 8) (md % 8) n)
    read_address u n h d hu hn q = (
      (λ e s eip _ z₈. taken_address m e s eip i b md (class_of b) eb em refl _ h d (of_address 0 e s eip u n (q.0 e z₈) q.1 d)),
      small _ _ _ _ _ (omega arith) (omega (arith, hu)) (omega arith) (omega arith) hn,
    )

    -- ---- on the operand by a number, where the operand is a register

    number_direct : (long : Bool) (n op : ℕ) (e : List ℕ) (s : Status) (eip : ℕ) → op < 8 → 192 ≤ md → b % 2 ≡ 1 → n ≡ number_at long m (i + 2)
        → meant (form (16 + op) (2 + cond long 4 1) (md % 8) 0 n) e eip s ≡ number_fast m e eip i op long b md
    unfolding left_fast spot_of operand_bytes read_at
    number_direct long n op e s eip few d o en =
        let k : op ≡ 9 → ⊥ = λ z. omega (arith, few, z) in
        kind_number op (2 + cond long 4 1) (md % 8) 0 n e s eip (omega (arith, few)) ∙ rw (o, le-leb 192 md d, ne_eqb op 9 k, en) refl

    read_number : (long : Bool) (n : ℕ) → b < 256 → class_of b ≡ ArithmeticGroup → 192 ≤ md → b % 2 ≡ 1 → long ≡ (eqb (b % 2) 1 && not (eqb b 0x83)) → n < 4294967296 → n ≡ number_at long m (i + 2)
        → 2 + cond long 4 1 < 16 → ReadOk m i (form (16 + md / 8 % 8) (2 + cond long 4 1) (md % 8) 0 n)
    read_number long n l h d o el hn en hl = (
      (λ e s eip _ _. taken_number m e s eip i b md (class_of b) eb em refl _ l (rw h refl) (md / 8 % 8) long (rw h refl) (rw h refl) el (number_direct long n (md / 8 % 8) e s eip (omega arith) d o en)),
      small _ _ _ _ _ (omega arith) hl (omega arith) (omega arith) hn,
    )

    pub read_byte : (n : ℕ) → b < 256 → class_of b ≡ ArithmeticGroup → 192 ≤ md → b ≡ 0x83 → n < 4294967296 → n ≡ signed (at m (i + 2)) → ReadOk m i (form (16 + md / 8 % 8) 3 (md % 8) 0 n)
    read_byte n l h d k hn en = read_number false n l h d (rw k refl) (rw k refl) hn en (omega arith)

    pub read_dword : (n : ℕ) → b < 256 → class_of b ≡ ArithmeticGroup → 192 ≤ md → b % 2 ≡ 1 → (b ≡ 0x83 → ⊥) → n < 4294967296 → n ≡ dword_at m (i + 2) → ReadOk m i (form (16 + md / 8 % 8) 6 (md % 8) 0 n)
    read_dword n l h d o k hn en = read_number true n l h d o (rw (o, ne_eqb b 0x83 k) refl) hn en (omega arith)

    -- ---- shifts and products

    -- the code's test: SHL, SHR or SAR
    shifts_built : (g : ℕ) → (leb 4 g && not (eqb g 6)) ≡ true → (ltb g 4 || eqb g 6) ≡ false
    shifts_built g h = rw (le-ltb g 4 (leb-true 4 g (and_left (leb 4 g) (not (eqb g 6)) h)), not-true (eqb g 6) (and_right (leb 4 g) (not (eqb g 6)) h)) refl

    kind_shift : (g l a n : ℕ) (e : List ℕ) (s : Status) (eip : ℕ) → g < 8 → meant (form (24 + g) l a 0 n) e eip s ≡ by_number (form (24 + g) l a 0 n) (8 + g) e eip
    unfolding meant
    kind_shift g l a n e s eip few = let k : (24 + g) / 16 ≡ 1 = omega (arith, few) in let z : (24 + g) - 16 ≡ 8 + g = omega arith in rw (k, z) refl

    -- no shift is MOV
    not_move : (g : ℕ) → (leb 4 g && not (eqb g 6)) ≡ true → eqb (8 + g) 9 ≡ false
    not_move g h = let k : 4 ≤ g = leb-true 4 g (and_left (leb 4 g) (not (eqb g 6)) h) in ne_eqb (8 + g) 9 (λ z. omega (arith, k, z))

    module _ (d : 192 ≤ md) where
      module _ (t : (leb 4 (md / 8 % 8) && not (eqb (md / 8 % 8) 6)) ≡ true) where
        places_number : (n : ℕ) (e : List ℕ) (s : Status) (eip : ℕ) → b ≡ 0xc1 → n ≡ signed (at m (i + 2)) → meant (form (24 + md / 8 % 8) 3 (md % 8) 0 n) e eip s ≡ places_fast m e eip i b md
        unfolding left_fast spot_of operand_bytes read_at
        places_number n e s eip k en = kind_shift (md / 8 % 8) 3 (md % 8) n e s eip (omega arith) ∙ rw (k, le-leb 192 md d, not_move (md / 8 % 8) t, en) refl

        places_one : (e : List ℕ) (s : Status) (eip : ℕ) → b ≡ 0xd1 → meant (form (24 + md / 8 % 8) 2 (md % 8) 0 1) e eip s ≡ places_fast m e eip i b md
        unfolding left_fast spot_of operand_bytes read_at
        places_one e s eip k = kind_shift (md / 8 % 8) 2 (md % 8) 1 e s eip (omega arith) ∙ rw (k, le-leb 192 md d, not_move (md / 8 % 8) t) refl

      abbrev Shifts : ℕ → Type 0
      Shifts n = (eqb b n && (leb 4 (md / 8 % 8) && not (eqb (md / 8 % 8) 6))) ≡ true

      opcode_of : (n : ℕ) → Shifts n → b ≡ n
      opcode_of n h = eqb-true b n (and_left (eqb b n) (leb 4 (md / 8 % 8) && not (eqb (md / 8 % 8) 6)) h)

      shifts_of : (n : ℕ) → Shifts n → (leb 4 (md / 8 % 8) && not (eqb (md / 8 % 8) 6)) ≡ true
      shifts_of n h = and_right (eqb b n) (leb 4 (md / 8 % 8) && not (eqb (md / 8 % 8) 6)) h

      pub read_places : (n : ℕ) → Shifts 0xc1 → n < 4294967296 → n ≡ signed (at m (i + 2)) → ReadOk m i (form (24 + md / 8 % 8) 3 (md % 8) 0 n)
      read_places n h hn en =
          let k = opcode_of 0xc1 h in
          let t = shifts_of 0xc1 h in (
            (λ e s eip _ _. taken_places m e s eip i b md eb em _ (rw k refl) (shifts_built (md / 8 % 8) t) (places_number t n e s eip k en)),
            small _ _ _ _ _ (omega arith) (omega arith) (omega arith) (omega arith) hn,
          )

      pub read_place : Shifts 0xd1 → ReadOk m i (form (24 + md / 8 % 8) 2 (md % 8) 0 1)
      read_place h =
          let k = opcode_of 0xd1 h in
          let t = shifts_of 0xd1 h in (
            (λ e s eip _ _. taken_places m e s eip i b md eb em _ (rw k refl) (shifts_built (md / 8 % 8) t) (places_one t e s eip k)),
            small _ _ _ _ _ (omega arith) (omega arith) (omega arith) (omega arith) (omega arith),
          )

      times_direct : (n : ℕ) (e : List ℕ) (s : Status) (eip : ℕ) → n ≡ dword_at m (i + 2) → meant (form 76 6 (md / 8 % 8) (md % 8) n) e eip s ≡ times_fast m e eip i true md
      unfolding meant times_fast spot_of operand_bytes read_at
      times_direct n e s eip en = rw (le-leb 192 md d, en) refl

      pub read_times : (n : ℕ) → b ≡ 0x69 → n < 4294967296 → n ≡ dword_at m (i + 2) → ReadOk m i (form 76 6 (md / 8 % 8) (md % 8) n)
      read_times n k hn en = (
        (λ e s eip _ _. taken_times m e s eip i b md eb em _ (rw k refl) true (rw k refl) (times_direct n e s eip en)),
        small _ _ _ _ _ (omega arith) (omega arith) (omega arith) (omega arith) hn,
      )

      double_direct : (e : List ℕ) (s : Status) (eip : ℕ) → meant (form 75 2 0 (md % 8) 0) e eip s ≡ double_fast e eip md
      unfolding meant double_fast read_at
      double_direct e s eip = refl

      pub read_double : (eqb b 0xf7 && eqb (md / 8 % 8) 4) ≡ true → ReadOk m i (form 75 2 0 (md % 8) 0)
      read_double h =
          let k = eqb-true b 0xf7 (and_left (eqb b 0xf7) (eqb (md / 8 % 8) 4) h) in
          let g = and_right (eqb b 0xf7) (eqb (md / 8 % 8) 4) h in (
            (λ e s eip _ _. taken_double m e s eip i b md eb em _ k (rw (le-leb 192 md d, g) refl) (double_direct e s eip)),
            small _ _ _ _ _ (omega arith) (omega arith) (omega arith) (omega arith) (omega arith),
          )

    -- ---- by opcode

    module _ (f : Form) (n : ℕ) (hn : n < 4294967296) where
      pub read_push_dword : b ≡ 0x68 → n ≡ dword_at m (i + 1) → f ≡ form 66 5 0 0 n → ReadOk m i f
      unfolding meant class_of
      read_push_dword k en ef = rw ef (
        (λ e s eip _ _. taken_push_number m e s eip i b md eb em _ 0x68 true n _ k refl refl hn en refl refl),
        small _ _ _ _ _ (omega arith) (omega arith) (omega arith) (omega arith) hn,
      )

      pub read_push_byte : b ≡ 0x6a → n ≡ signed md → f ≡ form 66 2 0 0 n → ReadOk m i f
      unfolding meant class_of
      read_push_byte k en ef = rw ef (
        (λ e s eip _ _. taken_push_number m e s eip i b md eb em _ 0x6a false n _ k refl refl hn (en ∙ ap signed em) refl refl),
        small _ _ _ _ _ (omega arith) (omega arith) (omega arith) (omega arith) hn,
      )

      pub read_call : b ≡ 0xe8 → n ≡ dword_at m (i + 1) → f ≡ form 68 5 0 0 n → ReadOk m i f
      unfolding meant
      read_call k en ef = rw ef (
        (λ e s eip _ _. taken_call m e s eip i b md eb em _ _ n _ k refl en refl refl),
        small _ _ _ _ _ (omega arith) (omega arith) (omega arith) (omega arith) hn,
      )

      pub read_far : b ≡ 0xe9 → n ≡ dword_at m (i + 1) → f ≡ form 69 5 0 0 n → ReadOk m i f
      unfolding meant
      read_far k en ef = rw ef (
        (λ e s eip _ _. taken_far m e s eip i b md eb em _ _ n _ k refl en refl refl),
        small _ _ _ _ _ (omega arith) (omega arith) (omega arith) (omega arith) hn,
      )

      pub read_near : b ≡ 0xeb → n ≡ signed md → f ≡ form 69 2 0 0 n → ReadOk m i f
      unfolding meant
      read_near k en ef = rw ef (
        (λ e s eip _ _. taken_near m e s eip i b md eb em _ _ n _ k refl en refl refl),
        small _ _ _ _ _ (omega arith) (omega arith) (omega arith) (omega arith) hn,
      )

    -- ---- by class

    odd : (n : ℕ) → (n % 2 ≡ 0 → ⊥) → n % 2 ≡ 1
    odd n h = omega (arith, h)

    module _ (f : Form) (c : Class) (ec : c ≡ class_of b) where
      module _ (n : ℕ) (hn : n < 4294967296) where
        accumulator_direct : (op : ℕ) (e : List ℕ) (s : Status) (eip : ℕ) → op < 9 → b % 2 ≡ 1 → n ≡ dword_at m (i + 1) → meant (form (16 + op) 5 0 0 n) e eip s ≡ accumulator_fast m e eip i op b
        unfolding register_fast read_at
        accumulator_direct op e s eip few o en =
            let k : op ≡ 9 → ⊥ = λ z. omega (arith, few, z) in
            kind_number op 5 0 0 n e s eip (omega (arith, few)) ∙ rw (o, ne_eqb op 9 k, en) refl

        pub read_accumulator : c ≡ ArithmeticAccumulator → (b % 2 ≡ 0 → ⊥) → n ≡ dword_at m (i + 1) → f ≡ form (16 + b / 8 % 8) 5 0 0 n → ReadOk m i f
        read_accumulator h t en ef = let o = odd b t in
            rw ef (
              (λ e s eip _ _. taken_accumulator m e s eip i b md c eb em ec _ h (accumulator_direct (b / 8 % 8) e s eip (omega arith) o en)),
              small _ _ _ _ _ (omega arith) (omega arith) (omega arith) (omega arith) hn,
            )

        pub read_test_number : c ≡ TestAccumulator → (b % 2 ≡ 0 → ⊥) → n ≡ dword_at m (i + 1) → f ≡ form 24 5 0 0 n → ReadOk m i f
        read_test_number h t en ef = let o = odd b t in
            rw ef (
              (λ e s eip _ _. taken_test m e s eip i b md c eb em ec _ h (accumulator_direct 8 e s eip (omega arith) o en)),
              small _ _ _ _ _ (omega arith) (omega arith) (omega arith) (omega arith) hn,
            )

        load_direct : (e : List ℕ) (s : Status) (eip : ℕ) → b / 8 % 2 ≡ 1 → n ≡ dword_at m (i + 1) → meant (form 25 5 (b % 8) 0 n) e eip s ≡ load_fast m eip i b
        unfolding meant register_fast
        load_direct e s eip o en = rw (o, en) refl

        pub read_load_number : c ≡ MoveRegister → (b / 8 % 2 ≡ 0 → ⊥) → n ≡ dword_at m (i + 1) → f ≡ form 25 5 (b % 8) 0 n → ReadOk m i f
        read_load_number h t en ef = let o = odd (b / 8) t in
            rw ef (
              (λ e s eip _ _. taken_load m e s eip i b md c eb em ec _ h (load_direct e s eip o en)),
              small _ _ _ _ _ (omega arith) (omega arith) (omega arith) (omega arith) hn,
            )

        pub read_jump : c ≡ JumpIf → b < 256 → n ≡ signed md → f ≡ form (48 + b % 16) 2 0 0 n → ReadOk m i f
        unfolding meant
        read_jump h l en ef =
            let k : (48 + b % 16) / 16 ≡ 3 = omega arith in
            let z : (48 + b % 16) - 48 ≡ b % 16 = omega arith in
            rw ef (
              (λ e s eip _ _. taken_jump m e s eip i b md c eb em ec (meant (form (48 + b % 16) 2 0 0 n) e eip s) h l (rw (k, z, en) refl)),
              small _ _ _ _ _ (omega arith) (omega arith) (omega arith) (omega arith) hn,
            )

      pub read_inc : c ≡ IncrementRegister → f ≡ form 26 1 (b % 8) 0 0 → ReadOk m i f
      unfolding meant count_fast
      read_inc h ef = rw ef ((λ e s eip _ _. taken_inc m e s eip i b md c eb em ec _ h refl), small _ _ _ _ _ (omega arith) (omega arith) (omega arith) (omega arith) (omega arith))

      pub read_dec : c ≡ DecrementRegister → f ≡ form 27 1 (b % 8) 0 0 → ReadOk m i f
      unfolding meant count_fast
      read_dec h ef = rw ef ((λ e s eip _ _. taken_dec m e s eip i b md c eb em ec _ h refl), small _ _ _ _ _ (omega arith) (omega arith) (omega arith) (omega arith) (omega arith))

      pub read_push : c ≡ PushRegister → f ≡ form 65 1 0 (b % 8) 0 → ReadOk m i f
      unfolding meant
      read_push h ef = rw ef ((λ e s eip l _. taken_push m e s eip i b md c eb em ec _ _ _ h l refl refl refl), small _ _ _ _ _ (omega arith) (omega arith) (omega arith) (omega arith) (omega arith))

      pub read_pop : c ≡ PopRegister → f ≡ form 67 1 (b % 8) 0 0 → ReadOk m i f
      unfolding meant
      read_pop h ef = rw ef ((λ e s eip _ _. taken_pop m e s eip i b md c eb em ec _ _ h refl refl), small _ _ _ _ _ (omega arith) (omega arith) (omega arith) (omega arith) (omega arith))

      pub read_return : c ≡ ReturnPlain → f ≡ form 70 1 0 0 0 → ReadOk m i f
      unfolding meant
      read_return h ef = rw ef ((λ e s eip _ _. taken_return m e s eip i b md c eb em ec _ _ h refl refl), small _ _ _ _ _ (omega arith) (omega arith) (omega arith) (omega arith) (omega arith))
