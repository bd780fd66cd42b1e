-- Each encoding that is taken: from the bytes that the code read to the instruction in its short form.
-- Assumes nothing.
use Rattle.std.proofs.Common.{◌≡◌, ℕ, ◌+◌, ◌/◌, ◌%◌, ◌<◌, ◌≤◌, Bool, true, false, cond, not, ◌&&◌, ◌||◌, eqb, ltb, leb, List, sym, refl, ap, ◌∙◌, arith, ltb-false, le-ltb, lt-ltb, eq-eqb, ne_eqb, eqb-true}
use mathlib.Core.Bool.{false≢true}
use borrow.Author.Tests.{lt-leb, eqb-false}
use Rattle.alu.specs.declared.Status.{Status}
use Rattle.conditions.specs.Conditions.{holds}
use Rattle.machine.specs.Record.{Mem, at, wrap, register, read_at}
use Rattle.machine.specs.Paging.{View, dword_at}
use Rattle.alu.specs.Arithmetic.{operate, operation, writes}
use Rattle.encoding.specs.declared.Class.{Class}
use Rattle.encoding.specs.declared.Class.TheVariants.{ArithmeticTo, ArithmeticFrom, ArithmeticAccumulator, ArithmeticGroup, TestTo, TestAccumulator, MoveTo, MoveFrom, MoveRegister, MoveGroup, LoadAddress, IncrementRegister, DecrementRegister, PushRegister, PushImmediate, PopRegister, ShiftImmediate, ShiftOne, ShiftCl, MultiplyImmediate, JumpIf, JumpBy, CallBy, ReturnPlain}
use Rattle.encoding.specs.declared.Family.TheVariants.{CombineTo, CombineFrom, CombineImmediate, ShiftBy, ShiftByCl, JumpOn}
use Rattle.encoding.specs.declared.Instruction.{Instruction}
use Rattle.encoding.specs.Encodings.{class_of}
use Rattle.encoding.specs.Attributes.{reg_field, has_modrm, undefined_form, unbuilt_form, is_wide, immediate_bytes, immediate_of, family_of, operation_of as operationIn, long_opcode}
use Rattle.machine.specs.Act.{ok}
use Rattle.fetch.specs.Fetch.{signed, number}
use Rattle.fetch.specs.Read.{log_at}
use Rattle.decode.specs.Decode.{decode}
use Rattle.execute.specs.Execute.{first, second, writes_operand, compute}
use Rattle.arithmetic.specs.Arithmetic.{do_combine_to, do_combine_immediate, do_shift}
use Rattle.outcome.specs.declared.Fast.{Fast}
use Rattle.shortcut.specs.Bytes.{Shows, operand_at}
use Rattle.outcome.specs.Outcome.{file}
use Rattle.shortcut.specs.Forms.{is_direct, is_odd, up_to, number_at, combines_to, combines_from, operation_of, is_group, by_immediate, places_at, places_fast, times_fast, double_fast, left_fast, to_fast, from_fast, number_fast, address_fast, register_fast, load_fast, accumulator_fast, count_fast, jump_fast, push_fast, pop_fast}
use Rattle.shortcut.specs.Shortcut.{Fits, core_from, Tidy, Idle, FastOk}
use Rattle.shortcut.proofs.Small.{operand_few, cond_le, and_left, and_right, or_left, or_right}
use Rattle.shortcut.proofs.Classes.{group_opcodes, move_opcodes, jump_opcodes}
use Rattle.shortcut.proofs.Decoded.{number_none, number_one, number_four, number_long, is_own, own, with_modrm_lem, without_modrm}
use Rattle.shortcut.proofs.Fitting.{below_eight, combining_at, left_fits, first_to, first_number, from_fits, address_fits, Shifting, shift_fits, times_fits}
use Rattle.shortcut.proofs.Doubling.{double_fits}
use Rattle.shortcut.proofs.Singles.{naming, register_fits, inc_fits, dec_fits, jump_fits, jump_on_lem, jump_off, push_fits, push_number_fits, call_fits, pop_fits, return_fits}

pub not_taken : (m : Mem) (e : List ℕ) (s : Status) (eip i : ℕ) (p : Fast) → (p.taken ≡ false) × ((p.jumps ≡ false) × (p.doubling ≡ false)) → FastOk m e s eip i p
not_taken m e s eip i p h = record { fits = λ t. absurd (false≢true (sym h.0 ∙ t)); tidy = λ t. absurd (false≢true (sym h.0 ∙ t)); idle = λ t. absurd (false≢true (sym h.1.0 ∙ t)); doubles = λ t. absurd (false≢true (sym h.1.1 ∙ t)) }

-- ---- the stack and memory are used as the code's ends expect

-- no store
few_tidy : (p : Fast) → p.access ≤ 2 → Tidy p
few_tidy p h = record { stacking = λ k. absurd (omega (arith, h, k)); landing = λ k. absurd (omega (arith, h, k)) }

-- a push, a pop or a return
stack_tidy : (p : Fast) → p.op ≡ 9 → p.wide ≡ true → 4 ≤ p.access → Tidy p
stack_tidy p o w h = record { stacking = λ _. (o, w); landing = λ k. absurd (omega (arith, h, k)) }

-- on the operand
left_tidy : (m : Mem) (e : List ℕ) (eip i op b md y n : ℕ) → Tidy (left_fast m e eip i op b md y n)
unfolding left_fast
left_tidy m e eip i op b md y n = by (is_direct md) refl (writes op) refl
  where
    by : (d : Bool) → is_direct md ≡ d → (w : Bool) → writes op ≡ w → Tidy (left_fast m e eip i op b md y n)
    by true h w k = few_tidy _ (rw h (omega arith))
    by false h true k = record { stacking = λ f. absurd (omega (arith, rw (h, k) at f)); landing = λ _. rw h }
    by false h false k = few_tidy _ (rw (h, k) (omega arith))

-- what fits and is no jump; and a jump that fits
module _ (m : Mem) (e : List ℕ) (s : Status) (eip i : ℕ) (p : Fast) where
  abbrev Fitting : Type 0
  Fitting = (int dir : Bool) (v : View) → Shows v m eip i → Fits v (core_from e eip s int dir) p

  working : (p.jumps ≡ false) × (p.doubling ≡ false) → Tidy p → Fitting → FastOk m e s eip i p
  working h t f = record { fits = λ _. f; tidy = λ _. t; idle = λ t. absurd (false≢true (sym h.0 ∙ t)); doubles = λ t. absurd (false≢true (sym h.1 ∙ t)) }

  jumping : Idle p → p.doubling ≡ false → Fitting → FastOk m e s eip i p
  jumping h n f = record { fits = λ _. f; tidy = λ _. few_tidy p (rw h.0 (omega arith)); idle = λ _. h; doubles = λ t. absurd (false≢true (sym n ∙ t)) }

-- the code's test: SHL, SHR or SAR
shifting : (g : ℕ) → g < 8 → (ltb g 4 || eqb g 6) ≡ false → Shifting g
shifting g h t =
    let f : 4 ≤ g = ltb-false g 4 (or_left (ltb g 4) (eqb g 6) t) in
    let n : eqb g 6 ≡ false = or_right (ltb g 4) (eqb g 6) t in
    let e14 : 8 + g ≡ 14 → ⊥ = λ z. false≢true (sym n ∙ eq-eqb g 6 (omega (arith, z))) in
    let e10 : 8 + g ≡ 10 → ⊥ = λ z. omega (arith, f, z) in
    let e11 : 8 + g ≡ 11 → ⊥ = λ z. omega (arith, f, z) in
    let e7 : 8 + g ≡ 7 → ⊥ = λ z. omega (arith, f, z) in
    let e8 : 8 + g ≡ 8 → ⊥ = λ z. omega (arith, f, z) in
    let w : 10 ≤ 8 + g = omega (arith, f) in
    record {
      low = le-ltb (8 + g) 10 w;
      inc = ne_eqb (8 + g) 10 e10;
      dec = ne_eqb (8 + g) 11 e11;
      imul = ne_eqb (8 + g) 14 e14;
      writing = rw (ne_eqb (8 + g) 7 e7, ne_eqb (8 + g) 8 e8);
      back = omega (arith, h);
    }

-- an operation of two operands is below ten
under_ten : (x : ℕ) → ltb (x % 8) 10 ≡ true
under_ten x = let h : x % 8 < 10 = omega arith in lt-ltb (x % 8) 10 h

module _ (m : Mem) (e : List ℕ) (s : Status) (eip i : ℕ) where
  abbrev b : ℕ
  b = at m i

  abbrev md : ℕ
  md = at m (i + 1)

  -- ---- with ModRM

  -- what the decoder reads, whatever shows the bytes
  abbrev Reads : Instruction → ℕ → Type 0
  Reads r n = (v : View) → Shows v m eip i → decode eip v (log_at eip 0) ≡ ok r (log_at eip n)

  -- a class with ModRM, no immediate and no form that is refused
  bare : (c : Class) → class_of b ≡ c → is_own c ≡ true → has_modrm c ≡ true → undefined_form c md ≡ false → unbuilt_form c md ≡ false → immediate_bytes c b (reg_field md) ≡ 0
      → Reads
      (record { family = family_of c (reg_field md); operation = operationIn c b (reg_field md); wide = is_wide c b; register = reg_field md; operand = operand_at m (i + 2) md; immediate = immediate_of c 0; length = up_to m i md })
      (up_to m i md)
  bare c h l r u w n v sh = with_modrm_lem v m eip i sh c 0 _ (own v m eip i sh c h l) r u w (rw n (number_none v m eip i sh _))

  to_read : (op : ℕ) → ltb op 10 ≡ true → Reads (combining_at m i CombineTo op 0 (up_to m i md)) (up_to m i md) → FastOk m e s eip i (to_fast m e eip i op b md)
  unfolding second compute do_combine_to left_fast
  to_read op low de = working m e s eip i _ (refl, refl) (left_tidy m e eip i op b md _ _) λ int dir v sh.
      left_fits v m e s eip i int dir CombineTo op 0 _ (up_to m i md) low (de v sh) (λ _ _. refl) (first_to v m e s eip i int dir _ _ _) refl (λ a. refl)

  to_arithmetic : class_of b ≡ ArithmeticTo → FastOk m e s eip i (to_fast m e eip i (b / 8 % 8) b md)
  unfolding family_of operationIn
  to_arithmetic h = to_read (b / 8 % 8) (under_ten (b / 8)) (bare ArithmeticTo h refl refl refl refl refl)

  to_test : class_of b ≡ TestTo → FastOk m e s eip i (to_fast m e eip i 8 b md)
  unfolding family_of operationIn
  to_test h = to_read 8 refl (bare TestTo h refl refl refl refl refl)

  to_move : class_of b ≡ MoveTo → FastOk m e s eip i (to_fast m e eip i 9 b md)
  unfolding family_of operationIn
  to_move h = to_read 9 refl (bare MoveTo h refl refl refl refl refl)

  from_read : (op : ℕ) → ltb op 10 ≡ true → Reads (combining_at m i CombineFrom op 0 (up_to m i md)) (up_to m i md) → FastOk m e s eip i (from_fast m e eip i op b md)
  unfolding from_fast
  from_read op low de = working m e s eip i _ (refl, refl) (few_tidy _ (cond_le (is_direct md) 2 (omega arith) (omega arith))) λ int dir v sh. from_fits v m e s eip i int dir op 0 _ low refl (de v sh)

  from_arithmetic : class_of b ≡ ArithmeticFrom → FastOk m e s eip i (from_fast m e eip i (b / 8 % 8) b md)
  unfolding family_of operationIn
  from_arithmetic h = from_read (b / 8 % 8) (under_ten (b / 8)) (bare ArithmeticFrom h refl refl refl refl refl)

  from_move : class_of b ≡ MoveFrom → FastOk m e s eip i (from_fast m e eip i 9 b md)
  unfolding family_of operationIn
  from_move h = from_read 9 refl (bare MoveFrom h refl refl refl refl refl)

  load_address : class_of b ≡ LoadAddress → is_direct md ≡ false → FastOk m e s eip i (address_fast m e eip i md)
  unfolding family_of operationIn address_fast
  load_address h mem = working m e s eip i _ (refl, refl) (few_tidy _ (omega arith)) λ int dir v sh.
      address_fits v m e s eip i int dir (b % 16) 0 _ refl mem
      (bare LoadAddress h refl refl (rw mem) refl refl v sh)

  -- an immediate after the operand
  number_read : (op : ℕ) (long : Bool) → ltb op 10 ≡ true → Reads (combining_at m i CombineImmediate op (number_at long m (i + up_to m i md)) (up_to m i md + cond long 4 1)) (up_to m i md + cond long 4 1)
      → FastOk m e s eip i (number_fast m e eip i op long b md)
  unfolding second compute do_combine_immediate left_fast
  number_read op long low de = working m e s eip i _ (refl, refl) (left_tidy m e eip i op b md _ _) λ int dir v sh.
      left_fits v m e s eip i int dir CombineImmediate op (number_at long m (i + up_to m i md)) _ (up_to m i md + cond long 4 1) low (de v sh) (λ _ _. refl) (first_number v m e s eip i int dir _ _ _) refl (λ a. refl)

  after_operand : (long : Bool) (v : View) → Shows v m eip i
      → number eip (cond long 4 1) v (log_at eip (up_to m i md)) ≡ ok (number_at long m (i + up_to m i md)) (log_at eip (up_to m i md + cond long 4 1))
  after_operand long v sh = let few = operand_few m (i + 2) md in number_long v m eip i sh long (up_to m i md) (omega (arith, few))

  number_group : (long : Bool) → class_of b ≡ ArithmeticGroup → long_opcode b ≡ long → FastOk m e s eip i (number_fast m e eip i (md / 8 % 8) long b md)
  unfolding family_of operationIn
  number_group long h l = number_read (md / 8 % 8) long (under_ten (md / 8)) λ v sh.
      with_modrm_lem v m eip i sh ArithmeticGroup _ _ (own v m eip i sh ArithmeticGroup h refl) refl refl refl (rw l (after_operand long v sh))

  -- another reg field is undefined
  number_move : class_of b ≡ MoveGroup → md / 8 % 8 ≡ 0 → FastOk m e s eip i (number_fast m e eip i 9 (is_odd b) b md)
  unfolding family_of operationIn
  number_move h z = number_read 9 (is_odd b) refl λ v sh.
      with_modrm_lem v m eip i sh MoveGroup _ _ (own v m eip i sh MoveGroup h refl) refl (rw (eq-eqb _ _ z)) refl (after_operand (is_odd b) v sh)

  -- ---- shifts and products

  abbrev g : ℕ
  g = md / 8 % 8

  module _ (by : Shifting g) (built : (ltb g 4 || eqb g 6) ≡ false) where
    -- whatever the opcode, in n bytes: by CL (true), or by the immediate x
    places_read : (cl : Bool) (x n : ℕ) → is_odd b ≡ true → places_at b m e (i + up_to m i md) ≡ cond cl (read_at false (file e) 1) x → up_to m i md + cond (eqb b 0xc1) 1 0 ≡ n
        → Reads (combining_at m i (cond cl ShiftByCl ShiftBy) g x n) n → FastOk m e s eip i (places_fast m e eip i b md)
    unfolding left_fast first second writes_operand compute do_shift read_at
    places_read true x n odd ey en de = working m e s eip i _ (refl, refl) (left_tidy m e eip i _ b md _ _) λ int dir v sh.
        rw (ey, en) (shift_fits v m e s eip i int dir ShiftByCl x (read_at false (file e) 1) n odd by (de v sh) (λ _ _. refl) refl refl (λ a. rw odd))
    places_read false x n odd ey en de = working m e s eip i _ (refl, refl) (left_tidy m e eip i _ b md _ _) λ int dir v sh.
        rw (ey, en) (shift_fits v m e s eip i int dir ShiftBy x x n odd by (de v sh) (λ _ _. refl) refl refl (λ a. rw odd))

    places_193 : b ≡ 0xc1 → FastOk m e s eip i (places_fast m e eip i b md)
    unfolding family_of operationIn class_of
    places_193 h =
        let few = operand_few m (i + 2) md in
        places_read false (signed (at m (i + up_to m i md))) (up_to m i md + 1) (rw h) (rw h) (rw h) λ v sh.
        with_modrm_lem v m eip i sh ShiftImmediate _ _ (own v m eip i sh ShiftImmediate (ap class_of h) refl) refl refl built (rw h (number_one v m eip i sh (up_to m i md) (omega (arith, few))))

    places_209 : b ≡ 0xd1 → FastOk m e s eip i (places_fast m e eip i b md)
    unfolding family_of operationIn class_of
    places_209 h = places_read false 1 (up_to m i md) (rw h) (rw h) (rw h (omega arith)) (bare ShiftOne (ap class_of h) refl refl refl built refl)

    places_211 : b ≡ 0xd3 → FastOk m e s eip i (places_fast m e eip i b md)
    unfolding family_of operationIn class_of
    places_211 h = places_read true 0 (up_to m i md) (rw h) (rw h) (rw h (omega arith)) (bare ShiftCl (ap class_of h) refl refl refl built refl)

  times_number : (long : Bool) → class_of b ≡ MultiplyImmediate → long_opcode b ≡ long → FastOk m e s eip i (times_fast m e eip i long md)
  unfolding family_of operationIn times_fast
  times_number long h l = working m e s eip i _ (refl, refl) (few_tidy _ (cond_le (is_direct md) 2 (omega arith) (omega arith))) λ int dir v sh.
      let few = operand_few m (i + 2) md in
      times_fits v m e s eip i int dir (b % 16) _ (up_to m i md + cond long 4 1) long refl refl
      (with_modrm_lem v m eip i sh MultiplyImmediate _ _ (record { is_class = h; no_override = refl; no_escape = refl; built = refl; defined = refl }) refl refl refl (rw l (number_long v m eip i sh long (up_to m i md) (omega (arith, few)))))

  double_247 : b ≡ 0xf7 → is_direct md ≡ true → g ≡ 4 → FastOk m e s eip i (double_fast e eip md)
  unfolding class_of double_fast
  double_247 h d r = record {
    fits = λ t. absurd (false≢true t);
    tidy = λ t. absurd (false≢true t);
    idle = λ t. absurd (false≢true t);
    doubles = λ _. (refl, λ int dir v sh. double_fits v m e s eip i int dir (ap class_of h) (rw h) d r sh);
  }

  -- ---- without

  load_register : class_of b ≡ MoveRegister → FastOk m e s eip i (load_fast m eip i b)
  unfolding family_of operationIn operate operation register_fast
  load_register h = working m e s eip i _ (refl, refl) (few_tidy _ (omega arith)) λ int dir v sh.
      register_fits v m e s eip i int dir 9 0 (b % 8) (eqb (b / 8 % 2) 1) refl (below_eight b) (λ _. refl)
      (without_modrm v m eip i sh MoveRegister _ _ (own v m eip i sh MoveRegister h refl) refl refl (number_long v m eip i sh (eqb (b / 8 % 2) 1) 1 (omega arith)))

  accumulator_read : (op : ℕ) → ltb op 10 ≡ true → Reads (naming CombineImmediate op (is_odd b) 0 (number_at (is_odd b) m (i + 1)) (1 + cond (is_odd b) 4 1)) (1 + cond (is_odd b) 4 1)
      → FastOk m e s eip i (accumulator_fast m e eip i op b)
  unfolding register_fast
  accumulator_read op low de = working m e s eip i _ (refl, refl) (few_tidy _ (omega arith)) λ int dir v sh. register_fits v m e s eip i int dir op _ 0 (is_odd b) low refl (λ _. refl) (de v sh)

  accumulator_arithmetic : class_of b ≡ ArithmeticAccumulator → FastOk m e s eip i (accumulator_fast m e eip i (b / 8 % 8) b)
  unfolding family_of operationIn
  accumulator_arithmetic h = accumulator_read (b / 8 % 8) (under_ten (b / 8)) λ v sh.
      without_modrm v m eip i sh ArithmeticAccumulator _ _ (own v m eip i sh ArithmeticAccumulator h refl) refl refl (number_long v m eip i sh (is_odd b) 1 (omega arith))

  accumulator_test : class_of b ≡ TestAccumulator → FastOk m e s eip i (accumulator_fast m e eip i 8 b)
  unfolding family_of operationIn
  accumulator_test h = accumulator_read 8 refl λ v sh.
      without_modrm v m eip i sh TestAccumulator _ _ (own v m eip i sh TestAccumulator h refl) refl refl (number_long v m eip i sh (is_odd b) 1 (omega arith))

  inc_register : class_of b ≡ IncrementRegister → FastOk m e s eip i (count_fast e eip 10 b)
  unfolding family_of operationIn count_fast
  inc_register h = working m e s eip i _ (refl, refl) (few_tidy _ (omega arith)) λ int dir v sh.
      inc_fits v m e s eip i int dir 0
      (without_modrm v m eip i sh IncrementRegister 0 1 (own v m eip i sh IncrementRegister h refl) refl refl (number_none v m eip i sh 1))

  dec_register : class_of b ≡ DecrementRegister → FastOk m e s eip i (count_fast e eip 11 b)
  unfolding family_of operationIn count_fast
  dec_register h = working m e s eip i _ (refl, refl) (few_tidy _ (omega arith)) λ int dir v sh.
      dec_fits v m e s eip i int dir 0
      (without_modrm v m eip i sh DecrementRegister 0 1 (own v m eip i sh DecrementRegister h refl) refl refl (number_none v m eip i sh 1))

  push_register : class_of b ≡ PushRegister → register (file e) (b % 8) < 4294967296 → FastOk m e s eip i (push_fast e (register (file e) (b % 8)) (wrap (eip + 1)))
  unfolding family_of operationIn push_fast
  push_register h y = working m e s eip i _ (refl, refl) (stack_tidy _ refl refl (omega arith)) λ int dir v sh.
      push_fits v m e s eip i int dir (b % 16) (b % 8) 0 1 y
      (without_modrm v m eip i sh PushRegister 0 1 (own v m eip i sh PushRegister h refl) refl refl (number_none v m eip i sh 1))

  push_immediate : (long : Bool) → class_of b ≡ PushImmediate → long_opcode b ≡ long → number_at long m (i + 1) < 4294967296
      → FastOk m e s eip i (push_fast e (number_at long m (i + 1)) (wrap (eip + (1 + cond long 4 1))))
  unfolding family_of operationIn push_fast
  push_immediate long h l y = working m e s eip i _ (refl, refl) (stack_tidy _ refl refl (omega arith)) λ int dir v sh.
      push_number_fits v m e s eip i int dir (b % 16) 0 (number_at long m (i + 1)) (1 + cond long 4 1) y
      (without_modrm v m eip i sh PushImmediate _ _ (own v m eip i sh PushImmediate h refl) refl refl (rw l (number_long v m eip i sh long 1 (omega arith))))

  pop_register : class_of b ≡ PopRegister → FastOk m e s eip i (pop_fast e 5 (b % 8) (wrap (eip + 1)))
  unfolding family_of operationIn pop_fast
  pop_register h = working m e s eip i _ (refl, refl) (stack_tidy _ refl refl (omega arith)) λ int dir v sh.
      pop_fits v m e s eip i int dir (b % 16) 0 1
      (without_modrm v m eip i sh PopRegister 0 1 (own v m eip i sh PopRegister h refl) refl refl (number_none v m eip i sh 1))

  return_plain : class_of b ≡ ReturnPlain → FastOk m e s eip i (pop_fast e 6 8 (wrap (eip + 1)))
  unfolding family_of operationIn pop_fast
  return_plain h = working m e s eip i _ (refl, refl) (stack_tidy _ refl refl (omega arith)) λ int dir v sh.
      return_fits v m e s eip i int dir (b % 16) 0 1
      (without_modrm v m eip i sh ReturnPlain 0 1 (own v m eip i sh ReturnPlain h refl) refl refl (number_none v m eip i sh 1))

  -- ---- jumps and calls

  jump_if : class_of b ≡ JumpIf → long_opcode b ≡ false → FastOk m e s eip i (jump_fast (cond (holds (b % 16) s) (wrap (wrap (eip + 2) + signed md)) (wrap (eip + 2))))
  unfolding family_of operationIn jump_fast
  jump_if h l = jumping m e s eip i _ (refl, (refl, refl)) refl λ int dir v sh.
      by int dir v (holds (b % 16) s) refl
      (without_modrm v m eip i sh JumpIf (signed md) 2 (own v m eip i sh JumpIf h refl) refl refl (rw l (number_one v m eip i sh 1 (omega arith))))
    where
      by : (int dir : Bool) (v : View) (c : Bool) → holds (b % 16) s ≡ c → decode eip v (log_at eip 0) ≡ ok (naming JumpOn (b % 16) true 0 (signed md) 2) (log_at eip 2)
          → Fits v (core_from e eip s int dir) (jump_fast (cond (holds (b % 16) s) (wrap (wrap (eip + 2) + signed md)) (wrap (eip + 2))))
      by int dir v true y de = rw y (jump_on_lem v m e s eip i int dir (b % 16) 0 (signed md) 2 y de)
      by int dir v false y de = rw y (jump_off v m e s eip i int dir (b % 16) 0 (signed md) 2 y de)

  jump_235 : b ≡ 235 → FastOk m e s eip i (jump_fast (wrap (wrap (eip + 2) + signed md)))
  unfolding family_of operationIn class_of jump_fast
  jump_235 h = jumping m e s eip i _ (refl, (refl, refl)) refl λ int dir v sh.
      jump_fits v m e s eip i int dir (b % 16) 0 (signed md) 2
      (without_modrm v m eip i sh JumpBy (signed md) 2 (own v m eip i sh JumpBy (ap class_of h) refl) refl refl (rw h (number_one v m eip i sh 1 (omega arith))))

  jump_233 : b ≡ 233 → FastOk m e s eip i (jump_fast (wrap (wrap (eip + 5) + dword_at m (i + 1))))
  unfolding family_of operationIn class_of jump_fast
  jump_233 h = jumping m e s eip i _ (refl, (refl, refl)) refl λ int dir v sh.
      jump_fits v m e s eip i int dir (b % 16) 0 (dword_at m (i + 1)) 5
      (without_modrm v m eip i sh JumpBy (dword_at m (i + 1)) 5 (own v m eip i sh JumpBy (ap class_of h) refl) refl refl (rw h (number_four v m eip i sh 1 (omega arith))))

  call_232 : b ≡ 232 → FastOk m e s eip i (push_fast e (wrap (eip + 5)) (wrap (wrap (eip + 5) + dword_at m (i + 1))))
  unfolding family_of operationIn class_of push_fast
  call_232 h = working m e s eip i _ (refl, refl) (stack_tidy _ refl refl (omega arith)) λ int dir v sh.
      call_fits v m e s eip i int dir (b % 16) 0 (dword_at m (i + 1)) 5
      (without_modrm v m eip i sh CallBy (dword_at m (i + 1)) 5 (own v m eip i sh CallBy (ap class_of h) refl) refl refl (rw h (number_four v m eip i sh 1 (omega arith))))

  -- ---- from what the code read

  module _ (b' md' : ℕ) (c' : Class) (eb : b' ≡ at m i) (em : md' ≡ at m (i + 1)) (ec : c' ≡ class_of b') (p : Fast) where
    class : (k : Class) → c' ≡ k → class_of (at m i) ≡ k
    class k h = ap class_of (sym eb) ∙ sym ec ∙ h

    pub taken_to : combines_to c' ≡ true → (op : ℕ) → op ≡ operation_of c' b' → p ≡ to_fast m e eip i op b' md' → FastOk m e s eip i p
    taken_to h op eo ep = by c' refl h
      where
        at_class : (k : Class) → c' ≡ k → FastOk m e s eip i (to_fast m e eip i (operation_of k (at m i)) (at m i) (at m (i + 1))) → FastOk m e s eip i p
        at_class k hk f = rw (ep, eo, hk, eb, em) f

        by : (k : Class) → c' ≡ k → combines_to k ≡ true → FastOk m e s eip i p
        by ArithmeticTo x t = at_class ArithmeticTo x (to_arithmetic (class ArithmeticTo x))
        by TestTo x t = at_class TestTo x (to_test (class TestTo x))
        by MoveTo x t = at_class MoveTo x (to_move (class MoveTo x))
        by _ x t = absurd (false≢true t)

    pub taken_from : combines_from c' ≡ true → (op : ℕ) → op ≡ operation_of c' b' → p ≡ from_fast m e eip i op b' md' → FastOk m e s eip i p
    taken_from h op eo ep = by c' refl h
      where
        at_class : (k : Class) → c' ≡ k → FastOk m e s eip i (from_fast m e eip i (operation_of k (at m i)) (at m i) (at m (i + 1))) → FastOk m e s eip i p
        at_class k hk f = rw (ep, eo, hk, eb, em) f

        by : (k : Class) → c' ≡ k → combines_from k ≡ true → FastOk m e s eip i p
        by ArithmeticFrom x t = at_class ArithmeticFrom x (from_arithmetic (class ArithmeticFrom x))
        by MoveFrom x t = at_class MoveFrom x (from_move (class MoveFrom x))
        by _ x t = absurd (false≢true t)

    pub taken_address : c' ≡ LoadAddress → md' < 192 → p ≡ address_fast m e eip i md' → FastOk m e s eip i p
    taken_address h d ep = rw (ep, em) (load_address (class LoadAddress h) (rw (← em) (lt-leb 192 md' d)))

    -- 80 to 83, or MOV by C6 and C7
    pub taken_number : b' < 256 → by_immediate c' ≡ true → (op : ℕ) (long : Bool) → (is_group c' || eqb (md' / 8 % 8) 0) ≡ true → op ≡ cond (is_group c') (md' / 8 % 8) 9
        → long ≡ (is_odd b' && not (eqb b' 0x83)) → p ≡ number_fast m e eip i op long b' md' → FastOk m e s eip i p
    taken_number small hc op long ht eo el ep = by c' refl hc
      where
        at_group : c' ≡ ArithmeticGroup → (n : ℕ) (l : Bool) → b' ≡ n → long_opcode n ≡ l → (is_odd n && not (eqb n 0x83)) ≡ l → FastOk m e s eip i p
        at_group g n l k f w =
            let o : op ≡ md' / 8 % 8 = rw g at eo in
            let u : long ≡ l = rw (k, w) at el in
            rw (ep, o, u, eb, em) (number_group l (class ArithmeticGroup g) (ap long_opcode (sym eb ∙ k) ∙ f))

        at_move : c' ≡ MoveGroup → md' / 8 % 8 ≡ 0 → (n : ℕ) → b' ≡ n → (is_odd n && not (eqb n 0x83)) ≡ is_odd n → FastOk m e s eip i p
        at_move g z n k w =
            let o : op ≡ 9 = rw g at eo in
            let u : long ≡ is_odd b' = rw k (rw (k, w) at el) in
            rw (ep, o, u, eb, em) (number_move (class MoveGroup g) (rw em at z))

        group : c' ≡ ArithmeticGroup → b' / 4 ≡ 32 → (x : Bool) → eqb b' 0x80 ≡ x → (y : Bool) → eqb b' 0x81 ≡ y → (z : Bool) → eqb b' 0x82 ≡ z → FastOk m e s eip i p
        group g k true x y y' z z' = at_group g 0x80 false (eqb-true _ _ x) refl refl
        group g k false x true y z z' = at_group g 0x81 true (eqb-true _ _ y) refl refl
        group g k false x false y true z = at_group g 0x82 false (eqb-true _ _ z) refl refl
        group g k false x false y false z =
            let n0 : b' ≡ 0x80 → ⊥ = eqb-false b' 0x80 x in
            let n1 : b' ≡ 0x81 → ⊥ = eqb-false b' 0x81 y in
            let n2 : b' ≡ 0x82 → ⊥ = eqb-false b' 0x82 z in
            at_group g 0x83 false (omega (arith, k, n0, n1, n2)) refl refl

        move : c' ≡ MoveGroup → b' / 2 ≡ 99 → md' / 8 % 8 ≡ 0 → (x : Bool) → eqb b' 0xc6 ≡ x → FastOk m e s eip i p
        move g k z true x = at_move g z 0xc6 (eqb-true _ _ x) refl
        move g k z false x = let n0 : b' ≡ 0xc6 → ⊥ = eqb-false b' 0xc6 x in at_move g z 0xc7 (omega (arith, k, n0)) refl

        by : (k : Class) → c' ≡ k → by_immediate k ≡ true → FastOk m e s eip i p
        by ArithmeticGroup g t = group g (group_opcodes b' small (sym ec ∙ g)) (eqb b' 0x80) refl (eqb b' 0x81) refl (eqb b' 0x82) refl
        by MoveGroup g t = move g (move_opcodes b' small (sym ec ∙ g)) (eqb-true (md' / 8 % 8) 0 (rw g at ht)) (eqb b' 0xc6) refl
        by _ g t = absurd (false≢true t)

    pub taken_load : c' ≡ MoveRegister → p ≡ load_fast m eip i b' → FastOk m e s eip i p
    taken_load h ep = rw (ep, eb) (load_register (class MoveRegister h))

    pub taken_accumulator : c' ≡ ArithmeticAccumulator → p ≡ accumulator_fast m e eip i (b' / 8 % 8) b' → FastOk m e s eip i p
    taken_accumulator h ep = rw (ep, eb) (accumulator_arithmetic (class ArithmeticAccumulator h))

    pub taken_test : c' ≡ TestAccumulator → p ≡ accumulator_fast m e eip i 8 b' → FastOk m e s eip i p
    taken_test h ep = rw (ep, eb) (accumulator_test (class TestAccumulator h))

    pub taken_inc : c' ≡ IncrementRegister → p ≡ count_fast e eip 10 b' → FastOk m e s eip i p
    taken_inc h ep = rw (ep, eb) (inc_register (class IncrementRegister h))

    pub taken_dec : c' ≡ DecrementRegister → p ≡ count_fast e eip 11 b' → FastOk m e s eip i p
    taken_dec h ep = rw (ep, eb) (dec_register (class DecrementRegister h))

    pub taken_push : (y n : ℕ) → c' ≡ PushRegister → y < 4294967296 → y ≡ register (file e) (b' % 8) → n ≡ wrap (eip + 1) → p ≡ push_fast e y n → FastOk m e s eip i p
    taken_push y n h small ey en ep = let ey' : y ≡ register (file e) (at m i % 8) = rw (← eb) ey in rw (ep, en, ey') (push_register (class PushRegister h) (rw ey' at small))

    pub taken_pop : (n : ℕ) → c' ≡ PopRegister → n ≡ wrap (eip + 1) → p ≡ pop_fast e 5 (b' % 8) n → FastOk m e s eip i p
    taken_pop n h en ep = rw (ep, en, eb) (pop_register (class PopRegister h))

    pub taken_return : (n : ℕ) → c' ≡ ReturnPlain → n ≡ wrap (eip + 1) → p ≡ pop_fast e 6 8 n → FastOk m e s eip i p
    taken_return n h en ep = rw (ep, en) (return_plain (class ReturnPlain h))

    -- 70 to 7F have a byte
    short : b' / 16 ≡ 7 → long_opcode b' ≡ false
    short h =
        let n1 : b' ≡ 0x81 → ⊥ = λ z. omega arith in
        let n2 : b' ≡ 0x68 → ⊥ = λ z. omega arith in
        let n3 : b' ≡ 0x69 → ⊥ = λ z. omega arith in
        let n4 : b' ≡ 0xe9 → ⊥ = λ z. omega arith in
        let n5 : b' ≡ 0xe8 → ⊥ = λ z. omega arith in
        let n6 : b' < 0x180 = omega arith in
        rw (ne_eqb _ _ n1, ne_eqb _ _ n2, ne_eqb _ _ n3, ne_eqb _ _ n4, ne_eqb _ _ n5, lt-leb _ _ n6)

    pub taken_jump : c' ≡ JumpIf → b' < 256 → p ≡ jump_fast (cond (holds (b' % 16) s) (wrap (wrap (eip + 2) + signed md')) (wrap (eip + 2))) → FastOk m e s eip i p
    taken_jump h l ep = rw (ep, eb, em) (jump_if (class JumpIf h) (rw (← eb) (short (jump_opcodes b' l (sym ec ∙ h)))))

  module _ (b' md' : ℕ) (eb : b' ≡ at m i) (em : md' ≡ at m (i + 1)) (p : Fast) where
    opcode : (n : ℕ) → b' ≡ n → at m i ≡ n
    opcode n h = sym eb ∙ h

    pub taken_places : (eqb b' 0xc1 || eqb b' 0xd1 || eqb b' 0xd3) ≡ true → (ltb (md' / 8 % 8) 4 || eqb (md' / 8 % 8) 6) ≡ false → p ≡ places_fast m e eip i b' md' → FastOk m e s eip i p
    taken_places h t ep = at_opcode (eqb b' 0xc1) refl (eqb b' 0xd1) refl (eqb b' 0xd3) refl
      where
        built : (ltb (at m (i + 1) / 8 % 8) 4 || eqb (at m (i + 1) / 8 % 8) 6) ≡ false
        built = rw em at t

        opcode_is : FastOk m e s eip i (places_fast m e eip i (at m i) (at m (i + 1))) → FastOk m e s eip i p
        opcode_is k = rw (ep, eb, em) k

        at_opcode : (x : Bool) → eqb b' 0xc1 ≡ x → (y : Bool) → eqb b' 0xd1 ≡ y → (z : Bool) → eqb b' 0xd3 ≡ z → FastOk m e s eip i p
        at_opcode true x y y' z z' = let n = eqb-true _ _ x in opcode_is (places_193 (shifting _ (omega arith) built) built (opcode 0xc1 n))
        at_opcode false x true y z z' = let n = eqb-true _ _ y in opcode_is (places_209 (shifting _ (omega arith) built) built (opcode 0xd1 n))
        at_opcode false x false y true z = let n = eqb-true _ _ z in opcode_is (places_211 (shifting _ (omega arith) built) built (opcode 0xd3 n))
        at_opcode false x false y false z = absurd (false≢true (rw (x, y, z) at h))

    pub taken_times : (eqb b' 0x69 || eqb b' 0x6b) ≡ true → (long : Bool) → long ≡ eqb b' 0x69 → p ≡ times_fast m e eip i long md' → FastOk m e s eip i p
    unfolding class_of
    taken_times h long el ep = by (eqb b' 0x69) refl (eqb b' 0x6b) refl
      where
        at_opcode : (n : ℕ) (l : Bool) → b' ≡ n → class_of n ≡ MultiplyImmediate → long_opcode n ≡ l → eqb n 0x69 ≡ l → FastOk m e s eip i p
        at_opcode n l k c f w = let u : long ≡ l = rw (k, w) at el in rw (ep, em, u) (times_number l (ap class_of (opcode n k) ∙ c) (ap long_opcode (opcode n k) ∙ f))

        by : (x : Bool) → eqb b' 0x69 ≡ x → (y : Bool) → eqb b' 0x6b ≡ y → FastOk m e s eip i p
        by true x y y' = at_opcode 0x69 true (eqb-true _ _ x) refl refl refl
        by false x true y = at_opcode 0x6b false (eqb-true _ _ y) refl refl refl
        by false x false y = absurd (false≢true (rw (x, y) at h))

    pub taken_double : b' ≡ 0xf7 → (leb 192 md' && eqb (md' / 8 % 8) 4) ≡ true → p ≡ double_fast e eip md' → FastOk m e s eip i p
    taken_double h t ep =
        let d : leb 192 md' ≡ true = and_left (leb 192 md') (eqb (md' / 8 % 8) 4) t in
        let r : md' / 8 % 8 ≡ 4 = eqb-true _ _ (and_right (leb 192 md') (eqb (md' / 8 % 8) 4) t) in
        rw (ep, em) (double_247 (opcode 0xf7 h) (rw em at d) (rw em at r))

    pub taken_push_number : (n : ℕ) (long : Bool) (y z : ℕ) → b' ≡ n → class_of n ≡ PushImmediate → long_opcode n ≡ long → y < 4294967296 → y ≡ number_at long m (i + 1) → z ≡ wrap (eip + (1 + cond long 4 1))
        → p ≡ push_fast e y z → FastOk m e s eip i p
    taken_push_number n long y z h c l small ey ez ep = rw (ep, ez, ey) (push_immediate long (ap class_of (opcode n h) ∙ c) (ap long_opcode (opcode n h) ∙ l) (rw ey at small))

    pub taken_near : (n x z : ℕ) → b' ≡ 235 → n ≡ wrap (eip + 2) → x ≡ signed md' → z ≡ wrap (n + x) → p ≡ jump_fast z → FastOk m e s eip i p
    taken_near n x z h en ex ez ep = rw (ep, ez, en, ex, em) (jump_235 (opcode 235 h))

    pub taken_far : (n x z : ℕ) → b' ≡ 233 → n ≡ wrap (eip + 5) → x ≡ dword_at m (i + 1) → z ≡ wrap (n + x) → p ≡ jump_fast z → FastOk m e s eip i p
    taken_far n x z h en ex ez ep = rw (ep, ez, en, ex) (jump_233 (opcode 233 h))

    pub taken_call : (n x z : ℕ) → b' ≡ 232 → n ≡ wrap (eip + 5) → x ≡ dword_at m (i + 1) → z ≡ wrap (n + x) → p ≡ push_fast e n z → FastOk m e s eip i p
    taken_call n x z h en ex ez ep = rw (ep, ez, en, ex) (call_232 (opcode 232 h))
