-- The short forms with a ModRM byte are the instructions that the definition decodes, with the same accesses and the same effect.
-- Assumes nothing.
use Rattle.std.proofs.Common.{◌≡◌, ℕ, ◌+◌, ◌/◌, ◌%◌, ◌<◌, Bool, true, false, cond, eqb, ltb, List, refl, ◌∙◌, arith, lt-ltb}
use mathlib.Core.Bool.{false≢true}
use Rattle.alu.specs.declared.Status.{Status}
use Rattle.alu.specs.Arithmetic.{operate, operation, writes}
use Rattle.machine.specs.declared.Core.{Core}
use Rattle.machine.specs.declared.Want.TheVariants.{Nothing}
use Rattle.machine.specs.Record.{Mem, at, register, write_at}
use Rattle.machine.specs.Paging.{View}
use Rattle.machine.specs.Act.{ok}
use Rattle.encoding.specs.declared.Family.{Family}
use Rattle.encoding.specs.declared.Family.TheVariants.{CombineTo, CombineFrom, CombineImmediate, MultiplyBy, AddressOf}
use Rattle.encoding.specs.declared.Instruction.{Instruction}
use Rattle.encoding.specs.Attributes.{reg_field}
use Rattle.fetch.specs.Read.{log_at}
use Rattle.decode.specs.Decode.{decode}
use Rattle.operands.specs.Operands.{scaled, address, operand_want, operand_value, deposit}
use Rattle.arithmetic.specs.Arithmetic.{combined, combined_from, do_combine_from, deposited, do_multiply_by}
use Rattle.moves.specs.Moves.{do_address}
use Rattle.execute.specs.Execute.{permitted, writes_operand, reads_operand, first, second, compute}
use Rattle.shortcut.specs.Bytes.{operand_at}
use Rattle.shifts.specs.Shifts.{shift}
use Rattle.outcome.specs.Outcome.{file, want_first, want_second, out_of, result_of, stacked, deposit_of, core_after}
use Rattle.shortcut.specs.Forms.{is_direct, is_odd, spot_of, left_fast, number_at, times_fast, from_fast, address_fast, up_to}
use Rattle.shortcut.specs.Shortcut.{Fits, core_from}
use Rattle.shortcut.proofs.Decoded.{operand_direct, operand_register}

pub below_eight : (x : ℕ) → ltb (x % 8) 8 ≡ true
below_eight x = let h : x % 8 < 8 = omega arith in lt-ltb (x % 8) 8 h

-- a shift's number, 8 above its reg field, is no other operation's
pub record Shifting (g : ℕ) : Type 0 where
  pub low : ltb (8 + g) 10 ≡ false
  pub inc : eqb (8 + g) 10 ≡ false
  pub dec : eqb (8 + g) 11 ≡ false
  pub imul : eqb (8 + g) 14 ≡ false
  pub writing : writes (8 + g) ≡ true
  pub back : (8 + g) % 8 ≡ g

-- an instruction of two operands
abbrev pub combining_at : Mem → ℕ → Family → ℕ → ℕ → ℕ → Instruction
combining_at m i f op x n = record { family = f; operation = op; wide = is_odd (at m i); register = reg_field (at m (i + 1)); operand = operand_at m (i + 2) (at m (i + 1)); immediate = x; length = n }

module _ (v : View) (m : Mem) (e : List ℕ) (s : Status) (eip i : ℕ) (int dir : Bool) where
  abbrev k : Core
  k = core_from e eip s int dir

  abbrev b : ℕ
  b = at m i

  abbrev md : ℕ
  md = at m (i + 1)

  abbrev pub combining : Family → ℕ → ℕ → ℕ → Instruction
  combining f op x n = combining_at m i f op x n

  direct : {d : Bool} → is_direct md ≡ d → (operand_at m (i + 2) md).direct ≡ d
  direct h = operand_direct m (i + 2) md ∙ h

  module _ (op x n : ℕ) where
    pub first_to : first (combining CombineTo op x n) (file e) ≡ cond (writes op) (operand_want true (combining CombineTo op x n) (file e)) (operand_want false (combining CombineTo op x n) (file e))
    unfolding first writes_operand reads_operand
    first_to = by (writes op) refl
      where
        by : (w : Bool) → writes op ≡ w → first (combining CombineTo op x n) (file e) ≡ cond (writes op) (operand_want true (combining CombineTo op x n) (file e)) (operand_want false (combining CombineTo op x n) (file e))
        by true h = rw h
        by false h = rw h

    pub first_number : first (combining CombineImmediate op x n) (file e) ≡ cond (writes op) (operand_want true (combining CombineImmediate op x n) (file e)) (operand_want false (combining CombineImmediate op x n) (file e))
    unfolding first writes_operand reads_operand
    first_number = by (writes op) refl
      where
        by : (w : Bool) → writes op ≡ w → first (combining CombineImmediate op x n) (file e) ≡ cond (writes op) (operand_want true (combining CombineImmediate op x n) (file e)) (operand_want false (combining CombineImmediate op x n) (file e))
        by true h = rw h
        by false h = rw h

  -- ---- on the operand

  module _ (f : Family) (op x y n : ℕ) (low : ltb op 10 ≡ true)
      (de : decode eip v (log_at eip 0) ≡ ok (combining f op x n) (log_at eip n))
      (free' : (iopl ring : ℕ) → permitted (combining f op x n) iopl ring ≡ true)
      (first' : first (combining f op x n) (file e) ≡ cond (writes op) (operand_want true (combining f op x n) (file e)) (operand_want false (combining f op x n) (file e)))
      (second' : second (combining f op x n) (file e) ≡ Nothing)
      (comp : (a : ℕ) → compute (combining f op x n) k a ≡ combined (combining f op x n) k (operate op (is_odd b) (operand_value (combining f op x n) (file e) a) y s)) where
    pub left_fits : Fits v k (left_fast m e eip i op b md y n)
    unfolding combined deposit operand_value operand_want left_fast spot_of want_first want_second out_of result_of stacked deposit_of core_after
    left_fits = by (is_direct md) refl (writes op) refl
      where
        by : (d : Bool) → is_direct md ≡ d → (w : Bool) → writes op ≡ w → Fits v k (left_fast m e eip i op b md y n)
        by true d true w =
            let r = operand_register m (i + 2) md d in
            record {
              instr = combining f op x n;
              decodes = de;
              free = free';
              firstly = first' ∙ rw (w, direct d, d);
              secondly = second' ∙ rw d;
              done = λ a. rw (comp a, w);
              core = λ a _. rw (comp a, w, direct d, d, low, r, below_eight md);
              value = λ a _ _. rw (comp a, w, direct d, d, low, r);
            }
        by true d false w =
            let r = operand_register m (i + 2) md d in
            record {
              instr = combining f op x n;
              decodes = de;
              free = free';
              firstly = first' ∙ rw (w, direct d, d);
              secondly = second' ∙ rw d;
              done = λ a. rw (comp a, w);
              core = λ a _. rw (comp a, w, direct d, d, low, r);
              value = λ a _ _. rw (comp a, w, direct d, d, low, r);
            }
        by false d true w =
            record {
              instr = combining f op x n;
              decodes = de;
              free = free';
              firstly = first' ∙ rw (w, direct d, d);
              secondly = second' ∙ rw (d, w);
              done = λ a. rw (comp a, w);
              core = λ a _. rw (comp a, w, direct d, d, low);
              value = λ a _ _. rw (comp a, w, direct d, d, low);
            }
        by false d false w =
            record {
              instr = combining f op x n;
              decodes = de;
              free = free';
              firstly = first' ∙ rw (w, direct d, d);
              secondly = second' ∙ rw (d, w);
              done = λ a. rw (comp a, w);
              core = λ a _. rw (comp a, w, direct d, d, low);
              value = λ a _ _. rw (comp a, w, direct d, d, low);
            }

  -- ---- shifts of the operand, and its product

  module _ (f : Family) (x y n : ℕ) (odd : is_odd b ≡ true) (by : Shifting (reg_field md))
      (de : decode eip v (log_at eip 0) ≡ ok (combining f (reg_field md) x n) (log_at eip n))
      (free' : (iopl ring : ℕ) → permitted (combining f (reg_field md) x n) iopl ring ≡ true)
      (first' : first (combining f (reg_field md) x n) (file e) ≡ operand_want true (combining f (reg_field md) x n) (file e))
      (second' : second (combining f (reg_field md) x n) (file e) ≡ Nothing)
      (comp : (a : ℕ) → compute (combining f (reg_field md) x n) k a ≡ deposited (combining f (reg_field md) x n) k (shift (reg_field md) true y (operand_value (combining f (reg_field md) x n) (file e) a) s)) where
    pub shift_fits : Fits v k (left_fast m e eip i (8 + reg_field md) b md y n)
    unfolding deposit operand_value operand_want left_fast spot_of want_first want_second out_of result_of stacked deposit_of core_after
    shift_fits = at_operand (is_direct md) refl
      where
        at_operand : (d : Bool) → is_direct md ≡ d → Fits v k (left_fast m e eip i (8 + reg_field md) b md y n)
        at_operand true d =
            let r = operand_register m (i + 2) md d in
            record {
              instr = combining f (reg_field md) x n;
              decodes = de;
              free = free';
              firstly = first' ∙ rw (direct d, d);
              secondly = second' ∙ rw d;
              done = λ a. rw (comp a);
              core = λ a _. rw (comp a, by.writing, direct d, d, odd, by.low, by.inc, by.dec, by.imul, by.back, r, below_eight md);
              value = λ a _ _. rw (comp a, direct d, d, odd, by.low, by.inc, by.dec, by.imul, by.back, r);
            }
        at_operand false d =
            record {
              instr = combining f (reg_field md) x n;
              decodes = de;
              free = free';
              firstly = first' ∙ rw (by.writing, direct d, d);
              secondly = second' ∙ rw (d, by.writing);
              done = λ a. rw (comp a);
              core = λ a _. rw (comp a, by.writing, direct d, d, odd, by.low, by.inc, by.dec, by.imul, by.back);
              value = λ a _ _. rw (comp a, by.writing, direct d, d, odd, by.low, by.inc, by.dec, by.imul, by.back);
            }

  module _ (op x n : ℕ) (long : Bool) (number : x ≡ number_at long m (i + up_to m i md)) (len : n ≡ up_to m i md + cond long 4 1) where
    abbrev timing : Instruction
    timing = record { family = MultiplyBy; operation = op; wide = true; register = reg_field md; operand = operand_at m (i + 2) md; immediate = x; length = n }

    pub times_fits : decode eip v (log_at eip 0) ≡ ok timing (log_at eip n) → Fits v k (times_fast m e eip i long md)
    unfolding first second writes_operand reads_operand compute do_multiply_by operand_value operand_want write_at times_fast spot_of want_first want_second out_of result_of stacked deposit_of core_after
    times_fits de = at_operand (is_direct md) refl
      where
        at_operand : (d : Bool) → is_direct md ≡ d → Fits v k (times_fast m e eip i long md)
        at_operand true d =
            let r = operand_register m (i + 2) md d in
            record {
              instr = timing;
              decodes = de;
              free = λ _ _. refl;
              firstly = rw (direct d, d);
              secondly = rw d;
              done = λ a. refl;
              core = λ a _. rw (direct d, d, r, below_eight (md / 8), len, number);
              value = λ a _ z. absurd (false≢true (rw d at z));
            }
        at_operand false d =
            record {
              instr = timing;
              decodes = de;
              free = λ _ _. refl;
              firstly = rw (direct d, d);
              secondly = rw d;
              done = λ a. refl;
              core = λ a _. rw (direct d, d, below_eight (md / 8), len, number);
              value = λ a _ z. absurd (false≢true (rw d at z));
            }

  -- ---- on the register

  module _ (op x n : ℕ) (low : ltb op 10 ≡ true) (len : n ≡ up_to m i md)
      (de : decode eip v (log_at eip 0) ≡ ok (combining CombineFrom op x n) (log_at eip n)) where
    pub from_fits : Fits v k (from_fast m e eip i op b md)
    unfolding first second writes_operand reads_operand compute do_combine_from combined_from operand_value operand_want from_fast spot_of want_first want_second out_of result_of stacked deposit_of core_after
    from_fits = by (is_direct md) refl (writes op) refl
      where
        by : (d : Bool) → is_direct md ≡ d → (w : Bool) → writes op ≡ w → Fits v k (from_fast m e eip i op b md)
        by true d true w =
            let r = operand_register m (i + 2) md d in
            record {
              instr = combining CombineFrom op x n;
              decodes = de;
              free = λ _ _. refl;
              firstly = rw (direct d, d);
              secondly = rw d;
              done = λ a. refl;
              core = λ a _. rw (w, direct d, d, low, r, below_eight (md / 8), len);
              value = λ a _ z. absurd (false≢true (rw d at z));
            }
        by true d false w =
            let r = operand_register m (i + 2) md d in
            record {
              instr = combining CombineFrom op x n;
              decodes = de;
              free = λ _ _. refl;
              firstly = rw (direct d, d);
              secondly = rw d;
              done = λ a. refl;
              core = λ a _. rw (w, direct d, d, low, r, len);
              value = λ a _ z. absurd (false≢true (rw d at z));
            }
        by false d true w =
            record {
              instr = combining CombineFrom op x n;
              decodes = de;
              free = λ _ _. refl;
              firstly = rw (direct d, d);
              secondly = rw d;
              done = λ a. refl;
              core = λ a _. rw (w, direct d, d, low, below_eight (md / 8), len);
              value = λ a _ z. absurd (false≢true (rw d at z));
            }
        by false d false w =
            record {
              instr = combining CombineFrom op x n;
              decodes = de;
              free = λ _ _. refl;
              firstly = rw (direct d, d);
              secondly = rw d;
              done = λ a. refl;
              core = λ a _. rw (w, direct d, d, low, len);
              value = λ a _ z. absurd (false≢true (rw d at z));
            }

  -- ---- the operand's address

  module _ (op x n : ℕ) (len : n ≡ up_to m i md) (mem : is_direct md ≡ false) where
    abbrev loading : Instruction
    loading = record { family = AddressOf; operation = op; wide = true; register = reg_field md; operand = operand_at m (i + 2) md; immediate = x; length = n }

    pub address_fits : decode eip v (log_at eip 0) ≡ ok loading (log_at eip n) → Fits v k (address_fast m e eip i md)
    unfolding first second writes_operand reads_operand compute do_address address address_fast spot_of want_first want_second operate operation out_of result_of stacked deposit_of core_after write_at
    address_fits de = record {
      instr = loading;
      decodes = de;
      free = λ _ _. refl;
      firstly = refl;
      secondly = refl;
      done = λ a. refl;
      core = λ a _. rw (mem, len, below_eight (md / 8), again (register (file e) (operand_at m (i + 2) md).base + scaled (register (file e) (operand_at m (i + 2) md).index) (operand_at m (i + 2) md).scale + (operand_at m (i + 2) md).displacement));
      value = λ a _ z. absurd (false≢true z);
    }
      where
        again : (z : ℕ) → z % 4294967296 % 4294967296 ≡ z % 4294967296
        again z = omega arith
