-- The short forms without a ModRM byte: a register by an immediate, INC and DEC, jumps and the stack.
-- Assumes nothing.
use Rattle.std.proofs.Common.{◌≡◌, ℕ, ◌+◌, ◌%◌, ◌<◌, Bool, true, false, cond, ltb, List, sym, refl, arith}
use mathlib.Core.Bool.{false≢true}
use Rattle.alu.specs.declared.Status.{Status}
use Rattle.alu.specs.Arithmetic.{operate, operation, writes}
use Rattle.conditions.specs.Conditions.{holds}
use Rattle.machine.specs.declared.Core.{Core}
use Rattle.machine.specs.Record.{Mem, at, wrap, register, read_at, write_at}
use Rattle.machine.specs.Paging.{View}
use Rattle.machine.specs.Act.{ok}
use Rattle.encoding.specs.declared.Family.{Family}
use Rattle.encoding.specs.declared.Family.TheVariants.{CombineImmediate, Unary, Push, PushNumber, Pop, JumpOn, Jump, Call, Return}
use Rattle.encoding.specs.declared.Instruction.{Instruction}
use Rattle.fetch.specs.Read.{log_at}
use Rattle.decode.specs.Decode.{decode, in_register}
use Rattle.operands.specs.Operands.{operand_want, operand_value, deposit}
use Rattle.arithmetic.specs.Arithmetic.{combined, do_combine_immediate, do_unary}
use Rattle.stack.specs.Stack.{do_push, do_push_number, do_pop, do_call, do_return}
use Rattle.flow.specs.Flow.{do_jump_on, do_jump}
use Rattle.execute.specs.Execute.{writes_operand, reads_operand, first, second, compute}
use Rattle.outcome.specs.Outcome.{file, want_first, want_second, out_of, result_of, stacked, deposit_of, core_after}
use Rattle.shortcut.specs.Forms.{number_at, register_fast, count_fast, jump_fast, push_fast, pop_fast}
use Rattle.shortcut.specs.Shortcut.{Fits, core_from}
use Rattle.shortcut.proofs.Fitting.{below_eight}

same : (x : ℕ) → x < 4294967296 → x % 4294967296 ≡ x
same x h = omega arith

-- an instruction that names register r in its opcode, or none
abbrev pub naming : Family → ℕ → Bool → ℕ → ℕ → ℕ → Instruction
naming f op w r x n = record { family = f; operation = op; wide = w; register = 0; operand = in_register r; immediate = x; length = n }

module _ (v : View) (m : Mem) (e : List ℕ) (s : Status) (eip i : ℕ) (int dir : Bool) where
  abbrev k : Core
  k = core_from e eip s int dir

  abbrev b : ℕ
  b = at m i

  -- the form may leave out what the register holds where the operation does not ask for it
  module _ (op x n : ℕ) (w : Bool) (low : ltb op 10 ≡ true) (named : ltb n 8 ≡ true)
      (holding : (y : ℕ) → operate op w (read_at w (file e) n) y s ≡ operate op w x y s) where
    abbrev by_number : Instruction
    by_number = naming CombineImmediate op w n (number_at w m (i + 1)) (1 + cond w 4 1)

    pub register_fits : decode eip v (log_at eip 0) ≡ ok by_number (log_at eip (1 + cond w 4 1)) → Fits v k (register_fast m eip i op w x n)
    unfolding first second writes_operand reads_operand compute do_combine_immediate combined deposit operand_value operand_want register_fast want_first want_second out_of result_of stacked deposit_of core_after
    register_fits de = by (writes op) refl
      where
        by : (d : Bool) → writes op ≡ d → Fits v k (register_fast m eip i op w x n)
        by true h = record {
          instr = by_number;
          decodes = de;
          free = λ _ _. refl;
          firstly = rw h;
          secondly = refl;
          done = λ a. rw h;
          core = λ a _. rw (h, low, named, holding (number_at w m (i + 1)));
          value = λ a _ z. absurd (false≢true z);
        }
        by false h = record {
          instr = by_number;
          decodes = de;
          free = λ _ _. refl;
          firstly = rw h;
          secondly = refl;
          done = λ a. rw h;
          core = λ a _. rw (h, low, holding (number_at w m (i + 1)));
          value = λ a _ z. absurd (false≢true z);
        }

  module _ (x : ℕ) where
    pub inc_fits : decode eip v (log_at eip 0) ≡ ok (naming Unary 0 true (b % 8) x 1) (log_at eip 1) → Fits v k (count_fast e eip 10 b)
    unfolding first second writes_operand reads_operand compute do_unary deposit operand_value operand_want read_at count_fast want_first want_second out_of result_of stacked deposit_of core_after
    inc_fits de = record {
      instr = naming Unary 0 true (b % 8) x 1;
      decodes = de;
      free = λ _ _. refl;
      firstly = refl;
      secondly = refl;
      done = λ a. refl;
      core = λ a _. rw (below_eight b);
      value = λ a _ z. absurd (false≢true z);
    }

    pub dec_fits : decode eip v (log_at eip 0) ≡ ok (naming Unary 1 true (b % 8) x 1) (log_at eip 1) → Fits v k (count_fast e eip 11 b)
    unfolding first second writes_operand reads_operand compute do_unary deposit operand_value operand_want read_at count_fast want_first want_second out_of result_of stacked deposit_of core_after
    dec_fits de = record {
      instr = naming Unary 1 true (b % 8) x 1;
      decodes = de;
      free = λ _ _. refl;
      firstly = refl;
      secondly = refl;
      done = λ a. refl;
      core = λ a _. rw (below_eight b);
      value = λ a _ z. absurd (false≢true z);
    }

  -- ---- jumps

  module _ (op r x n : ℕ) where
    pub jump_fits : decode eip v (log_at eip 0) ≡ ok (naming Jump op true r x n) (log_at eip n) → Fits v k (jump_fast (wrap (wrap (eip + n) + x)))
    unfolding first second writes_operand reads_operand compute do_jump operate operation jump_fast want_first want_second out_of result_of stacked deposit_of core_after
    jump_fits de = record {
      instr = naming Jump op true r x n;
      decodes = de;
      free = λ _ _. refl;
      firstly = refl;
      secondly = refl;
      done = λ a. refl;
      core = λ a _. refl;
      value = λ a _ z. absurd (false≢true z);
    }

    pub jump_on_lem : holds op s ≡ true → decode eip v (log_at eip 0) ≡ ok (naming JumpOn op true r x n) (log_at eip n) → Fits v k (jump_fast (wrap (wrap (eip + n) + x)))
    unfolding first second writes_operand reads_operand compute do_jump_on operate operation jump_fast want_first want_second out_of result_of stacked deposit_of core_after
    jump_on_lem h de = record {
      instr = naming JumpOn op true r x n;
      decodes = de;
      free = λ _ _. refl;
      firstly = refl;
      secondly = refl;
      done = λ a. refl;
      core = λ a _. rw h;
      value = λ a _ z. absurd (false≢true z);
    }

    pub jump_off : holds op s ≡ false → decode eip v (log_at eip 0) ≡ ok (naming JumpOn op true r x n) (log_at eip n) → Fits v k (jump_fast (wrap (eip + n)))
    unfolding first second writes_operand reads_operand compute do_jump_on operate operation jump_fast want_first want_second out_of result_of stacked deposit_of core_after
    jump_off h de = record {
      instr = naming JumpOn op true r x n;
      decodes = de;
      free = λ _ _. refl;
      firstly = refl;
      secondly = refl;
      done = λ a. refl;
      core = λ a _. rw h;
      value = λ a _ z. absurd (false≢true z);
    }

    -- ---- the stack

    pub push_fits : register (file e) r < 4294967296 → decode eip v (log_at eip 0) ≡ ok (naming Push op true r x n) (log_at eip n)
        → Fits v k (push_fast e (register (file e) r) (wrap (eip + n)))
    unfolding first second writes_operand reads_operand compute do_push operand_value operand_want read_at operate operation push_fast want_first want_second out_of result_of stacked deposit_of core_after
    push_fits h de = record {
      instr = naming Push op true r x n;
      decodes = de;
      free = λ _ _. refl;
      firstly = refl;
      secondly = refl;
      done = λ a. refl;
      core = λ a _. refl;
      value = λ a _ z. sym (same (register (file e) r) h);
    }

    pub push_number_fits : x < 4294967296 → decode eip v (log_at eip 0) ≡ ok (naming PushNumber op true r x n) (log_at eip n) → Fits v k (push_fast e x (wrap (eip + n)))
    unfolding first second writes_operand reads_operand compute do_push_number operate operation push_fast want_first want_second out_of result_of stacked deposit_of core_after
    push_number_fits h de = record {
      instr = naming PushNumber op true r x n;
      decodes = de;
      free = λ _ _. refl;
      firstly = refl;
      secondly = refl;
      done = λ a. refl;
      core = λ a _. refl;
      value = λ a _ z. sym (same x h);
    }

    pub call_fits : decode eip v (log_at eip 0) ≡ ok (naming Call op true r x n) (log_at eip n) → Fits v k (push_fast e (wrap (eip + n)) (wrap (wrap (eip + n) + x)))
    unfolding first second writes_operand reads_operand compute do_call operate operation push_fast want_first want_second out_of result_of stacked deposit_of core_after
    call_fits de = record {
      instr = naming Call op true r x n;
      decodes = de;
      free = λ _ _. refl;
      firstly = refl;
      secondly = refl;
      done = λ a. refl;
      core = λ a _. refl;
      value = λ a _ z. sym (same (wrap (eip + n)) (omega arith));
    }

  module _ (op x n : ℕ) where
    pub pop_fits : decode eip v (log_at eip 0) ≡ ok (naming Pop op true (b % 8) x n) (log_at eip n) → Fits v k (pop_fast e 5 (b % 8) (wrap (eip + n)))
    unfolding first second writes_operand reads_operand compute do_pop deposit operand_want write_at operate operation pop_fast want_first want_second out_of result_of stacked deposit_of core_after
    pop_fits de = record {
      instr = naming Pop op true (b % 8) x n;
      decodes = de;
      free = λ _ _. refl;
      firstly = refl;
      secondly = refl;
      done = λ a. refl;
      core = λ a h. rw (below_eight b, same a h);
      value = λ a _ z. absurd (false≢true z);
    }

    pub return_fits : decode eip v (log_at eip 0) ≡ ok (naming Return op true x 0 n) (log_at eip n) → Fits v k (pop_fast e 6 8 (wrap (eip + n)))
    unfolding first second writes_operand reads_operand compute do_return operate operation pop_fast want_first want_second out_of result_of stacked deposit_of core_after
    return_fits de = record {
      instr = naming Return op true x 0 n;
      decodes = de;
      free = λ _ _. refl;
      firstly = refl;
      secondly = refl;
      done = λ a. refl;
      core = λ a h. let z : register (file e) 4 + 4 + 0 ≡ register (file e) 4 + 4 = omega arith in rw z;
      value = λ a _ z. absurd (false≢true z);
    }
