-- MUL by a register: the instruction that the definition decodes, and its two registers.
-- Assumes nothing.
use Rattle.std.proofs.Common.{◌≡◌, ℕ, ◌+◌, ◌/◌, ◌%◌, Bool, true, List, refl, ◌∙◌}
use mathlib.Core.Bool.{false≢true}
use Rattle.alu.specs.declared.Status.{Status}
use Rattle.machine.specs.declared.Core.{Core}
use Rattle.machine.specs.Record.{Mem, at, write_at, read_at}
use Rattle.machine.specs.Paging.{View}
use Rattle.encoding.specs.declared.Class.TheVariants.{UnaryGroup}
use Rattle.encoding.specs.declared.Family.TheVariants.{Accumulate}
use Rattle.encoding.specs.declared.Instruction.{Instruction}
use Rattle.encoding.specs.Encodings.{class_of}
use Rattle.encoding.specs.Attributes.{family_of, operation_of}
use Rattle.operands.specs.Operands.{operand_value, operand_want}
use Rattle.arithmetic.specs.Arithmetic.{do_accumulate, do_multiply}
use Rattle.execute.specs.Execute.{first, second, writes_operand, reads_operand, compute}
use Rattle.shortcut.specs.Bytes.{Shows, operand_at, operand_bytes}
use Rattle.shortcut.specs.Forms.{is_direct, is_odd, up_to, double_fast}
use Rattle.outcome.specs.Outcome.{want_first, want_second, doubled_after}
use Rattle.shortcut.specs.Shortcut.{FitsTo, core_from}
use Rattle.shortcut.proofs.Decoded.{number_none, with_modrm_lem, operand_direct, operand_register}

module _ (v : View) (m : Mem) (e : List ℕ) (s : Status) (eip i : ℕ) (int dir : Bool) where
  abbrev k : Core
  k = core_from e eip s int dir

  abbrev md : ℕ
  md = at m (i + 1)

  -- with a register there is nothing after ModRM
  short : is_direct md ≡ true → up_to m i md ≡ 2
  unfolding operand_bytes
  short d = rw d

  abbrev doubling : Instruction
  doubling = record { family = Accumulate; operation = 4; wide = true; register = 4; operand = operand_at m (i + 2) md; immediate = 0; length = 2 }

  pub double_fits : class_of (at m i) ≡ UnaryGroup → is_odd (at m i) ≡ true → is_direct md ≡ true → md / 8 % 8 ≡ 4 → Shows v m eip i
      → FitsTo v k (double_fast e eip md) (λ a. doubled_after (double_fast e eip md) k)
  unfolding family_of operation_of first second writes_operand reads_operand compute do_accumulate do_multiply operand_value operand_want write_at read_at double_fast want_first want_second doubled_after
  double_fits h odd d r sh = record {
    instr = doubling;
    decodes = rw (r, odd, short d) at (with_modrm_lem v m eip i sh UnaryGroup 0 (up_to m i md) (record { is_class = h; no_override = refl; no_escape = refl; built = refl; defined = refl }) refl refl (rw r) (rw r (number_none v m eip i sh (up_to m i md))));
    free = λ _ _. refl;
    firstly = rw direct;
    secondly = refl;
    done = λ a. refl;
    core = λ a _. rw (direct, operand_register m (i + 2) md d);
    value = λ a _ z. absurd (false≢true z);
  }
    where
      direct : (operand_at m (i + 2) md).direct ≡ true
      direct = operand_direct m (i + 2) md ∙ d
