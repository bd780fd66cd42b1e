-- Operations of two operands and of one, shifts, multiplication and division.
-- Assumes nothing.
use Rattle.std.specs.Prelude.{ℕ, Bool, true, cond, ltb, eqb, Option, Some, None}
use Rattle.machine.specs.declared.Registers.{Registers}
use Rattle.machine.specs.declared.Core.{Core}
use Rattle.machine.specs.declared.Reply.TheVariants.{Fault}
use Rattle.machine.specs.Record.{register, with_register, byte_register, read_at, write_at}
use Rattle.alu.specs.declared.Out.{Out}
use Rattle.encoding.specs.declared.Instruction.{Instruction}
use Rattle.operands.specs.declared.Effect.{Effect}
use Rattle.alu.specs.Arithmetic.{operate, operate_one, writes}
use Rattle.shifts.specs.Shifts.{shift}
use Rattle.products.specs.declared.Product.{Product}
use Rattle.products.specs.declared.Division.{Division}
use Rattle.products.specs.Products.{product, quotient}
use Rattle.operands.specs.Operands.{operand_value, deposit, refused, onward, advanced}

-- the result is put into the operand
abbrev pub deposited : Instruction → Core → Out → Effect
deposited i k o = advanced i k (deposit i k.regs o.value) o.status o.value

-- two operands: CMP and TEST only set flags
unfoldable pub combined : Instruction → Core → Out → Effect
combined i k o = cond (writes i.operation) (deposited i k o) (advanced i k k.regs o.status o.value)

abbrev pub own_register : Instruction → Core → ℕ
own_register i k = read_at i.wide k.regs i.register

unfoldable pub do_combine_to : Instruction → Core → ℕ → Effect
do_combine_to i k a = combined i k (operate i.operation i.wide (operand_value i k.regs a) (own_register i k) k.flags.status)

unfoldable pub do_combine_immediate : Instruction → Core → ℕ → Effect
do_combine_immediate i k a = combined i k (operate i.operation i.wide (operand_value i k.regs a) i.immediate k.flags.status)

-- into the register
abbrev pub kept : Instruction → Core → Out → Registers
kept i k o = cond (writes i.operation) (write_at i.wide k.regs i.register o.value) k.regs

unfoldable pub combined_from : Instruction → Core → Out → Effect
combined_from i k o = advanced i k (kept i k o) o.status 0

unfoldable pub do_combine_from : Instruction → Core → ℕ → Effect
do_combine_from i k a = combined_from i k (operate i.operation i.wide (own_register i k) (operand_value i k.regs a) k.flags.status)

-- INC DEC NOT NEG
unfoldable pub do_unary : Instruction → Core → ℕ → Effect
do_unary i k a = deposited i k (operate_one i.operation i.wide (operand_value i k.regs a) k.flags.status)

-- SHL SHR SAR by a count: count 0 puts the old value back
unfoldable pub do_shift : Instruction → Core → ℕ → ℕ → Effect
do_shift i k count a = deposited i k (shift i.operation i.wide count (operand_value i k.regs a) k.flags.status)

abbrev pub cl : Core → ℕ
cl k = byte_register k.regs 1

-- ---- the accumulator and its upper half: EAX and EDX, or AL and AH

abbrev pub upper : Bool → ℕ
upper wide = cond wide 2 4

abbrev pub pair : Bool → Registers → ℕ → ℕ → Registers
pair wide r low high = write_at wide (write_at wide r 0 low) (upper wide) high

abbrev pub multiplied : Instruction → Core → Product → Effect
multiplied i k p = advanced i k (pair i.wide k.regs p.low p.high) p.status 0

-- MUL 4, IMUL 5
unfoldable pub do_multiply : Instruction → Core → ℕ → Effect
do_multiply i k x = multiplied i k (product (eqb i.operation 5) i.wide (read_at i.wide k.regs 0) x k.flags.status)

-- all six flags are kept
abbrev pub divided : Instruction → Core → Option Division → Effect
divided i k None = refused k (Fault 0 0 0)
divided i k (Some d) = onward i k (pair i.wide k.regs d.quotient d.remainder)

-- DIV 6, IDIV 7
unfoldable pub do_divide : Instruction → Core → ℕ → Effect
do_divide i k x =
    divided i k (quotient (eqb i.operation 7) i.wide (read_at i.wide k.regs (upper i.wide)) (read_at i.wide k.regs 0) x)

unfoldable pub do_accumulate : Instruction → Core → ℕ → Effect
do_accumulate i k a =
    cond (ltb i.operation 6) (do_multiply i k (operand_value i k.regs a)) (do_divide i k (operand_value i k.regs a))

-- IMUL into a register: by the immediate, or by the register itself
abbrev pub timed : Instruction → Core → Product → Effect
timed i k p = advanced i k (with_register k.regs i.register p.low) p.status 0

unfoldable pub do_multiply_by : Instruction → Core → ℕ → Effect
do_multiply_by i k a = timed i k (product true true (operand_value i k.regs a) i.immediate k.flags.status)

unfoldable pub do_multiply_into : Instruction → Core → ℕ → Effect
do_multiply_into i k a = timed i k (product true true (register k.regs i.register) (operand_value i k.regs a) k.flags.status)
