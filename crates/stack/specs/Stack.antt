-- PUSH, POP, CALL and RET: a value that is pushed is stored by the second access.
-- Assumes nothing.
use Rattle.std.specs.Prelude.{ℕ, ◌+◌}
use Rattle.machine.specs.declared.Core.{Core}
use Rattle.machine.specs.Record.{wrap, register, with_register}
use Rattle.encoding.specs.declared.Instruction.{Instruction}
use Rattle.operands.specs.declared.Effect.{Effect}
use Rattle.operands.specs.Operands.{operand_value, deposit, esp, lowered, raised, went, next, target}

-- x goes on the stack, and the program goes on at eip
abbrev pub pushed : Core → ℕ → ℕ → Effect
pushed k eip x = went (with_register k.regs esp (lowered k.regs)) eip k.flags x

-- PUSH ESP stores the old ESP
unfoldable pub do_push : Instruction → Core → ℕ → Effect
do_push i k a = pushed k (next i k) (operand_value i k.regs a)

unfoldable pub do_push_number : Instruction → Core → Effect
do_push_number i k = pushed k (next i k) i.immediate

-- POP ESP leaves the value read
unfoldable pub do_pop : Instruction → Core → ℕ → Effect
do_pop i k a = went (deposit i (raised k.regs) a) (next i k) k.flags a

unfoldable pub do_call : Instruction → Core → Effect
do_call i k = pushed k (target i k i.immediate) (next i k)

unfoldable pub do_call_to : Instruction → Core → ℕ → Effect
do_call_to i k a = pushed k (operand_value i k.regs a) (next i k)

-- to the address that was on the stack, with as many more bytes popped as the immediate says
unfoldable pub do_return : Instruction → Core → ℕ → Effect
do_return i k a = went (with_register k.regs esp (wrap (register k.regs esp + 4 + i.immediate))) a k.flags 0
