-- Jumps, LOOP forms, INT and HLT.
-- Assumes nothing.
use Rattle.std.specs.Prelude.{ℕ, ◌+◌, ◌%◌, Bool, true, cond, not, ◌&&◌, ◌==◌}
use Rattle.machine.specs.declared.Core.{Core}
use Rattle.machine.specs.declared.Reply.TheVariants.{Trap, Halt}
use Rattle.machine.specs.Record.{wrap, register, with_register}
use Rattle.encoding.specs.declared.Instruction.{Instruction}
use Rattle.operands.specs.declared.Effect.{Effect}
use Rattle.conditions.specs.Conditions.{holds}
use Rattle.operands.specs.Operands.{operand_value, refused, went, next, target}

-- where the program goes on
abbrev pub jumped : Core → ℕ → Effect
jumped k eip = went k.regs eip k.flags 0

unfoldable pub do_jump_on : Instruction → Core → Effect
do_jump_on i k = jumped k (cond (holds i.operation k.flags.status) (target i k i.immediate) (next i k))

unfoldable pub do_jump : Instruction → Core → Effect
do_jump i k = jumped k (target i k i.immediate)

unfoldable pub do_jump_to : Instruction → Core → ℕ → Effect
do_jump_to i k a = jumped k (operand_value i k.regs a)

abbrev pub ecx : ℕ
ecx = 1

-- ECX less one, modulo 2^32
abbrev pub counted : Core → ℕ
counted k = wrap (register k.regs ecx + 4294967295)

-- LOOPNE 0: while ZF is clear; LOOPE 1: while it is set; LOOP 2
abbrev pub again : ℕ → Bool → Bool
again op zf = cond (op == 0) (not zf) (cond (op == 1) zf true)

abbrev pub looped : Instruction → Core → Effect
looped i k =
    went (with_register k.regs ecx (counted k))
    (cond (not (counted k == 0) && again i.operation k.flags.status.zf) (target i k i.immediate) (next i k)) k.flags 0

-- E3 jumps where ECX is 0, and does not count
unfoldable pub do_loop : Instruction → Core → Effect
do_loop i k =
    cond (i.operation == 3) (jumped k (cond (register k.regs ecx == 0) (target i k i.immediate) (next i k))) (looped i k)

-- CC has vector 3, CD its immediate byte
unfoldable pub do_trap : Instruction → Core → Effect
do_trap i k = refused k (Trap (i.immediate % 256) (next i k))

unfoldable pub do_halt : Instruction → Core → Effect
do_halt i k = refused k (Halt (next i k))
