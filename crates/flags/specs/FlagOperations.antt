-- CMC CLC STC CLI STI CLD STD, SAHF and LAHF.
-- Assumes nothing.
use Rattle.std.specs.Prelude.{ℕ, ◌+◌, ◌*◌, ◌%◌, Bool, true, false, cond, not, eqb}
use Rattle.machine.specs.declared.Flags.{Flags}
use Rattle.machine.specs.declared.Core.{Core}
use Rattle.machine.specs.Record.{digit, byte_register, with_byte}
use Rattle.alu.specs.declared.Status.{Status}
use Rattle.encoding.specs.declared.Instruction.{Instruction}
use Rattle.operands.specs.declared.Effect.{Effect}
use Rattle.machine.specs.Record.{has}
use Rattle.operands.specs.Operands.{onward, went, next}

abbrev pub with_carry : Flags → Bool → Flags
with_carry f b =
    record {
      status = record { cf = b; pf = f.status.pf; af = f.status.af; zf = f.status.zf; sf = f.status.sf; of = f.status.of };
      interrupt = f.interrupt;
      direction = f.direction;
    }

abbrev pub with_interrupt : Flags → Bool → Flags
with_interrupt f b = record { status = f.status; interrupt = b; direction = f.direction }

abbrev pub with_direction : Flags → Bool → Flags
with_direction f b = record { status = f.status; interrupt = f.interrupt; direction = b }

-- by the opcode's low four bits: CMC 5, CLC 8, STC 9, CLI 10, STI 11, CLD 12; any other is STD, 13
unfoldable pub changed : ℕ → Flags → Flags
changed op f =
    cond (eqb op 5) (with_carry f (not f.status.cf))
    (cond (eqb op 8) (with_carry f false)
    (cond (eqb op 9) (with_carry f true)
    (cond (eqb op 10) (with_interrupt f false)
    (cond (eqb op 11) (with_interrupt f true) (with_direction f (not (eqb op 12)))))))

unfoldable pub do_flag : Instruction → Core → Effect
do_flag i k = went k.regs (next i k) (changed i.operation k.flags) 0

-- AH is byte register 4: SF ZF AF PF CF at bits 7 6 4 2 0, and 1 at bit 1
abbrev pub ah : ℕ
ah = 4

abbrev pub from_byte : Status → ℕ → Status
from_byte s x = record { cf = eqb (x % 2) 1; pf = has 4 x; af = has 16 x; zf = has 64 x; sf = has 128 x; of = s.of }

abbrev pub to_byte : Status → ℕ
to_byte s = 2 + 1 * digit s.cf + 4 * digit s.pf + 16 * digit s.af + 64 * digit s.zf + 128 * digit s.sf

-- SAHF 14; any other is LAHF, 15
unfoldable pub do_transfer : Instruction → Core → Effect
do_transfer i k =
    cond (eqb i.operation 14)
    (went k.regs (next i k)
    (record { status = from_byte k.flags.status (byte_register k.regs ah); interrupt = k.flags.interrupt; direction = k.flags.direction }) 0)
    (onward i k (with_byte k.regs ah (to_byte k.flags.status)))
