-- What comes of an instruction in its short form.
-- Assumes nothing.
use Rattle.std.specs.Prelude.{ℕ, ◌+◌, ◌%◌, Bool, true, false, cond, not, ◌||◌, List, ◌==◌, nat_lt, slice_index}
use Rattle.alu.specs.declared.Status.{Status}
use Rattle.alu.specs.declared.Out.{Out}
use Rattle.alu.specs.Arithmetic.{operation, operate, single, operate_one}
use Rattle.shifts.specs.Shifts.{shift}
use Rattle.products.specs.declared.Product.{Product}
use Rattle.products.specs.Products.{product}
use Rattle.machine.specs.declared.Registers.{Registers}
use Rattle.machine.specs.declared.Core.{Core}
use Rattle.machine.specs.declared.Want.{Want}
use Rattle.machine.specs.declared.Want.TheVariants.{Nothing, Read, Write}
use Rattle.machine.specs.Record.{wrap, with_register, write_at}
use Rattle.operands.specs.Operands.{esp, with_status}
use Rattle.outcome.specs.declared.Fast.{Fast}

-- registers from their list
abbrev pub file : List ℕ → Registers
file e = record { e = e }

-- ---- the one access: 0 none, 1 a read of the left operand, 2 a read of the right one, 3 a read-and-write of the left one, 4 a push, 5 a pop,
-- 6 a return

abbrev pub asks : ℕ → Fast → Bool
asks n p = p.access == n

-- the memory operand's
unfoldable pub want_first : Fast → Want
want_first p = cond (asks 0 p || asks 4 p) Nothing (cond (asks 3 p) (Write p.wide p.at) (Read p.wide p.at))

-- what is pushed
unfoldable pub want_second : Fast → Want
want_second p = cond (asks 4 p) (Write p.wide p.at) Nothing

abbrev pub stores : Fast → Bool
stores p = asks 3 p || asks 4 p

-- ---- what comes of it, where a is the value found

abbrev pub left_of : Fast → ℕ → ℕ
left_of p a = cond (asks 1 p || asks 3 p) a p.x

-- a return has no use for it
abbrev pub right_of : Fast → ℕ → ℕ
right_of p a = cond (asks 0 p || asks 4 p || asks 1 p || asks 3 p) p.y a

abbrev pub low_out : Product → Out
low_out q = record { value = q.low; status = q.status }

-- over the width w: by number as the operations of two operands have it, up to MOV, 9; 10 is INC, and any other DEC
unfoldable pub operated : ℕ → ℕ → ℕ → ℕ → Status → Out
operated op w x y s = cond (nat_lt op 10) (operation op w x y s) (cond (op == 10) (single 0 w x s) (single 1 w x s))

-- by number as the operations of two operands have it, up to MOV, 9; 10 is INC, 11 DEC; of dwords alone 14 is IMUL, and 12, 13 and 15 are SHL,
-- SHR and SAR of x by y places
unfoldable pub out_of : ℕ → Bool → ℕ → ℕ → Status → Out
out_of op wide x y s =
    cond (nat_lt op 10) (operate op wide x y s)
    (cond (op == 10) (operate_one 0 wide x s)
    (cond (not wide || op == 11) (operate_one 1 wide x s) (cond (op == 14) (low_out (product true true x y s)) (shift (op % 8) true y x s))))

unfoldable pub result_of : Fast → ℕ → Status → Out
result_of p a s = out_of p.op p.wide (left_of p a) (right_of p a) s

-- ESP after a push, and after a pop or a return
unfoldable pub stacked : Fast → Registers → Registers
stacked p r = cond (asks 4 p) (with_register r esp p.at) (cond (asks 5 p || asks 6 p) (with_register r esp (wrap (p.at + 4))) r)

-- the register that takes the result x
unfoldable pub deposit_of : Fast → Registers → ℕ → Registers
deposit_of p r x = cond (nat_lt p.to 8) (write_at p.wide r p.to x) r

abbrev pub registers_after : Fast → Registers → ℕ → Registers
registers_after p r x = deposit_of p (stacked p r) x

abbrev pub next_of : Fast → ℕ → ℕ
next_of p a = cond (asks 6 p) a p.next

unfoldable pub core_after : Fast → Core → ℕ → Core
core_after p k a =
    record {
      regs = registers_after p k.regs (result_of p a k.flags.status).value;
      eip = next_of p a;
      flags = with_status k.flags (result_of p a k.flags.status).status;
    }

-- MUL of EAX by the register whose value is x: the halves go to EAX and EDX
abbrev pub doubled_in : Fast → List ℕ → Status → Product
doubled_in p e s = product false true (slice_index e 0) p.x s

abbrev pub doubled_of : Fast → Core → Product
doubled_of p k = doubled_in p k.regs.e k.flags.status

unfoldable pub doubled_after : Fast → Core → Core
doubled_after p k =
    record {
      regs = with_register (with_register k.regs 0 (doubled_of p k).low) 2 (doubled_of p k).high;
      eip = p.next;
      flags = with_status k.flags (doubled_of p k).status;
    }
