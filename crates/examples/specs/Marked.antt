-- The marked examples of document 01, in its order: each line asks the step's own definitions and gives the answer that is printed.
-- Assumes nothing.
use Rattle.std.specs.Prelude.{ℕ, ◌+◌, ◌-◌, ◌/◌, ◌%◌, Bool, true, false, ◌&&◌, List, [], ◌∷◌, set, replicate, eqb, Option, Some, None}
use Rattle.alu.specs.declared.Status.{Status}
use Rattle.alu.specs.declared.Out.{Out}
use Rattle.alu.specs.Arithmetic.{bit, operate, operate_one, mov}
use Rattle.shifts.specs.Shifts.{shift}
use Rattle.products.specs.declared.Division.{Division}
use Rattle.products.specs.Products.{divided, quotient}
use Rattle.encoding.specs.declared.Family.TheVariants.{CombineFrom}
use Rattle.encoding.specs.declared.Operand.{Operand}
use Rattle.encoding.specs.declared.Instruction.{Instruction}
use Rattle.encoding.specs.Families.{number_of}
use Rattle.decode.specs.Decode.{decode, in_memory}
use Rattle.machine.specs.declared.Control.{Control}
use Rattle.machine.specs.declared.Reply.{Reply}
use Rattle.machine.specs.declared.Reply.TheVariants.{Fault}
use Rattle.machine.specs.Record.{Mem}
use Rattle.machine.specs.Replies.{numbered}
use Rattle.machine.specs.Paging.{Translation, At, No, dword_at, translate, view}
use Rattle.machine.specs.Commit.{Touch, commit}
use Rattle.machine.specs.Act.{Res, ok, refuse, touch}

-- ---- what an example says

pub data Flag : Type 0 where
  CF PF AF ZF SF OF : Flag

infix 70 ◌is◌ ◌lies-at◌
-- a flag and its state
pub data Printed : Type 0 where
  ◌is◌ : Flag → ℕ → Printed

-- an entry and its physical address
pub data Placed : Type 0 where
  ◌lies-at◌ : ℕ → ℕ → Placed

-- a walk reaches a physical address and leaves entries, or ends in a reply
pub data Walked : Type 0 where
  reaches : ℕ → List Placed → Walked
  ends : Reply → Walked

-- an operation with its value and flags, or a division with its answer, where None is Fault 0; bytes with the instruction that they
-- are; with CR3 and entries in memory, a user's access with its end
pub data Example : Type 0 where
  operation : Out → ℕ → List Printed → Example
  division : Option Division → Option Division → Example
  encoding : List ℕ → Instruction → Example
  walk : ℕ → List Placed → Touch → Walked → Example

-- ---- whether it holds

abbrev pub same : List ℕ → List ℕ → Bool
same [] [] = true
same [] (y ∷ ys) = false
same (x ∷ xs) [] = false
same (x ∷ xs) (y ∷ ys) = eqb x y && same xs ys

abbrev pub state : Status → Flag → Bool
state s CF = s.cf
state s PF = s.pf
state s AF = s.af
state s ZF = s.zf
state s SF = s.sf
state s OF = s.of

abbrev pub shows : Status → List Printed → Bool
shows s [] = true
shows s ((f is n) ∷ ps) = eqb (bit (state s f)) n && shows s ps

abbrev pub same_quotient : Option Division → Option Division → Bool
same_quotient None None = true
same_quotient None (Some d) = false
same_quotient (Some d) None = false
same_quotient (Some d) (Some e) = eqb d.quotient e.quotient && eqb d.remainder e.remainder

abbrev pub fields : Instruction → List ℕ
fields i =
    number_of i.family ∷ i.operation ∷ bit i.wide ∷ i.register ∷ bit i.operand.direct ∷ i.operand.register ∷ i.operand.base
    ∷ i.operand.index ∷ i.operand.scale ∷ i.operand.displacement ∷ i.immediate ∷ i.length ∷ []

abbrev pub decodes : Res Instruction → Instruction → Bool
decodes (ok i g) j = same (fields i) (fields j)
decodes (refuse r) j = false

-- paging off: the bytes lie from address 0 on, and nothing behind them
abbrev pub flat : Control
flat = record { cr0 = 1; cr2 = 0; cr3 = 0; ring = 0 }

-- paging on, ring 3
abbrev pub user : ℕ → Control
user cr3 = record { cr0 = 0x80000001; cr2 = 0; cr3 = cr3; ring = 3 }

-- six frames, all 0 but these entries
abbrev pub memory : List Placed → Mem
memory [] = replicate 0x6000 0
memory ((e lies-at a) ∷ es) =
    set (set (set (set (memory es) a (e % 256)) (a + 1) (e / 256 % 256)) (a + 2) (e / 65536 % 256)) (a + 3) (e / 16777216)

abbrev pub holds : Mem → List Placed → Bool
holds m [] = true
holds m ((e lies-at a) ∷ es) = eqb (dword_at m a) e && holds m es

-- after is the memory once the step has marked its page
abbrev pub walks : Mem → Translation → Walked → Bool
walks after (At p) (reaches q es) = eqb p q && holds after es
walks after (At p) (ends r) = false
walks after (No r) (reaches q es) = false
walks after (No r) (ends q) = eqb (numbered r).number (numbered q).number && same (numbered r).carries (numbered q).carries

abbrev pub right : Example → Bool
right (operation o x ps) = eqb o.value x && shows o.status ps
right (division q p) = same_quotient q p
right (encoding bs i) = decodes (decode 0 (view bs flat) (record { fetched = 0; touches = []; stores = [] })) i
right (walk cr3 es t o) =
    walks (commit (memory es) (user cr3) (t ∷ []) []) (translate (memory es) (user cr3) t.write t.linear) o

abbrev pub all_right : List Example → Bool
all_right [] = true
all_right (x ∷ xs) = right x && all_right xs

-- ---- the document's words, for dwords

-- all flags clear, or CF alone set
abbrev pub clear : Status
clear = record { cf = false; pf = false; af = false; zf = false; sf = false; of = false }

abbrev pub carry : Status
carry = record { cf = true; pf = false; af = false; zf = false; sf = false; of = false }

-- by the numbers that decoding gives
abbrev pub ADD : ℕ → ℕ → Status → Out
ADD = operate 0 true

abbrev pub ADC : ℕ → ℕ → Status → Out
ADC = operate 2 true

abbrev pub SBB : ℕ → ℕ → Status → Out
SBB = operate 3 true

abbrev pub SUB : ℕ → ℕ → Status → Out
SUB = operate 5 true

abbrev pub DEC : ℕ → Status → Out
DEC = operate_one 1 true

abbrev pub NEG : ℕ → Status → Out
NEG = operate_one 3 true

-- a value by a count
abbrev pub SHL : ℕ → ℕ → Status → Out
SHL v count s = shift 4 true count v s

-- EDX:EAX by a divisor
abbrev pub IDIV : ℕ → ℕ → ℕ → Option Division
IDIV = quotient true true

-- the dword of -n
abbrev pub minus : ℕ → ℕ
minus n = 4294967296 - n

-- to a register from memory, in so many bytes
abbrev pub MOV : ℕ → Operand → ℕ → Instruction
MOV r o n =
    record { family = CombineFrom; operation = mov; wide = true; register = r; operand = o; immediate = 0; length = n }

abbrev pub EAX : ℕ
EAX = 0

abbrev pub EBX : ℕ
EBX = 3

abbrev pub ESI : ℕ
ESI = 6

abbrev pub no_base : ℕ
no_base = 8

abbrev pub read : ℕ → Touch
read = touch false

abbrev pub write : ℕ → Touch
write = touch true

-- ---- the list

unfoldable pub examples : List Example
examples =
    operation (ADD 0x7fffffff 1 clear) 0x80000000 (CF is 0 ∷ PF is 1 ∷ AF is 1 ∷ ZF is 0 ∷ SF is 1 ∷ OF is 1 ∷ [])
    ∷ operation (SUB 0 1 clear) 0xffffffff (CF is 1 ∷ AF is 1 ∷ OF is 0 ∷ [])
    ∷ operation (SBB 5 0xffffffff carry) 5 (CF is 1 ∷ AF is 1 ∷ OF is 0 ∷ [])
    ∷ operation (ADC 0xffffffff 0 carry) 0 (CF is 1 ∷ ZF is 1 ∷ [])
    ∷ operation (NEG 0x80000000 clear) 0x80000000 (CF is 1 ∷ OF is 1 ∷ AF is 0 ∷ [])
    ∷ operation (DEC 0x80000000 clear) 0x7fffffff (OF is 1 ∷ [])
    ∷ operation (SHL 0x80000001 1 clear) 2 (CF is 1 ∷ OF is 1 ∷ [])
    ∷ division (IDIV (minus 1) (minus 7) 2) (divided (minus 3) (minus 1))
    ∷ division (IDIV 0xffffffff 0x80000000 (minus 1)) None
    ∷ encoding (0x8b ∷ 0x44 ∷ 0xb3 ∷ 0x08 ∷ []) (MOV EAX (in_memory EBX ESI 4 8) 4)
    ∷ encoding (0x8b ∷ 0x04 ∷ 0x75 ∷ 0x00 ∷ 0x10 ∷ 0x00 ∷ 0x00 ∷ []) (MOV EAX (in_memory no_base ESI 2 0x1000) 7)
    ∷ walk 0x1000 (0x2007 lies-at 0x1004 ∷ 0x5005 lies-at 0x200c ∷ []) (read 0x403a10)
    (reaches 0x5a10 (0x2027 lies-at 0x1004 ∷ 0x5025 lies-at 0x200c ∷ []))
    ∷ walk 0x1000 (0x2007 lies-at 0x1004 ∷ 0x5005 lies-at 0x200c ∷ []) (write 0x403a10) (ends (Fault 14 7 0x403a10))
    ∷ []
