-- An instruction in a form that its bytes alone decide; and what it is in the short form where the registers are e, at eip, with the status s.
-- Assumes nothing.
use Rattle.std.specs.Prelude.{ℕ, ◌+◌, ◌-◌, ◌/◌, ◌<◌, ◌≡◌, Bool, true, false, cond, List, eqb, get_or}
use Rattle.alu.specs.declared.Status.{Status}
use Rattle.machine.specs.Record.{Mem, wrap, read_at}
use Rattle.conditions.specs.Conditions.{holds}
use Rattle.outcome.specs.declared.Fast.{Fast}
use Rattle.outcome.specs.Outcome.{file}
use Rattle.shortcut.specs.Forms.{taking, jump_fast, push_fast, pop_fast}
use Rattle.shortcut.specs.Shortcut.{FastOk}
use Rattle.forms.specs.declared.Form.{Form}

-- ---- what the fields say

abbrev pub reg : List ℕ → ℕ → ℕ
reg e n = get_or e n 0

-- the instruction that follows
abbrev pub next_in : Form → ℕ → ℕ
next_in f eip = wrap (eip + f.length)

-- a memory operand: a register and the number beside it
abbrev pub spot_in : Form → List ℕ → ℕ
spot_in f e = wrap (reg e f.b + f.number)

abbrev pub target : Form → ℕ → ℕ
target f eip = wrap (next_in f eip + f.number)

-- ---- the forms

-- an operation that stores nothing
abbrev pub working : ℕ → Bool → ℕ → ℕ → ℕ → ℕ → ℕ → ℕ → Fast
working op wide access at x y to next =
    record { taken = true; jumps = false; doubling = false; op = op; wide = wide; access = access; at = at; x = x; y = y; to = to; next = next }

-- a register by a register
abbrev pub by_register : Form → ℕ → List ℕ → ℕ → Fast
by_register f op e eip = working op true 0 0 (reg e f.a) (reg e f.b) (taking op f.a) (next_in f eip)

-- a register by a number; MOV, whatever the register holds
abbrev pub by_number : Form → ℕ → List ℕ → ℕ → Fast
by_number f op e eip = working op true 0 0 (cond (eqb op 9) 0 (reg e f.a)) f.number (taking op f.a) (next_in f eip)

-- a register by a dword of memory
abbrev pub by_memory : Form → ℕ → List ℕ → ℕ → Fast
by_memory f op e eip = working op true 2 (spot_in f e) (reg e f.a) (reg e f.b) (taking op f.a) (next_in f eip)

-- a byte register by a byte of memory
abbrev pub by_byte : Form → ℕ → List ℕ → ℕ → Fast
by_byte f op e eip = working op false 2 (spot_in f e) (read_at false (file e) f.a) (read_at false (file e) f.b) (taking op f.a) (next_in f eip)

-- MUL of EAX by a register
abbrev pub doubling : Form → List ℕ → ℕ → Fast
doubling f e eip =
    record { taken = false; jumps = false; doubling = true; op = 9; wide = true; access = 0; at = 0; x = reg e f.b; y = 0; to = 8; next = next_in f eip }

-- no form
abbrev pub nothing : Fast
nothing = record { taken = false; jumps = false; doubling = false; op = 0; wide = true; access = 0; at = 0; x = 0; y = 0; to = 8; next = 0 }

-- those of their own: MOV to memory, PUSH of a register and of a number, POP, CALL, JMP, RET, LEA, CMP, MOV and TEST of bytes, MUL, IMUL
abbrev pub single : Form → List ℕ → ℕ → Fast
single f e eip =
    cond (eqb f.kind 64) (working 9 true 3 (spot_in f e) (reg e f.b) (reg e f.a) 8 (next_in f eip))
    (cond (eqb f.kind 65) (push_fast e (reg e f.b) (next_in f eip))
    (cond (eqb f.kind 66) (push_fast e f.number (next_in f eip))
    (cond (eqb f.kind 67) (pop_fast e 5 f.a (next_in f eip))
    (cond (eqb f.kind 68) (push_fast e (next_in f eip) (target f eip))
    (cond (eqb f.kind 69) (jump_fast (target f eip))
    (cond (eqb f.kind 70) (pop_fast e 6 8 (next_in f eip))
    (cond (eqb f.kind 71) (working 9 true 0 0 0 (spot_in f e) f.a (next_in f eip))
    (cond (eqb f.kind 72) (by_byte f 7 e eip)
    (cond (eqb f.kind 73) (by_byte f 9 e eip)
    (cond (eqb f.kind 74) (working 8 false 0 0 (read_at false (file e) f.a) (read_at false (file e) f.b) 8 (next_in f eip))
    (cond (eqb f.kind 75) (doubling f e eip)
    (cond (eqb f.kind 76) (working 14 true 0 0 (reg e f.b) f.number f.a (next_in f eip))
    nothing))))))))))))

-- by kind: below 16 the operation by a register, then by a number, then by memory, then the conditions
unfoldable pub meant : Form → List ℕ → ℕ → Status → Fast
meant f e eip s =
    cond (eqb (f.kind / 16) 0) (by_register f f.kind e eip)
    (cond (eqb (f.kind / 16) 1) (by_number f (f.kind - 16) e eip)
    (cond (eqb (f.kind / 16) 2) (by_memory f (f.kind - 32) e eip)
    (cond (eqb (f.kind / 16) 3) (jump_fast (cond (holds (f.kind - 48) s) (target f eip) (next_in f eip)))
    (single f e eip))))

-- ---- the instruction at index i of memory is this one, whatever the registers hold

abbrev pub FormOk : Mem → ℕ → Form → Type 0
FormOk m i f = (e : List ℕ) (s : Status) (eip : ℕ) → reg e f.b < 4294967296 → reg e 8 ≡ 0 → FastOk m e s eip i (meant f e eip s)

-- the fields have room in a number of 64 bits
pub record Small (f : Form) : Type 0 where
  pub kind : f.kind < 128
  pub length : f.length < 16
  pub a : f.a < 8
  pub b : f.b < 8
  pub number : f.number < 4294967296

abbrev pub ReadOk : Mem → ℕ → Form → Type 0
ReadOk m i f = (FormOk m i f) × (Small f)
