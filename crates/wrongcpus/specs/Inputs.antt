-- The wrong CPUs of document 01 ("Holding the promises to one reading"), each at a small input: what the definition answers there.
-- Assumes nothing.
use Rattle.std.specs.Prelude.{ℕ, Bool, true, false, not, ◌&&◌, List, [], ◌∷◌, set, replicate, eqb}
use Rattle.machine.specs.declared.Cpu.{Cpu}
use Rattle.machine.specs.Record.{Mem}
use Rattle.machine.specs.Replies.{numbered}
use Rattle.machine.specs.Run.{Outcome, End, step, steps}
use Rattle.phases.specs.Step.{micro32}

-- one page of zeros but for these bytes at its start
abbrev pub page : ℕ → ℕ → Mem
page a b = set (set (replicate 4096 0) 0 a) 1 b

-- ring 0, paging off, EIP 0
abbrev pub kernel : Cpu
kernel = record {
  regs = record { e = 0 ∷ 0 ∷ 0 ∷ 0 ∷ 0 ∷ 0 ∷ 0 ∷ 0 ∷ [] };
  eip = 0;
  eflags = 2;
  control = record { cr0 = 1; cr2 = 0; cr3 = 0; ring = 0 };
}

-- 40 is INC EAX, F4 is HLT
abbrev pub inc_inc : Mem
inc_inc = page 0x40 0x40

abbrev pub inc_halt : Mem
inc_halt = page 0x40 0xf4

abbrev pub answers : Outcome → ℕ → Bool
answers o n = eqb (numbered o.reply).number n

abbrev pub eip_is : Outcome → ℕ → Bool
eip_is o n = eqb o.cpu.eip n

-- Not built every time: but INC EAX is Done
abbrev pub not_built_always : Bool
not_built_always = answers (step micro32 inc_inc kernel) 0

-- a reply that never varies: but INC EAX is Done and HLT is Halt
abbrev pub never_varies : Bool
never_varies = answers (step micro32 inc_inc kernel) 0 && answers (step micro32 (page 0xf4 0) kernel) 3

-- Done and nothing moved: but after INC EAX, EIP is 1
abbrev pub nothing_moved : Bool
nothing_moved = answers (step micro32 inc_inc kernel) 0 && eip_is (step micro32 inc_inc kernel) 1

-- one real step and the rest pretended: but after two steps EIP is 2
abbrev pub one_real_step : Bool
one_real_step = eqb (steps micro32 2 inc_inc kernel).count 2 && eip_is (steps micro32 2 inc_inc kernel).last 2

-- an invented count: but before HLT one step is Done, whatever the budget
abbrev pub invented_count : Bool
invented_count = eqb (steps micro32 3 inc_halt kernel).count 1 && answers (steps micro32 3 inc_halt kernel).last 3
