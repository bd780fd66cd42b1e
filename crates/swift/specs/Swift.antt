-- The quick way through a run, from a record to a record.
-- Assumes nothing.
use Rattle.std.specs.Prelude.{ℕ, ◌-◌, ◌≤◌, ◌≡◌, true}
use Rattle.machine.specs.declared.Cpu.{Cpu}
use Rattle.machine.specs.Record.{Mem, sound}
use Rattle.machine.specs.Run.{steps}
use Rattle.phases.specs.Step.{micro32}
use Rattle.hops.specs.Hops.{after}

-- n quick steps are n steps of the definition
pub record DashOk (m : Mem) (c : Cpu) (n : ℕ) (m' : Mem) (c' : Cpu) : Type 0 where
  pub holds : sound m c ≡ true → sound m' c' ≡ true
  pub went : sound m c ≡ true → (b : ℕ) → n ≤ b → steps micro32 b m c ≡ after n (steps micro32 (b - n) m' c')
