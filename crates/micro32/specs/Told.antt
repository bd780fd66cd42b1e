-- What a call tells its caller: the reply by its number and values, the record, every byte of memory, and for a run the count.
-- Assumes nothing.
use Rattle.std.specs.Prelude.{ℕ}
use Rattle.machine.specs.declared.Cpu.{Cpu}
use Rattle.machine.specs.declared.Reply.{Reply}
use Rattle.machine.specs.Record.{Mem}
use Rattle.machine.specs.Replies.{Numbered, numbered}
use Rattle.machine.specs.Run.{Outcome, End}

pub record Told : Type 0 where
  pub reply : Numbered
  pub cpu : Cpu
  pub mem : Mem

abbrev pub telling : Reply → Cpu → Mem → Told
telling q r m = record { reply = numbered q; cpu = r; mem = m }

-- what a step's definition tells
abbrev pub told : Outcome → Told
told o = telling o.reply o.cpu o.mem

pub record RunTold : Type 0 where
  pub count : ℕ
  pub last : Told

abbrev pub run_telling : ℕ → Reply → Cpu → Mem → RunTold
run_telling n q r m = record { count = n; last = telling q r m }

-- what a run's definition tells
abbrev pub run_told : End → RunTold
run_told e = record { count = e.count; last = told e.last }
