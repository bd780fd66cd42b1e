-- What a host is told, in numbers: a reply's number, the up to three values that it carries and the count; and after a run the record and every byte of memory.
-- Assumes nothing.
use Rattle.std.specs.Prelude.{ℕ, get_or}
use Rattle.machine.specs.declared.Cpu.{Cpu}
use Rattle.machine.specs.declared.Reply.{Reply}
use Rattle.machine.specs.Record.{Mem}
use Rattle.machine.specs.Replies.{Numbered, numbered}
use Rattle.machine.specs.Run.{End}
use Rattle.micro32.specs.declared.Answer.{Answer}
use Rattle.micro32.specs.Told.{RunTold, run_told}

-- the number and the values of a numbered reply; a value that it doesn't carry is 0
abbrev pub answering : Numbered → ℕ → Answer
answering q n = record { number = q.number; a = get_or q.carries 0 0; b = get_or q.carries 1 0; c = get_or q.carries 2 0; count = n }

abbrev pub answer_of : Reply → ℕ → Answer
answer_of q n = answering (numbered q) n

pub record Answered : Type 0 where
  pub answer : Answer
  pub cpu : Cpu
  pub mem : Mem

abbrev pub answered : RunTold → Answered
answered t = record { answer = answering t.last.reply t.count; cpu = t.last.cpu; mem = t.last.mem }

-- what a run's definition answers a host
abbrev pub ran_answered : End → Answered
ran_answered e = answered (run_told e)
