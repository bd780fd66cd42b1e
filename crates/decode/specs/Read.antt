-- What the answers of the decoder's functions mean: with n bytes fetched from eip and nothing else done so far.
-- Assumes nothing.
use Rattle.std.specs.Prelude.{ℕ, ◌<◌, ◌≡◌, Result, Ok, Err}
use Rattle.machine.specs.declared.Reply.{Reply}
use Rattle.machine.specs.Paging.{View, view}
use Rattle.machine.specs.Act.{Res, ok, refuse}
use Rattle.encoding.specs.declared.Operand.{Operand}
use Rattle.encoding.specs.declared.Instruction.{Instruction}
use Rattle.fetch.specs.declared.Code.{Code}
use Rattle.fetch.specs.declared.Fetched.{Fetched}
use Rattle.fetch.specs.Read.{log_at, got_of}
use Rattle.decode.specs.declared.Formed.{Formed}
use Rattle.decode.specs.Decode.{prefixed, opcode}

-- what the code's step sees of memory
abbrev pub shown : Code → View
shown s = view s.view.mem.now s.view.control

abbrev pub formed_of : ℕ → Result Formed Reply → Res Operand
formed_of eip (Ok f) = ok f.operand (log_at eip f.length)
formed_of eip (Err q) = refuse q

abbrev pub ready_of : ℕ → Result Instruction Reply → Res Instruction
ready_of eip (Ok i) = ok i (log_at eip i.length)
ready_of eip (Err q) = refuse q

abbrev pub below : ℕ → Result Fetched Reply → Type 0
below limit (Ok b) = b.value < limit
below limit (Err q) = Unit {0}

pub record PrefixOk (s : Code) (r : Result Fetched Reply) : Type 0 where
  pub does : got_of s.eip r ≡ prefixed 16 s.eip (shown s) (log_at s.eip 0)
  pub small : below 256 r

pub record OpcodeOk (s : Code) (r : Result Fetched Reply) : Type 0 where
  pub does : got_of s.eip r ≡ opcode s.eip (shown s) (log_at s.eip 0)
  pub small : below 512 r
