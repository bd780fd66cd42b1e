-- What the answers of the fetching functions mean: with n bytes fetched from eip and nothing else done so far.
-- Assumes nothing.
use Rattle.std.specs.Prelude.{◌≡◌, ℕ, ◌+◌, ◌<◌, false, [], Result, Ok, Err}
use Rattle.machine.specs.Record.{Mem}
use Rattle.machine.specs.declared.Control.{Control}
use Rattle.machine.specs.declared.Reply.{Reply}
use Rattle.machine.specs.Paging.{view}
use Rattle.machine.specs.Act.{Log, Res, ok, refuse, fetch}
use Rattle.access.specs.Located.{span}
use Rattle.fetch.specs.declared.Fetched.{Fetched}

abbrev pub log_at : ℕ → ℕ → Log
log_at eip n = record { fetched = n; touches = span false eip n; stores = [] }

abbrev pub got_of : ℕ → Result Fetched Reply → Res ℕ
got_of eip (Ok b) = ok b.value (log_at eip b.length)
got_of eip (Err q) = refuse q

-- a byte, and one more fetched
abbrev pub byte_in : ℕ → Result Fetched Reply → Type 0
byte_in n (Ok b) = (b.value < 256) × (b.length ≡ n + 1)
byte_in n (Err q) = Unit {0}

pub record FetchOk (m : Mem) (c : Control) (eip n : ℕ) (r : Result Fetched Reply) : Type 0 where
  pub does : got_of eip r ≡ fetch eip (view m c) (log_at eip n)
  pub small : byte_in n r
