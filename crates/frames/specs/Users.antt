-- The frames behind user-writable pages: P, R/W and U/S are set in both entries (document 01, "The audit").
-- Assumes nothing.
use Rattle.std.specs.Prelude.{ℕ, ◌/◌, ◌%◌, Bool, ◌&&◌, ◌==◌}
use Rattle.machine.specs.declared.Control.{Control}
use Rattle.machine.specs.Record.{Mem}
use Rattle.machine.specs.Paging.{dword_at, slot, dir_frame}
use Rattle.machine.specs.Audit.{first, is_some}

-- an entry of a table that opens frame f
abbrev pub opens_to : ℕ → ℕ → Bool
opens_to f e = e % 8 == 7 && f == e / 4096

abbrev pub opens_at : Mem → ℕ → ℕ → ℕ → Bool
opens_at m t f i = opens_to f (dword_at m (slot t i))

-- the table in frame t opens frame f
unfoldable pub opened : Mem → ℕ → ℕ → Bool
opened m t f = is_some (first (opens_at m t f) 1024)

-- an entry of the directory whose table opens frame f
abbrev pub leads_to : Mem → ℕ → ℕ → Bool
leads_to m f e = e % 8 == 7 && opened m (e / 4096) f

abbrev pub leads_at : Mem → Control → ℕ → ℕ → Bool
leads_at m c f d = leads_to m f (dword_at m (slot (dir_frame c) d))

-- the user may write frame f
unfoldable pub users : Mem → Control → ℕ → Bool
users m c f = is_some (first (leads_at m c f) 1024)
