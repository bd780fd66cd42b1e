-- Pages that can be used with nothing left to mark: what the quick way through a run asks of the maps.
-- Assumes nothing.
use Rattle.std.specs.Prelude.{◌≡◌, ℕ, ◌+◌, ◌/◌, ◌%◌, ◌<◌, ◌≤◌, Bool, false, not, ◌&&◌, ◌||◌, List, length, ◌==◌, nat_le, slice_index_or, Option, Some, None, Ok}
use Rattle.machine.specs.Record.{Mem, at, has, user, write_protect}
use Rattle.machine.specs.declared.Control.{Control}
use Rattle.machine.specs.Paging.{dword_at, slot, dir_frame, dir_index, tab_index}
use Rattle.machine.specs.Commit.{patches}
use Rattle.paging.specs.declared.Physical.{Physical}
use Rattle.paging.specs.declared.Entries.{Entries}
use Rattle.keptpages.specs.declared.Pair.{Pair}
use Rattle.keptpages.specs.declared.Kept.{Kept}
use Rattle.paging.specs.Walked.{Walked, patches_of}

-- the byte at linear address l lies at p, and marking its page changes nothing
pub record Quiet (m : Mem) (c : Control) (w : Bool) (l : ℕ) (p : Physical) : Type 0 where
  pub entries : Option Entries
  pub walked : Walked m c w l (Ok (record { place = p; entries = entries }))
  pub marked : patches (patches_of w entries) m ≡ m

-- where the byte at l lies, if it may be used as it is
abbrev pub SettledOk : Mem → Control → Bool → ℕ → Option ℕ → Type 0
SettledOk m c w l (Some p) = Quiet m c w l (record { 0 = p })
SettledOk m c w l None = Unit {0}

-- ---- the two entries of a page

-- where they lie and what they hold
pub record Pairs (m : Mem) (c : Control) (l : ℕ) (e : Pair) : Type 0 where
  pub dir_at : e.dir ≡ slot (dir_frame c) (dir_index l)
  pub dir_in : e.dir < length m
  pub dir_is : e.pde ≡ dword_at m e.dir
  pub tab_at : e.tab ≡ slot (e.pde / 4096) (tab_index l)
  pub tab_in : e.tab < length m
  pub tab_is : e.pte ≡ dword_at m e.tab

-- is a write held to R/W?
abbrev pub held_to_write : Control → Bool → Bool
held_to_write c w = w && (user c || write_protect c)

-- an entry that is present and accessed, with U/S, R/W and D where they are asked for
abbrev pub passes : Bool → Bool → Bool → ℕ → Bool
passes us rw' d x = x % 2 == 1 && has 32 x && (not us || has 4 x) && (not rw' || has 2 x) && (not d || has 64 x)

-- may the page of these entries be used so, with nothing to mark?
unfoldable pub usable : Control → Bool → Pair → Bool
usable c w e = passes (user c) (held_to_write c w) false e.pde && passes (user c) (held_to_write c w) w e.pte

-- ---- a page that is kept from step to step, for reading or for writing

-- the two memories have the same bytes in a frame
abbrev pub Agree : Mem → Mem → ℕ → Type 0
Agree m m' f = (i : ℕ) → i / 4096 ≡ f → at m' i ≡ at m i

-- every byte of the page lies where it should, in any memory that has the directory's frame and the table's as they are in m
abbrev pub Stays : Mem → Control → Bool → Kept → Type 0
Stays m c w h =
    (m' : Mem) → length m' ≡ length m → Agree m m' (dir_frame c) → Agree m m' h.table
    → (l : ℕ) → l < 4294967296 → l / 4096 ≡ h.page → Quiet m' c w l (record { 0 = h.base + l % 4096 })

-- a number above any page's stands for none
pub record KeptOk (m : Mem) (c : Control) (w : Bool) (h : Kept) : Type 0 where
  pub low : h.page < 1048576 → h.base + 4096 ≤ 4294967296
  pub whole : h.page < 1048576 → h.base + 4096 < length m + 1
  pub stays : h.page < 1048576 → Stays m c w h

-- ---- pages of data, with their entries in table t: the first sixteen are kept for reading, the others for writing

abbrev pub entry_in : List ℕ → ℕ → ℕ
entry_in d k = slice_index_or d k 18446744073709551615

-- the page's number is above the index where it begins
abbrev pub page_in : List ℕ → ℕ → ℕ → Kept
page_in d t k = record { page = entry_in d k / 4294967296; base = entry_in d k % 4294967296; table = t }

abbrev pub HeldOk : Mem → Control → ℕ → List ℕ → Type 0
HeldOk m c t d = (k : ℕ) → KeptOk m c (nat_le 16 k) (page_in d t k)
