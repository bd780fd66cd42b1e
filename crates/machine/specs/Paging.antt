-- Walking the pages, and what a step sees of memory (document 01, "Walking the pages").
-- Assumes nothing.
use Rattle.std.specs.Prelude.{ℕ, ◌+◌, ◌*◌, ◌/◌, ◌%◌, Bool, true, false, not, ◌&&◌, ◌||◌, cond, length, ltb, eqb}
use Rattle.machine.specs.declared.Control.{Control}
use Rattle.machine.specs.declared.Reply.{Reply}
use Rattle.machine.specs.declared.Reply.TheVariants.{Fault, NoMemory}
use Rattle.machine.specs.Record.{Mem, at, has, paging, write_protect, user}

-- ---- entries

-- an entry names nothing, or a frame with its U/S and R/W bits
pub data Entry : Type 0 where
  Gone : Entry
  Names : Bool → Bool → ℕ → Entry

-- P is bit 0, R/W bit 1, U/S bit 2, the frame bits 31 to 12
unfoldable pub entry_of : ℕ → Entry
entry_of e = cond (eqb (e % 2) 1) (Names (has 4 e) (has 2 e) (e / 4096)) Gone

-- the dword at a physical address
abbrev pub dword_at : Mem → ℕ → ℕ
dword_at m a = at m a + 256 * at m (a + 1) + 65536 * at m (a + 2) + 16777216 * at m (a + 3)

-- where entry i of the table in frame f lies, and what it says
abbrev pub slot : ℕ → ℕ → ℕ
slot f i = f * 4096 + i * 4

abbrev pub entry : Mem → ℕ → ℕ → Entry
entry m f i = entry_of (dword_at m (slot f i))

abbrev pub dir_frame : Control → ℕ
dir_frame c = c.cr3 / 4096

-- a linear address: bits 31 to 22, 21 to 12, 11 to 0
abbrev pub dir_index : ℕ → ℕ
dir_index l = l / 4194304 % 1024

abbrev pub tab_index : ℕ → ℕ
tab_index l = l / 4096 % 1024

abbrev pub offset : ℕ → ℕ
offset l = l % 4096

-- ---- what the maps say of a page, whoever asks

-- an entry lies past memory, at this address; or one is absent; or both are there: U/S and R/W of both together, the page's frame,
-- and where the two entries lie
pub data Page : Type 0 where
  Beyond : ℕ → Page
  Absent : Page
  Mapped : Bool → Bool → ℕ → ℕ → ℕ → Page

-- address a must lie in a memory of n bytes
unfoldable pub within : ℕ → ℕ → Page → Page
within n a k = cond (ltb a n) k (Beyond a)

unfoldable pub leaf : Bool → Bool → ℕ → ℕ → Entry → Page
leaf us rw' a b Gone = Absent
leaf us rw' a b (Names us' rw'' f) = Mapped (us && us') (rw' && rw'') f a b

unfoldable pub under : Mem → ℕ → ℕ → Entry → Page
under m a t Gone = Absent
under m a t (Names us rw' f) = within (length m) (slot f t) (leaf us rw' a (slot f t) (entry m f t))

-- page t of directory entry d, for the directory in frame f
unfoldable pub page_at : Mem → ℕ → ℕ → ℕ → Page
page_at m f d t = within (length m) (slot f d) (under m (slot f d) t (entry m f d))

abbrev pub page : Mem → Control → ℕ → ℕ → Page
page m c d t = page_at m (dir_frame c) d t

abbrev pub page_of : Mem → Control → ℕ → Page
page_of m c l = page m c (dir_index l) (tab_index l)

-- ---- the walk

-- a physical address, or the reply that ends the step
pub data Translation : Type 0 where
  At : ℕ → Translation
  No : Reply → Translation

-- it must hold, else the answer is this reply
unfoldable pub ask : Bool → Reply → Translation → Translation
ask true r k = k
ask false r k = No r

-- the byte must exist in a memory of n bytes
abbrev pub exists : ℕ → ℕ → Translation
exists n p = ask (ltb p n) (NoMemory p) (At p)

-- w: is it a write
abbrev pub page_fault : Control → Bool → ℕ → ℕ → Reply
page_fault c w present l = Fault 14 (present + cond w 2 0 + cond (user c) 4 0) l

-- ring 3 needs U/S in both, and for a write R/W in both; ring 0 needs R/W in both to write only when WP is set
unfoldable pub rights : Control → Bool → Bool → Bool → Bool
rights c w us rw' = (not (user c) || us) && (not (w && (user c || write_protect c)) || rw')

unfoldable pub reach : ℕ → Control → Bool → ℕ → Page → Translation
reach n c w l (Beyond a) = No (NoMemory a)
reach n c w l Absent = No (page_fault c w 0 l)
reach n c w l (Mapped us rw' f a b) = ask (rights c w us rw') (page_fault c w 1 l) (exists n (f * 4096 + offset l))

-- with paging off the linear address is the physical one
unfoldable pub translate : Mem → Control → Bool → ℕ → Translation
translate m c w l = cond (paging c) (reach (length m) c w l (page_of m c l)) (exists (length m) l)

-- ---- what a step sees: a byte, or why not

pub data Seen : Type 0 where
  Byte : ℕ → Seen
  Refused : Reply → Seen

-- for a read or a write, at a linear address
abbrev pub View : Type 0
View = Bool → ℕ → Seen

abbrev pub seen : Mem → Translation → Seen
seen m (At p) = Byte (at m p)
seen m (No r) = Refused r

unfoldable pub view : Mem → Control → View
view m c w l = seen m (translate m c w l)
