-- A stride: one form, where its instruction stands; then as many as a block has.
-- Assumes nothing.
use Rattle.std.specs.Prelude.{◌≡◌, ℕ, ◌+◌, ◌/◌, ◌%◌, ◌<◌, ◌≤◌, List, length}
use Rattle.machine.specs.declared.Control.{Control}
use Rattle.machine.specs.Record.{Mem, wrap}
use Rattle.keptpages.specs.declared.Kept.{Kept}
use Rattle.keptpages.specs.Quiet.{Agree}
use Rattle.forms.specs.declared.Form.{Form}
use Rattle.forms.specs.Forms.{FormOk, Small}
use Rattle.hops.specs.declared.Rest.{Rest}
use Rattle.hops.specs.declared.Ending.TheVariants as ends
use Rattle.hops.specs.declared.Swift.{Swift}
use Rattle.hops.specs.Hops.{PagesOk, SwiftOk}

-- the run stands at r, on the code page h, with room for an instruction
pub record Stands (m : Mem) (c : Control) (h : Kept) (d : List ℕ) (r : Rest) : Type 0 where
  pub size : length m % 4096 ≡ 0
  pub pages : PagesOk m c h d
  pub page : r.eip / 4096 ≡ h.page
  pub room : r.eip % 4096 ≤ 4080
  pub small : r.eip < 4294967296

-- the form is the instruction there
abbrev pub Here : Mem → Kept → Rest → Form → Type 0
Here m h r f = (FormOk m (h.base + r.eip % 4096) f) × (Small f)

-- a quick step; and where the instruction after it follows, the code page's bytes are as they were
pub record EndedOk (m : Mem) (e : List ℕ) (c : Control) (r : Rest) (h : Kept) (d : List ℕ) (f : Form) (m' : Mem) (e' : List ℕ) (w : Swift) : Type 0 where
  pub swift : SwiftOk m e c r h m' e' d w
  pub follows : w.ending ≡ ends.Follows → (w.rest.eip ≡ wrap (r.eip + f.length)) × ((length m' ≡ length m) × (Agree m m' (h.base / 4096)))

-- what a form that needs no memory ends with, wherever it stands
abbrev pub Aside : List ℕ → Rest → Form → List ℕ → Swift → Type 0
Aside e r f e' w = (m : Mem) (c : Control) (h : Kept) (d : List ℕ) → Stands m c h d r → Here m h r f → EndedOk m e c r h d f m e' w
