-- A form where it stands: not done, and the instruction that it is.
-- Assumes nothing.
use Rattle.std.proofs.Common.{◌≡◌, ℕ, ◌+◌, ◌%◌, ◌<◌, ◌≤◌, List, length, arith}
use lib.ListN.{get_or-eq_default}
use Rattle.alu.specs.Brief.{status_in}
use Rattle.machine.specs.declared.Control.{Control}
use Rattle.machine.specs.Record.{Mem}
use Rattle.keptpages.specs.declared.Kept.{Kept}
use Rattle.outcome.specs.declared.Fast.{Fast}
use Rattle.shortcut.specs.Shortcut.{FastOk}
use Rattle.forms.specs.declared.Form.{Form}
use Rattle.forms.specs.Forms.{reg, meant}
use Rattle.hops.specs.declared.Rest.{Rest}
use Rattle.hops.proofs.Swiftly.{unmoved}
use Rattle.hops.specs.declared.Ending.TheVariants as ends
use Rattle.hops.specs.declared.Swift.{Swift}
use Rattle.strides.specs.Strides.{Stands, Here, EndedOk}
use Rattle.strides.proofs.Parts.{stuck_apart}

module _ (m : Mem) (e : List ℕ) (c : Control) (r : Rest) (h : Kept) (d : List ℕ) (f : Form) where
  pub stays : Stands m c h d r → {w : Swift} → w ≡ record { ending = ends.Stuck; rest = r } → EndedOk m e c r h d f m e w
  stays stands ew = rw ew (record { swift = unmoved m e c r h d stands.pages; follows = λ z. absurd (stuck_apart z) })

  pub fast : Here m h r f → reg e f.b < 4294967296 → length e ≡ 8 → (p : Fast) → meant f e r.eip (status_in r.flags) ≡ p
      → FastOk m e (status_in r.flags) r.eip (h.base + r.eip % 4096) p
  fast here whole eight p is =
      let n : length e ≤ 8 = omega (arith, eight) in
      rw is at (here.0 e (status_in r.flags) r.eip whole (get_or-eq_default e 0 n))
