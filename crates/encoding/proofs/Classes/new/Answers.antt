use mathlib.Core.Path.{◌≡◌, refl, sym, ap, ◌∙◌}
use mathlib.Core.Bool.{Bool}
use mathlib.Core.List.{List, map}
use Prim.Native.Nat.{ℕ, ◌<◌}
use native.Mathlib.Omega.{arith}
use lib.Dec.{ltb, ltb→lt}
use lib.ListN.{get_or}
use Rattle.std.proofs.Math.ListN.{get_or-map}
use Rattle.std.specs.List.{range_with_len}
use Rattle.std.proofs.lemmas.List.FromFn.{get_or-map-range_with_len}
use Rattle.encoding.specs.declared.Class.{Class}
use Rattle.encoding.specs.declared.Class.TheVariants.{NotBuilt}
use Rattle.encoding.specs.declared.opcodes.TheConstants.{CLASSES}
use Rattle.encoding.specs.Encodings.{class_of, class_at}
use Rattle.encoding.proofs.Table.{at}
use Rattle.encoding.proofs.Classes.new.Goals as goal

-- The table names what the list gives, from opcode to opcode: antt computes both rows.
same : map class_at CLASSES ≡ map class_of (range_with_len 0 512)
unfolding class_of
same = refl

small : ℕ → ℕ → Bool
small k x = ltb x 49

-- each opcode's number names its class in the list
listed : (n : ℕ) → n < 512 → (get_or CLASSES n 0 < 49) × (class_at (get_or CLASSES n 0) ≡ class_of n)
unfolding small
listed n h = (
  ltb→lt (get_or CLASSES n 0) 49 (at small CLASSES tt n h),
  sym (get_or-map class_at CLASSES n 0) ∙ ap (λ (xs : List Class). get_or xs n NotBuilt) same ∙ get_or-map-range_with_len class_of 0 512 n n NotBuilt h (omega arith),
)

pub invariant_of-result : goal.invariant_of-result
invariant_of-result c = record { classed = listed }
