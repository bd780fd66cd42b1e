-- The sixteen conditions, by the opcode's low four bits.
use Rattle.std.specs.Prelude.{ℕ, ◌/◌, ◌%◌, Bool, false, not, ◌&&◌, ◌||◌, List, [], ◌∷◌, eqb, get_or}
use Rattle.std.specs.Bool.{beq}
use Rattle.alu.specs.declared.Status.{Status}

-- SF and OF differ
abbrev pub less : Status → Bool
less f = not (beq f.sf f.of)

-- O NO B AE Z NZ BE A S NS P NP L GE LE G
abbrev pub conditions : Status → List Bool
conditions f =
    f.of ∷ not f.of ∷ f.cf ∷ not f.cf ∷ f.zf ∷ not f.zf ∷ (f.cf || f.zf) ∷ not (f.cf || f.zf)
    ∷ f.sf ∷ not f.sf ∷ f.pf ∷ not f.pf ∷ less f ∷ not (less f) ∷ (f.zf || less f) ∷ not (f.zf || less f) ∷ []

unfoldable pub holds : ℕ → Status → Bool
holds n f = get_or (conditions f) n false

-- a row is a number whose bits say what it names: is the lowest one set?
abbrev pub named : ℕ → Bool
named r = eqb (r % 2) 1

-- what a row of the table says of the flags
abbrev pub row_holds : ℕ → Status → Bool
row_holds r f =
    not
    (beq
    (named r && f.of || named (r / 2) && f.cf || named (r / 4) && f.zf || named (r / 8) && f.sf || named (r / 16) && f.pf
    || named (r / 32) && less f)
    (named (r / 64)))
