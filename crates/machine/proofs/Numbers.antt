-- Replies with the same number and values are the same: no two of the table's rows can be mistaken. Assumes nothing.
use mathlib.Core.Path.{◌≡◌, refl, ap, sym, ◌∙◌}
use mathlib.Core.List.{List, [], ◌∷◌}
use Prim.Native.Nat.{ℕ, zero, suc}
use Rattle.machine.specs.declared.Reply.{Reply}
use Rattle.machine.specs.declared.Reply.TheVariants.{Done, Fault, Trap, Halt, BadRecord, NoMemory, NotBuilt, Spent, Safe, TableOutside, Exposed}
use Rattle.machine.specs.Replies.{Numbered, numbered}

-- the value at a place of what is carried
abbrev nth : List ℕ → ℕ → ℕ
nth [] n = 0
nth (x ∷ xs) zero = x
nth (x ∷ xs) (suc n) = nth xs n

-- back from a number and its values
abbrev reply : ℕ → List ℕ → Reply
reply zero l = Done
reply (suc zero) l = Fault (nth l 0) (nth l 1) (nth l 2)
reply (suc (suc zero)) l = Trap (nth l 0) (nth l 1)
reply (suc (suc (suc zero))) l = Halt (nth l 0)
reply (suc (suc (suc (suc zero)))) l = BadRecord
reply (suc (suc (suc (suc (suc zero))))) l = NoMemory (nth l 0)
reply (suc (suc (suc (suc (suc (suc zero)))))) l = NotBuilt (nth l 0)
reply (suc (suc (suc (suc (suc (suc (suc zero))))))) l = Spent
reply (suc (suc (suc (suc (suc (suc (suc (suc zero)))))))) l = Safe
reply (suc (suc (suc (suc (suc (suc (suc (suc (suc zero))))))))) l = TableOutside (nth l 0)
reply (suc (suc (suc (suc (suc (suc (suc (suc (suc (suc zero)))))))))) l = Exposed (nth l 0)
reply (suc (suc (suc (suc (suc (suc (suc (suc (suc (suc (suc n))))))))))) l = Done

back : (q : Reply) → reply (numbered q).number (numbered q).carries ≡ q
unfolding numbered
back Done = refl
back (Fault a b c) = refl
back (Trap a b) = refl
back (Halt a) = refl
back BadRecord = refl
back (NoMemory a) = refl
back (NotBuilt a) = refl
back Spent = refl
back Safe = refl
back (TableOutside a) = refl
back (Exposed a) = refl

pub numbered_same : (p q : Reply) → numbered p ≡ numbered q → p ≡ q
numbered_same p q e = sym (back p) ∙ ap (λ (n : Numbered). reply n.number n.carries) e ∙ back q
