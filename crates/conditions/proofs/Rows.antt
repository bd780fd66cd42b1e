-- A row of the table against its condition, at each of the 64 settings of the flags. Assumes nothing.
use mathlib.Core.Path.{◌≡◌}
use mathlib.Core.Bool.{Bool, true, false, beq}
use mathlib.Core.List.{List}
use Prim.Native.Nat.{ℕ, ◌<◌}
use lib.Dec.{T}
use lib.ListN.{length, get_or}
use Rattle.alu.specs.declared.Status.{Status}
use Rattle.conditions.specs.Conditions.{holds, row_holds}
use Rattle.conditions.proofs.Table.{both, both_left, both_right, beq_eq, every, at}

abbrev each : (Bool → Bool) → Bool
each p = both (p true) (p false)

each_at : (p : Bool → Bool) → T (each p) → (b : Bool) → T (p b)
each_at p t true = both_left (p true) (p false) t
each_at p t false = both_right (p true) (p false) t

abbrev flags : Bool → Bool → Bool → Bool → Bool → Bool → Status
flags c q a z s o = record { cf = c; pf = q; af = a; zf = z; sf = s; of = o }

module _ (p : Status → Bool) where
  abbrev p5 : Bool → Bool → Bool → Bool → Bool → Bool
  p5 c q a z s = each (λ o. p (flags c q a z s o))

  abbrev p4 : Bool → Bool → Bool → Bool → Bool
  p4 c q a z = each (p5 c q a z)

  abbrev p3 : Bool → Bool → Bool → Bool
  p3 c q a = each (p4 c q a)

  abbrev p2 : Bool → Bool → Bool
  p2 c q = each (p3 c q)

  abbrev p1 : Bool → Bool
  p1 c = each (p2 c)

  abbrev each_flags : Bool
  each_flags = each p1

  each_flags_at : T each_flags → (f : Status) → T (p f)
  each_flags_at t f =
      let t1 = each_at p1 t f.cf in
      let t2 = each_at (p2 f.cf) t1 f.pf in
      let t3 = each_at (p3 f.cf f.pf) t2 f.af in
      let t4 = each_at (p4 f.cf f.pf f.af) t3 f.zf in
      let t5 = each_at (p5 f.cf f.pf f.af f.zf) t4 f.sf in
      each_at (λ o. p (flags f.cf f.pf f.af f.zf f.sf o)) t5 f.of

abbrev pub right : ℕ → ℕ → Bool
right k r = each_flags (λ f. beq (row_holds r f) (holds k f))

pub rule : (xs : List ℕ) (d : ℕ) (k : ℕ) (f : Status) → k < length xs → T (every right 0 xs) → row_holds (get_or xs k d) f ≡ holds k f
rule xs d k f h t = beq_eq _ _ (each_flags_at (λ g. beq (row_holds (get_or xs k d) g) (holds k g)) (at right xs d k h t) f)
