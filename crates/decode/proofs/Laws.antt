-- The overrides, one further each time.
-- Assumes nothing.
use Prim.Native.Nat.{ℕ, suc, ◌+◌, ◌-◌, ◌<◌, ◌≤◌}
use mathlib.Core.Path.{◌≡◌, refl}
use mathlib.Core.Bool.{true, false}
use native.Mathlib.Omega.{arith}
use Rattle.machine.specs.Record.{Mem}
use Rattle.machine.specs.declared.Control.{Control}
use Rattle.machine.specs.declared.Reply.{Reply}
use Rattle.machine.specs.declared.Reply.TheVariants.{Fault}
use Rattle.machine.specs.Paging.{view}
use Rattle.machine.specs.Act.{ok, refuse, fetch}
use Rattle.encoding.specs.declared.Class.{Class}
use Rattle.encoding.specs.declared.Class.TheVariants.{Override}
use Rattle.encoding.specs.Encodings.{class_of, is_override}
use Rattle.fetch.specs.Read.{log_at}
use Rattle.decode.specs.Decode.{prefixed}

-- ---- the overrides, one further

module _ (m : Mem) (c : Control) (eip n b k : ℕ) (h : n < 16) (e : fetch eip (view m c) (log_at eip n) ≡ ok b (log_at eip k)) where
  left_one : 16 - n ≡ suc (16 - (n + 1))
  left_one = omega arith

  pub override_on : k ≡ n + 1 → is_override (class_of b) ≡ true → prefixed (16 - n) eip (view m c) (log_at eip n) ≡ prefixed (16 - (n + 1)) eip (view m c) (log_at eip (n + 1))
  unfolding prefixed
  override_on nk o = rw (left_one, e, o, nk)

  pub override_off : is_override (class_of b) ≡ false → prefixed (16 - n) eip (view m c) (log_at eip n) ≡ ok b (log_at eip k)
  unfolding prefixed
  override_off o = rw (left_one, e, o)

pub override_miss : (m : Mem) (c : Control) (eip n : ℕ) (q : Reply) → n < 16 → fetch eip (view m c) (log_at eip n) ≡ refuse q → prefixed (16 - n) eip (view m c) (log_at eip n) ≡ refuse q
unfolding prefixed
override_miss m c eip n q h e = let l : 16 - n ≡ suc (16 - (n + 1)) = omega arith in rw (l, e)

pub override_end : (m : Mem) (c : Control) (eip n : ℕ) → 16 ≤ n → prefixed (16 - n) eip (view m c) (log_at eip n) ≡ refuse (Fault 13 0 0)
unfolding prefixed
override_end m c eip n k = let l : 16 - n ≡ 0 = omega arith in rw l

-- ---- a class that a match leaves over

pub no_override : (c : Class) → (c ≡ Override → ⊥) → is_override c ≡ false
no_override Override h = absurd (h refl)
no_override _ h = refl
