-- One fetch, case by case, and from an answer to what the rule gives.
-- Assumes nothing.
use Rattle.std.proofs.Common.{◌≡◌, ℕ, ◌+◌, ◌%◌, ◌<◌, ◌≤◌, false, [], ◌∷◌, ◌++◌, length, sym, refl, add-one, arith, le-ltb, lt-ltb}
use Rattle.std.specs.Prelude.{Ok, Err}
use Rattle.machine.specs.Record.{Mem, at, wrap}
use Rattle.machine.specs.declared.Control.{Control}
use Rattle.machine.specs.declared.Reply.{Reply}
use Rattle.machine.specs.declared.Reply.TheVariants.{Fault}
use Rattle.machine.specs.Paging.{At, No, translate, view}
use Rattle.machine.specs.Act.{Res, ok, refuse, byte, counted, touch, fetch}
use Rattle.access.specs.Located.{span}
use Rattle.paging.specs.declared.Physical.{Physical}
use Rattle.paging.proofs.Pages.{same_page}
use Rattle.fetch.specs.declared.Fetched.{Fetched}
use Rattle.fetch.specs.Read.{log_at, got_of, FetchOk}

-- ---- one fetch

pub span_more : (eip n : ℕ) → span false eip (n + 1) ≡ span false eip n ++ (touch false (wrap (eip + n)) ∷ [])
unfolding span
span_more eip n = rw add-one

module _ (m : Mem) (c : Control) (eip n : ℕ) where
  pub fetch_full : 15 ≤ n → FetchOk m c eip n (Err (Fault 13 0 0))
  unfolding fetch counted
  fetch_full h = record { does = rw (le-ltb n 15 h); small = tt }

  pub fetch_denied : (q : Reply) → n < 15 → translate m c false (wrap (eip + n)) ≡ No q → FetchOk m c eip n (Err q)
  unfolding fetch counted byte view
  fetch_denied q h e = record { does = rw (lt-ltb n 15 h, e); small = tt }

  pub fetch_at : (p b : ℕ) → n < 15 → translate m c false (wrap (eip + n)) ≡ At p → b ≡ at m p → b < 256 → FetchOk m c eip n (Ok (record { value = b; length = n + 1 }))
  unfolding fetch counted byte view
  fetch_at p b h e f k = record { does = rw (lt-ltb n 15 h, e, f, span_more eip n); small = (k, refl) }

-- on the page of eip, which was reached at p
pub fetch_near : (m : Mem) (c : Control) (eip n : ℕ) (p : Physical) (b : ℕ) → length m % 4096 ≡ 0 → translate m c false eip ≡ At p.0 → eip < 4294967296 → n < 15 → eip % 4096 + n < 4096
    → b ≡ at m (p.0 + n) → b < 256 → FetchOk m c eip n (Ok (record { value = b; length = n + 1 }))
fetch_near m c eip n p b size there small h fits f k =
    let w : eip + n ≡ wrap (eip + n) = omega arith in
    fetch_at m c eip n (p.0 + n) b h (rw (← w) (same_page m size c false eip n p.0 fits there)) f k

-- ---- from an answer to what the rule gives

pub got : (eip : ℕ) {f : Fetched} {x : Res ℕ} → got_of eip (Ok f) ≡ x → x ≡ ok f.value (log_at eip f.length)
got eip e = sym e

pub missed : (eip : ℕ) {q : Reply} {x : Res ℕ} → got_of eip (Err q) ≡ x → x ≡ refuse q
missed eip e = sym e
