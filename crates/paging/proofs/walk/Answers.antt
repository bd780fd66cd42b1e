use Rattle.paging.proofs.Cases.{there, no_dir, no_table, both, on_rights, on_past, on_at}
use native.Mathlib.Omega.{arith}
use mathlib.Core.Path.{sym}
use Rattle.std.proofs.lemmas.Result.{err_from_is_err_and}
use Rattle.paging.proofs.walk.Goals as goal

pub returns-in_err-pde : goal.returns-in_err-pde
returns-in_err-pde c =
    let p = err_from_is_err_and c.from_residual.result c.from_residual.ensures.1 in
    rw (p.1, p.2) (no_dir _ _ _ _ _ _ _ c.in_err-pde.ensures c.absent-absent.ensures (omega arith))

pub returns-in_err-pte : goal.returns-in_err-pte
returns-in_err-pte c =
    let p = err_from_is_err_and c.from_residual-in_err-pte.result c.from_residual-in_err-pte.ensures.1 in
    let dir = there _ _ _ _ c.in_ok-pde.ensures in
    rw (p.1, p.2) (no_table _ c.args.c c.args.w c.args.l.0 _ _ dir (omega arith) _ _ _ c.in_err-pte.ensures c.absent-absent.ensures (omega arith))

pub returns-then-not-allowed : goal.returns-then-not-allowed
returns-then-not-allowed c =
    let dir = there _ _ _ _ c.in_ok-pde.ensures in
    let table = there _ _ _ _ c.in_ok-pte.ensures in
    let page = both _ c.args.c c.args.w c.args.l.0 _ _ dir (omega arith) _ _ table (omega arith) in
    on_rights _ _ _ _ _ _ _ _ _ page _ c.code.ensures (sym c.if-not-allowed.ensures)

pub returns-then-mem-i : goal.returns-then-mem-i
returns-then-mem-i c =
    let dir = there _ _ _ _ c.in_ok-pde.ensures in
    let table = there _ _ _ _ c.in_ok-pte.ensures in
    let page = both _ c.args.c c.args.w c.args.l.0 _ _ dir (omega arith) _ _ table (omega arith) in
    on_past _ _ _ _ _ _ _ _ _ page (sym c.if-not-allowed.ensures) _ (omega arith) c.if-mem-i.true

pub returns : goal.returns
returns c =
    let dir = there _ _ _ _ c.in_ok-pde.ensures in
    let table = there _ _ _ _ c.in_ok-pte.ensures in
    let page = both _ c.args.c c.args.w c.args.l.0 _ _ dir (omega arith) _ _ table (omega arith) in
    on_at _ _ _ _ _ _ _ _ _ page (sym c.if-not-allowed.ensures) _ (omega arith) c.if-mem-i.false
