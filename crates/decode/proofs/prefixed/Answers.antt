use Rattle.encoding.specs.Encodings.{is_override}
use Rattle.fetch.proofs.Laws.{got, missed}
use Rattle.decode.proofs.Laws.{override_on, override_off, override_miss, override_end, no_override}
use mathlib.Core.Path.{sym, ap, ◌∙◌}
use Rattle.std.proofs.lemmas.Result.{err_from_is_err_and}
use Rattle.decode.proofs.prefixed.Goals as goal

pub returns-in_err-byte : goal.returns-in_err-byte
returns-in_err-byte c =
    let p = err_from_is_err_and c.from_residual.result c.from_residual.ensures.1 in
    rw (p.1, p.2) (record { does = sym (c.loop-n.invariant ∙ override_miss _ _ _ _ _ c.loop-n-test.true (missed c.args.s.now.eip c.in_err-byte.ensures.does)); small = tt })

pub returns-in_default : goal.returns-in_default
returns-in_default c = record {
  does = sym (c.loop-n.invariant ∙ override_off _ _ _ _ _ _ c.loop-n-test.true (got _ c.in_ok-byte.ensures.does) (ap is_override (sym c.at.ensures) ∙ no_override _ c.in_default.not-Override));
  small = c.in_ok-byte.ensures.small.0;
}

pub loop-n-preserved : goal.loop-n-preserved
loop-n-preserved c = c.loop-n.invariant ∙ override_on _ _ _ _ _ _ c.loop-n-test.true (got _ c.in_ok-byte.ensures.does) c.in_ok-byte.ensures.small.1 (ap is_override (sym c.at.ensures ∙ c.in-Override.is))

pub returns : goal.returns
returns c = record { does = sym (c.loop-n.invariant ∙ override_end _ _ _ _ c.loop-n-test.false); small = tt }
