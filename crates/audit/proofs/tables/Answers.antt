use Prim.Native.Nat.{◌<◌}
use Rattle.audit.proofs.Held.{clear, flags_all}
use Rattle.audit.proofs.Answers.{no_directory, no_table, opened, all_safe}
use Rattle.audit.proofs.First.{small}
use Rattle.audit.specs.Searched.{found_of, Sized}
use borrow.Author.Rules.{rules}
use borrow.Author.Tests.{ltb-true}
use mathlib.Core.Path.{sym, ap, ◌∙◌}
use Rattle.audit.proofs.tables.Goals as goal

pub returns-then-not-in_memory : goal.returns-then-not-in_memory
returns-then-not-in_memory c = sym (no_directory _ _ (sym c.in_memory.ensures ∙ c.if-not-in_memory.true))

pub returns-in-Some : goal.returns-in-Some
returns-in-Some c = sym (no_table _ _ (sym c.in_memory.ensures ∙ c.if-not-in_memory.false) _ (sym c.stray.ensures ∙ ap found_of c.in-Some.is))

pub raise_all-requires : goal.raise_all-requires
raise_all-requires c = clear

pub invariant_of-search : goal.invariant_of-search
invariant_of-search c =
    let s : Sized c.args.mem.now c.args.c = record { whole = c.requires.0; small = c.requires.1; dir_in = ltb-true _ _ (sym c.in_memory.ensures ∙ c.if-not-in_memory.false); tabs_in = sym c.stray.ensures ∙ ap found_of c.in_default.is } in
    record { sized = s; flagged = flags_all _ _ _ s c.raise_all.ensures }

pub overflow_mul-result : goal.overflow_mul-result
overflow_mul-result c = let b : c.in-Some-opening.p < 1048576 = small _ _ _ (ap found_of (sym c.in-Some-opening.is) ∙ c.opening.ensures) in search rules

pub returns-in-Some-opening : goal.returns-in-Some-opening
returns-in-Some-opening c = sym (opened _ _ (sym c.in_memory.ensures ∙ c.if-not-in_memory.false) _ (sym c.stray.ensures ∙ ap found_of c.in_default.is) (sym c.opening.ensures ∙ ap found_of c.in-Some-opening.is))

pub returns : goal.returns
returns c = sym (all_safe _ _ (sym c.in_memory.ensures ∙ c.if-not-in_memory.false) (sym c.stray.ensures ∙ ap found_of c.in_default.is) (sym c.opening.ensures ∙ ap found_of c.in_default-opening.is))
