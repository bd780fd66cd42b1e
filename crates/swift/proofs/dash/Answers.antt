use mathlib.Core.Path.{sym, ap, ◌∙◌}
use Rattle.swift.proofs.Dashing.{not_dashed}
use borrow.Author.Rules.{rules}
use Rattle.swift.proofs.dash.Goals as goal

pub returns-then-not-is_tellable : goal.returns-then-not-is_tellable
returns-then-not-is_tellable c = (search rules, not_dashed _ _)

pub dash_on-requires : goal.dash_on-requires
dash_on-requires c = (c.requires, (sym (c.is_tellable.ensures) ∙ c.if-not-is_tellable.false, ap (λ f. f.status) (c.from-u.ensures)))
