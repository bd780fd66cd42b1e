use borrow.Author.Tests.{eqb-true}
use mathlib.Core.Path.{sym}
use Rattle.shortcut.proofs.Small.{and_left, and_right}
use Rattle.swift.proofs.page_for.Goals as goal

pub returns-then-holds-eip : goal.returns-then-holds-eip
returns-then-holds-eip c = (sym (eqb-true _ _ (and_right (c.args.holds) _ (c.if-holds-eip.true))), c.requires (and_left (c.args.holds) _ (c.if-holds-eip.true)))

pub turned-requires : goal.turned-requires
turned-requires c = λ g. (c.requires g).1
