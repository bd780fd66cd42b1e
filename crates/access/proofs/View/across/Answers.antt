use Rattle.access.proofs.Laws.{refused_0, refused_1, refused_2, refused_3, refusing, found, across_held}
use Rattle.std.proofs.Common.{arith}
use Rattle.access.proofs.View.across.Goals as goal

pub returns-in_default : goal.returns-in_default
returns-in_default c = refused_0 _ _ _ _ _ (refusing _ c.unwrap_err.ensures c.translate-answer0.ensures)

pub returns-in_default-answer1 : goal.returns-in_default-answer1
returns-in_default-answer1 c = refused_1 _ _ _ _ _ _ (found c.in-Ok.ensures) (refusing _ c.unwrap_err-in_default-answer1.ensures c.translate-answer1.ensures)

pub returns-in_default-answer2 : goal.returns-in_default-answer2
returns-in_default-answer2 c = refused_2 _ _ _ _ _ _ _ (found c.in-Ok.ensures) (found c.in-Ok-answer1.ensures) (refusing _ c.unwrap_err-in_default-answer2.ensures c.translate-answer2.ensures)

pub returns-in_default-answer3 : goal.returns-in_default-answer3
returns-in_default-answer3 c = refused_3 _ _ _ _ _ _ _ _ (found c.in-Ok.ensures) (found c.in-Ok-answer1.ensures) (found c.in-Ok-answer2.ensures) (refusing _ c.unwrap_err-in_default-answer3.ensures c.translate-answer3.ensures)

pub returns : goal.returns
returns c = across_held _ _ _ c.args.l (omega (arith, c.ranges.l)) c.args.self.now.size _ _ _ _ _ _ _ _ _ c.gather-value.ensures c.in-Ok.ensures c.in-Ok-answer1.ensures c.in-Ok-answer2.ensures c.in-Ok-answer3.ensures
