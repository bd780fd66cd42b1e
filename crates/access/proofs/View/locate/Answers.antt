use Rattle.access.proofs.Laws.{nothing_held}
use Rattle.access.proofs.View.locate.Goals as goal

pub returns-in-Nothing : goal.returns-in-Nothing
returns-in-Nothing c = rw (c.in-Nothing.is, c.nowhere.ensures) (nothing_held _ _)
