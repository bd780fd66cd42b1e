-- Each turn takes from what is left of the budget. Assumes nothing.
use Rattle.pass.proofs.Station.play.Given as goal

abbrev pub decreases-loop-left : goal.decreases-loop-left
decreases-loop-left g l = l.left
