use Rattle.shortcut.proofs.on_accumulator.Goals as goal

pub returns : goal.returns
returns c = cc
