use Rattle.shortcut.proofs.bytes.indexed.Goals as goal

pub returns : goal.returns
returns c = cc
