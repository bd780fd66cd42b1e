use Rattle.shortcut.proofs.Classes.{operation_is}
use Rattle.shortcut.proofs.operation.Goals as goal

pub returns : goal.returns
returns c = operation_is (c.args.b) (c.args.c) (c.requires.0) (c.requires.1.0) (c.requires.1.1)
