use Rattle.shortcut.specs.Forms.{address_fast, spot_of}
use borrow.Author.Tests.{lt-leb}
use Rattle.shortcut.proofs.modrm.address_of.Goals as goal

pub returns : goal.returns
unfolding address_fast spot_of
returns c = rw (lt-leb _ _ (c.requires.1)) cc
