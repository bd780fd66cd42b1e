use Rattle.strides.proofs.Parts.{others, on_page, elsewhere}
use Rattle.strides.proofs.ends.store.Goals as goal

pub returns-then-frame-h : goal.returns-then-frame-h
returns-then-frame-h c = (c.put_present.ensures, others c.args.mem.now c.args.c c.args.h.table _ c.args.i c.args.v c.put_present.ensures)

pub returns-then-frame-h-2 : goal.returns-then-frame-h-2
returns-then-frame-h-2 c = (c.put_present.ensures, on_page c.args.mem.now c.args.c c.args.h.table _ c.args.i c.args.v c.put_present.ensures c.requires.1 c.if-frame-h.false)

pub returns : goal.returns
returns c = (c.put_present.ensures, elsewhere c.args.mem.now c.args.c c.args.h.table _ c.args.i c.args.v c.put_present.ensures c.requires.1 c.if-frame-h.false c.if-frame-h-2.false)
