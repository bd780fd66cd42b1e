use Rattle.phases.proofs.Steps.{sound_size, step_bad, step_off, step_on}
use mathlib.Core.Path.{sym}
use Rattle.phases.proofs.advance.Goals as goal

pub returns-then-not-sound : goal.returns-then-not-sound
returns-then-not-sound c = step_bad _ c.args.c (sym c.if-not-sound.ensures)

pub plan-requires : goal.plan-requires
plan-requires c = sound_size _ c.args.c (sym c.if-not-sound.ensures)

pub returns-in-Err : goal.returns-in-Err
returns-in-Err c = step_off c.args.mem.now c.args.c (sym c.if-not-sound.ensures) _ c.in-Err.ensures

pub code_trail-s-requires : goal.code_trail-s-requires
code_trail-s-requires c = (c.in-Ok.ensures.long, c.in-Ok.ensures.short)

pub returns : goal.returns
returns c = step_on c.args.mem.now c.args.c (sym c.if-not-sound.ensures) _ c.in-Ok.ensures _ c.code_trail-s.ensures c.mark_trail.ensures c.leave.ensures c.with_core.ensures

pub invariant_of-view : goal.invariant_of-view
invariant_of-view c = record { size = sound_size _ c.args.c (sym c.if-not-sound.ensures) }
