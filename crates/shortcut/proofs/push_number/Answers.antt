use Rattle.shortcut.proofs.Taken.{not_taken, taken_push_number}
use Rattle.std.proofs.Common.{true, false, refl, rules}
use Rattle.encoding.specs.Encodings.{class_of}
use Rattle.shortcut.proofs.push_number.Goals as goal

pub returns-in-104 : goal.returns-in-104
unfolding class_of
returns-in-104 c = λ s. taken_push_number c.args.mem.now c.args.e.now s c.args.eip c.args.i _ _ c.requires.1 refl _ 104 true _ _ c.in-104.is refl refl (search rules) c.number.ensures c.wrapping_add_u32.ensures.value c.push.ensures

pub returns-in-106 : goal.returns-in-106
unfolding class_of
returns-in-106 c = λ s. taken_push_number c.args.mem.now c.args.e.now s c.args.eip c.args.i _ _ c.requires.1 refl _ 106 false _ _ c.in-106.is refl refl (search rules) c.number-in-106.ensures c.wrapping_add_u32-in-106.ensures.value c.push-in-106.ensures

pub returns-in_default : goal.returns-in_default
returns-in_default c = λ s. not_taken c.args.mem.now c.args.e.now s c.args.eip c.args.i _ c.none.ensures
