-- Two steps from the guest's start, by computation.
-- Assumes nothing.
use mathlib.Core.Path.{refl}
use lib.Count.{ones}
use Rattle.alu.specs.Arithmetic.{parity, sum_status, single, operate, operate_one, operation}
use Rattle.encoding.specs.Encodings.{class_of}
use Rattle.encoding.specs.Attributes.{family_of, operation_of}
use Rattle.fetch.specs.Fetch.{number}
use Rattle.decode.specs.Decode.{prefixed, opcode, after_modrm, judged, finish, with_modrm, classed, decode}
use Rattle.machine.specs.Record.{read_at, write_at, flags_in, pack, sound_at}
use Rattle.machine.specs.Replies.{numbered}
use Rattle.machine.specs.Paging.{entry_of, within, leaf, under, page_at, ask, rights, reach, translate, view}
use Rattle.machine.specs.Commit.{patch, patches, marks_of, if_at, marks, stored, touched, written, commit}
use Rattle.machine.specs.Act.{byte, counted, fetch, access, stores_of, store, plan_of}
use Rattle.machine.specs.Run.{settle, checked, onward}
use Rattle.operands.specs.Operands.{address, operand_want, operand_value, deposit}
use Rattle.arithmetic.specs.Arithmetic.{combined_from, do_combine_from, do_unary}
use Rattle.execute.specs.Execute.{writes_operand, reads_operand, first, second, compute}
use Rattle.phases.specs.Step.{allowed, leave, instruction, micro32}
use Rattle.leaks.specs.Guest.{frame, shown, memory}
use Rattle.leaks.specs.OtherView.{step_by, steps_by, run_by, open_view}
use Rattle.leaks.specs.Claims.{Counted, Read}

pub worked : Counted × Read
unfolding parity ones sum_status single operate operate_one operation class_of family_of operation_of
    number prefixed opcode after_modrm judged finish with_modrm classed decode
    read_at write_at flags_in pack sound_at numbered entry_of within leaf under page_at ask rights reach translate view
    patch patches marks_of if_at marks stored touched written commit byte counted fetch access stores_of store plan_of settle checked onward
    address operand_want operand_value deposit combined_from do_combine_from do_unary writes_operand reads_operand first second compute
    allowed leave instruction micro32 frame shown memory step_by steps_by run_by open_view
worked = (λ k. (refl, refl, refl), (refl, refl))
