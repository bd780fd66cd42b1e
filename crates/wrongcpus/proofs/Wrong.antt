-- At each of these inputs the definition answers as said, by computation: so each of the five wrong CPUs is wrong there.
-- Assumes nothing.
use mathlib.Core.Bool.{◌&&◌}
use lib.Dec.{T}
use lib.Count.{ones}
use Rattle.alu.specs.Arithmetic.{parity, sum_status, single, operate_one}
use Rattle.encoding.specs.Encodings.{class_of}
use Rattle.encoding.specs.Attributes.{family_of, operation_of}
use Rattle.fetch.specs.Fetch.{number}
use Rattle.decode.specs.Decode.{prefixed, opcode, finish, classed, decode}
use Rattle.machine.specs.Record.{read_at, write_at, flags_in, pack, sound_at}
use Rattle.machine.specs.Replies.{numbered}
use Rattle.machine.specs.Paging.{ask, translate, view}
use Rattle.machine.specs.Commit.{patch, patches, if_at, marks, touched, written, commit}
use Rattle.machine.specs.Act.{byte, counted, fetch, access, stores_of, store, plan_of}
use Rattle.machine.specs.Run.{settle, checked, onward, step, steps}
use Rattle.operands.specs.Operands.{operand_want, operand_value, deposit}
use Rattle.arithmetic.specs.Arithmetic.{do_unary}
use Rattle.flow.specs.Flow.{do_halt}
use Rattle.execute.specs.Execute.{writes_operand, reads_operand, first, second, compute}
use Rattle.phases.specs.Step.{allowed, leave, instruction, micro32}
use Rattle.wrongcpus.specs.Inputs.{not_built_always, never_varies, nothing_moved, one_real_step, invented_count}

pub wrong : T (not_built_always && never_varies && nothing_moved && one_real_step && invented_count)
unfolding parity ones sum_status single operate_one class_of family_of operation_of
    number prefixed opcode finish classed decode read_at write_at flags_in pack sound_at numbered ask translate view
    patch patches if_at marks touched written commit byte counted fetch access stores_of store plan_of settle checked onward step steps
    operand_want operand_value deposit do_unary do_halt writes_operand reads_operand first second compute
    allowed leave instruction micro32
wrong = tt
