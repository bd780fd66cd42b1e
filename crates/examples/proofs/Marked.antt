-- Every marked example of document 01 is right: one statement over the list, by computation.
-- Assumes nothing.
use lib.Dec.{T}
use lib.Count.{ones}
use Rattle.alu.specs.Arithmetic.{parity, sum_status, difference_status, operation, operate, single, operate_one}
use Rattle.shifts.specs.Shifts.{times, shift_status, shifted, shift}
use Rattle.products.specs.Products.{quotient}
use Rattle.encoding.specs.Encodings.{class_of}
use Rattle.encoding.specs.Attributes.{family_of, operation_of}
use Rattle.fetch.specs.Fetch.{fetch_signed, fetch_dword, number}
use Rattle.decode.specs.Decode.{prefixed, opcode, after_sib, after_modrm, judged, finish, with_modrm, classed, decode}
use Rattle.machine.specs.Replies.{numbered}
use Rattle.machine.specs.Paging.{entry_of, within, leaf, under, page_at, ask, rights, reach, translate, view}
use Rattle.machine.specs.Commit.{patch, patches, marks_of, if_at, marks, touched, written, commit}
use Rattle.machine.specs.Act.{byte, counted, fetch}
use Rattle.examples.specs.Marked.{all_right, examples}

pub marked : T (all_right examples)
unfolding examples parity ones sum_status difference_status operation operate single operate_one times shift_status shifted shift quotient
    class_of family_of operation_of fetch_signed fetch_dword number prefixed opcode after_sib after_modrm judged finish with_modrm classed decode
    byte counted fetch numbered entry_of within leaf under page_at ask rights reach translate view
    patch patches marks_of if_at marks touched written commit
marked = tt
