-- The kernel's records do not leak into ring 3 (request k of document 02), about the real run. `micro32` is the machine of crates/phases/specs/Step.antt.
-- Assumes nothing.
use Rattle.std.specs.Prelude.{ℕ, ◌*◌, ◌<◌, ◌≡◌, true, ◌↔◌, length}
use Rattle.machine.specs.declared.Control.{Control}
use Rattle.machine.specs.declared.Cpu.{Cpu}
use Rattle.machine.specs.declared.Reply.TheVariants.{Safe}
use Rattle.machine.specs.Record.{Mem, sound, paging, user}
use Rattle.machine.specs.Audit.{audit}
use Rattle.machine.specs.Run.{run}
use Rattle.isolation.specs.Twins.{UserReadable, Reads, Shown, Agree, Twins, Hides}
use Rattle.isolation.proofs.Noninterference.{run_hides}
use Rattle.isolation.proofs.Twins.{twins_of, twins_other, twins_turned, twins_again, readable_means}
use Rattle.phases.specs.Step.{micro32}

-- twins give the same reply, count and record after a run of any budget, and memories that agree again on those frames
pub records_hidden : Hides (run micro32)
records_hidden = run_hides micro32

-- and they are twins again, so that the next run cannot tell them apart either
pub still_twins : (budget : ℕ) (m n : Mem) (r : Cpu) → Twins r m n
    → Twins (run micro32 budget m r).last.cpu (run micro32 budget m r).last.mem (run micro32 budget n r).last.mem
still_twins budget m n r t = twins_again m n r t micro32 budget

-- also with other registers, where the control registers and the ring are the same: a host that goes on behind an interrupt sets EIP
pub twins_with : (m n : Mem) (r r' : Cpu) → Twins r m n → sound m r' ≡ true → r.control ≡ r'.control → Twins r' m n
twins_with m n r r' t = twins_other m n r t r'

-- ---- what the words mean

-- which memory's maps name the frames makes no difference
pub turned : (m n : Mem) (r : Cpu) → Twins r m n → Twins r n m
turned m n r t = twins_turned m n r t

-- that the record is sound, and the second audit Safe, follows from the rest
pub less_is_enough : (m n : Mem) (r : Cpu) → r.control.ring ≡ 3 → paging r.control ≡ true → audit m r ≡ Safe
    → Agree (Shown m r.control) m n → Twins r m n
less_is_enough m n r = twins_of m n r

-- a frame in memory is user-readable where ring 3 reads a byte of it at some address, and nowhere else
pub user_readable_means : (m : Mem) (c : Control) → paging c ≡ true → user c ≡ true → (f : ℕ) → f * 4096 < length m → UserReadable m c f ↔ Reads m c f
user_readable_means m c on ring3 f here = readable_means m c on ring3 f here
