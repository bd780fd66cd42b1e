-- Quick steps from a record to a record: it is taken apart, and put together again.
-- Assumes nothing.
use Prim.Native.Nat.{ℕ, ◌-◌}
use mathlib.Core.Path.{◌≡◌, refl, sym, ap, ◌∙◌}
use mathlib.Core.Bool.{true}
use mathlib.Core.List.{List}
use Rattle.machine.specs.declared.Cpu.{Cpu}
use Rattle.machine.specs.declared.Flags.{Flags}
use Rattle.machine.specs.Record.{Mem, has, sound, flags_in, with_core}
use Rattle.machine.specs.Run.{steps}
use Rattle.alu.specs.Brief.{status_in}
use Rattle.shortcut.specs.Shortcut.{core_from}
use Rattle.phases.specs.Step.{micro32}
use Rattle.hops.specs.declared.Rest.{Rest}
use Rattle.hops.specs.Hops.{current, after, RushOk}
use Rattle.swift.specs.Swift.{DashOk}
use Rattle.hops.proofs.Onward.{no_steps}
use Rattle.hops.proofs.Packed.{record_back}

-- ---- a record taken apart is the record

module _ (m : Mem) (z : Cpu) (r : Rest) (good : sound m z ≡ true) (ei : r.eip ≡ z.eip) (es : status_in r.flags ≡ (flags_in z.eflags).status) where
  apart : current z z.regs.e r ≡ z
  unfolding flags_in
  apart = (λ j. with_core z (core_from z.regs.e (ei j) (es j) (has 512 z.eflags) (has 1024 z.eflags))) ∙ record_back m z good

  still_sound : sound m (current z z.regs.e r) ≡ true
  still_sound = ap (sound m) apart ∙ good

module _ (m : Mem) (z : Cpu) (r : Rest) (ei : r.eip ≡ z.eip) (es : status_in r.flags ≡ (flags_in z.eflags).status) where
  -- quick steps from a record on
  pub dashed : (n : ℕ) (m' : Mem) (e' : List ℕ) (r' : Rest) {c' : Cpu} → RushOk m z.regs.e z.control r n m' e' r' → c' ≡ current z e' r' → DashOk m z n m' c'
  dashed n m' e' r' {c' = c'} k ec = record {
    holds = λ h. ap (sound m') ec ∙ (k z refl (still_sound m z r h ei es)).holds;
    went = λ h b j.
        ap (steps micro32 b m) (sym (apart m z r h ei es)) ∙ (k z refl (still_sound m z r h ei es)).went b j ∙ ap (λ (x : Cpu). after n (steps micro32 (b - n) m' x)) (sym ec);
  }

-- no step at all
pub not_dashed : (m : Mem) (z : Cpu) → DashOk m z 0 m z
not_dashed m z = record { holds = λ h. h; went = λ h b _. no_steps b m z }

-- ---- the record put together

pub joined_is : (c : Cpu) (e : List ℕ) (r : Rest) (f : Flags) {d : Cpu} → f ≡ flags_in c.eflags
    → d ≡ with_core c (record { regs = record { e = e }; eip = r.eip; flags = record { status = status_in r.flags; interrupt = f.interrupt; direction = f.direction } }) → d ≡ current c e r
unfolding flags_in
joined_is c e r f ef ed = ed ∙ (λ j. with_core c (core_from e r.eip (status_in r.flags) (ef j).interrupt (ef j).direction))
