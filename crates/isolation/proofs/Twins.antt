-- What makes twins: less than their record names, either one first, and a run leaves twins again. And what is user-readable is what ring 3 reads.
-- Assumes nothing.
use Prim.Native.Nat.{ℕ, ◌+◌, ◌*◌, ◌/◌, ◌<◌}
use mathlib.Core.Path.{◌≡◌, sym, ap, ◌∙◌}
use mathlib.Core.Logic.{◌↔◌}
use mathlib.Core.Bool.{Bool, true, false}
use native.Mathlib.Omega.{arith}
use lib.ListN.{length}
use borrow.Author.Tests.{lt-ltb}
use Rattle.machine.specs.declared.Control.{Control}
use Rattle.machine.specs.declared.Cpu.{Cpu}
use Rattle.machine.specs.declared.Reply.TheVariants.{Safe}
use Rattle.machine.specs.Record.{Mem, sound, paging, user}
use Rattle.machine.specs.Paging.{Mapped, At, dir_index, tab_index, offset, page_of, ask, rights, reach, translate}
use Rattle.machine.specs.Audit.{audit}
use Rattle.machine.specs.Run.{Planner, Outcome, run}
use Rattle.isolation.specs.Guarded.{MappedFrame}
use Rattle.isolation.specs.Twins.{UserReadable, Reads, Shown, Agree, Twins, SameEnd}
use Rattle.isolation.proofs.Same.{SameMaps, tables_same}
use Rattle.isolation.proofs.Audited.{audit_tables, tables_audit}
use Rattle.isolation.proofs.Isolation.{translate_mapped}
use Rattle.isolation.proofs.Ring3.{Held, run_held, run_guarded}
use Rattle.isolation.proofs.Noninterference.{shown_back, agree_same, sound_same, confined, run_hides}

module _ (m n : Mem) (r : Cpu) where
  abbrev c : Control
  c = r.control

  maps : Agree (Shown m c) m n → SameMaps c m n
  maps g = agree_same (Shown m c) c m n (λ f x. x) g

  -- that the record is sound and the second audit Safe follows from the rest
  pub twins_of : c.ring ≡ 3 → paging c ≡ true → audit m r ≡ Safe → Agree (Shown m c) m n → Twins r m n
  twins_of ring3 on safe g =
      let a = audit_tables m r safe in
      record {
        is_sound = a.0;
        ring3 = ring3;
        on = on;
        safe = safe;
        also_safe = tables_audit n r (sym (sound_same m n r g.size) ∙ a.0) (sym (tables_same c m n (maps g)) ∙ a.1);
        agree = g;
      }

module _ (m n : Mem) (r : Cpu) (t : Twins r m n) where
  -- a host may set other registers, and twins stay twins
  pub twins_other : (r' : Cpu) → sound m r' ≡ true → r.control ≡ r'.control → Twins r' m n
  twins_other r' e q =
      let safe' : audit m r' ≡ Safe = tables_audit m r' e (rw q at (audit_tables m r t.safe).1) in
      twins_of m n r' (rw q at t.ring3) (rw q at t.on) safe' (rw q at t.agree)

  pub twins_turned : Twins r n m
  twins_turned =
      let g : Agree (Shown m r.control) m n = t.agree in
      let back = shown_back r.control m n (maps m n r g) in
      twins_of n m r t.ring3 t.on t.also_safe (record { size = sym g.size; bytes = λ i f. sym (g.bytes i (back _ f)) })

  pub twins_again : (plan : Planner) (k : ℕ) → Twins (run plan k m r).last.cpu (run plan k m r).last.mem (run plan k n r).last.mem
  twins_again plan k =
      let o : Outcome = (run plan k m r).last in
      let e : SameEnd (Shown m r.control) (run plan k m r) (run plan k n r) = run_hides plan k m n r t in
      let h : Held m r.control o = run_held plan k m r t.is_sound (confined m n r t) in
      let g : Agree (Shown o.mem r.control) o.mem (run plan k n r).last.mem = record {
        size = e.mem.size;
        bytes = λ i f. e.mem.bytes i (shown_back r.control m o.mem h.same _ f);
      } in
      twins_of o.mem _ o.cpu (ap (λ (x : Control). x.ring) h.control ∙ t.ring3) (ap paging h.control ∙ t.on)
      (run_guarded plan k m r t.ring3 t.on t.safe).safe (rw h.control g)

-- ---- user-readable

module _ (m : Mem) (c : Control) (on : paging c ≡ true) (ring3 : user c ≡ true) (f : ℕ) (here : f * 4096 < length m) where
  reaches : (rw' : Bool) (l a b : ℕ) → offset l ≡ 0 → page_of m c l ≡ Mapped true rw' f a b → translate m c false l ≡ At (f * 4096 + 0)
  unfolding translate reach rights ask
  reaches rw' l a b z e = rw (on, e, ring3, z, lt-ltb (f * 4096 + 0) (length m) (omega arith))

  reads : (rw' : Bool) → MappedFrame m c rw' f → Reads m c f
  reads rw' g =
      let l : ℕ = g.dir * 4194304 + g.tab * 4096 in
      let hd : dir_index l ≡ g.dir = omega (arith, g.dir_small, g.tab_small) in
      let ht : tab_index l ≡ g.tab = omega (arith, g.tab_small) in
      let e : page_of m c l ≡ Mapped true rw' f g.dir_slot g.tab_slot = rw (hd, ht) g.maps in
      (l, f * 4096 + 0, reaches rw' l _ _ (omega arith) e, omega arith)

  readable : (l p : ℕ) → translate m c false l ≡ At p → p / 4096 ≡ f → UserReadable m c f
  readable l p e q = let t = translate_mapped m c on ring3 false l p e in (t.0, rw q at t.1)

  pub readable_means : UserReadable m c f ↔ Reads m c f
  readable_means = (λ u. reads _ u.1, λ x. readable x.0 x.1 x.2 x.3)
