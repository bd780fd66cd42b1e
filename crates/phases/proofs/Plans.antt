-- From the code's plan to the definition's step, one law for each place where a plan is made. Assumes nothing.
use Prim.Native.Nat.{ℕ}
use Rattle.std.specs.Prelude.{Ok, Err}
use mathlib.Core.Path.{◌≡◌, refl, sym, ap, ◌∙◌}
use mathlib.Core.Bool.{true, false}
use mathlib.Core.List.{List, [], ◌∷◌, ◌++◌, append_assoc}
use Rattle.machine.specs.declared.Control.{Control}
use Rattle.machine.specs.declared.Core.{Core}
use Rattle.machine.specs.declared.Cpu.{Cpu}
use Rattle.machine.specs.declared.Reply.{Reply}
use Rattle.machine.specs.declared.Reply.TheVariants.{Done, Fault}
use Rattle.machine.specs.declared.Want.{Want}
use Rattle.machine.specs.Record.{Mem, iopl, core_of, with_core}
use Rattle.machine.specs.Replies.{is_done}
use Rattle.machine.specs.Paging.{View, view, translate}
use Rattle.machine.specs.Commit.{Patch, Store, patches, touched, written, stored, commit}
use Rattle.machine.specs.Run.{Plan, settle}
use Rattle.machine.specs.Act.{Log, ok, refuse, access, store, stores_of, noting, ended, plan_of}
use Rattle.access.specs.declared.Access.{Access}
use Rattle.access.specs.Located.{span, touches_of, puts, Held, LocatedOk}
use Rattle.access.proofs.Marks.{patches_append, touched_append}
use Rattle.encoding.specs.declared.Instruction.{Instruction}
use Rattle.fetch.specs.Read.{log_at}
use Rattle.decode.specs.Decode.{decode}
use Rattle.decode.specs.Read.{ready_of}
use Rattle.decode.proofs.Cap.{fetched_within}
use native.Mathlib.Omega.{arith}
use Rattle.operands.specs.declared.Effect.{Effect}
use Rattle.execute.specs.Execute.{permitted, first, second, compute}
use Rattle.phases.specs.declared.Planned.{Planned}
use Rattle.phases.specs.Step.{allowed, leave, instruction, micro32}
use Rattle.phases.specs.Planned.{access_marks, left, outcome_of, PlanOk}

written_append : (m : Mem) (c : Control) (ss us : List Store) → written m c (ss ++ us) ≡ written m c ss ++ written m c us
unfolding written
written_append m c [] us = refl
written_append m c (s ∷ ss) us =
    ap (λ (l : List Patch). stored s (translate m c true s.linear) ++ l) (written_append m c ss us)
    ∙ sym (append_assoc (stored s (translate m c true s.linear)) (written m c ss) (written m c us))

module _ (m : Mem) (r : Cpu) where
  abbrev shown : View
  shown = view m r.control

  abbrev planned : Plan
  planned = micro32 (core_of r) (iopl r.eflags) r.control.ring shown

  stops : {q : Reply} → settle m r planned ≡ record { reply = q; cpu = r; mem = m } → PlanOk m r (Err q)
  unfolding outcome_of
  stops e = record { does = sym e; long = tt; short = tt }

  stop_decode : {q : Reply} → decode r.eip shown (log_at r.eip 0) ≡ refuse q → PlanOk m r (Err q)
  unfolding micro32 instruction plan_of span settle
  stop_decode e = stops (rw e)

  module _ (i : Instruction) (de : decode r.eip shown (log_at r.eip 0) ≡ ok i (log_at r.eip i.length)) where
    stop_forbidden : permitted i (iopl r.eflags) r.control.ring ≡ false → PlanOk m r (Err (Fault 13 0 0))
    unfolding micro32 instruction plan_of span settle allowed
    stop_forbidden e = stops (rw (de, e))

    module _ (pe : permitted i (iopl r.eflags) r.control.ring ≡ true) where
      abbrev one : Want
      one = first i r.regs

      abbrev two : Want
      two = second i r.regs

      stop_first : {q : Reply} → ((g : Log) → access one shown g ≡ refuse q) → PlanOk m r (Err q)
      unfolding micro32 instruction plan_of span settle allowed
      stop_first e = stops (rw (de, pe, e (log_at r.eip i.length)))

      module _ (a : Access) (ha : Held m r.control one a) where
        abbrev noted_one : Log
        noted_one = noting (log_at r.eip i.length) (touches_of one)

        stop_second : {q : Reply} → ((g : Log) → access two shown g ≡ refuse q) → PlanOk m r (Err q)
        unfolding micro32 instruction plan_of span settle allowed
        stop_second e = stops (rw (de, pe, ha.does (log_at r.eip i.length), e noted_one))

        module _ (b : Access) (hb : Held m r.control two b) where
          went_through : planned ≡ ended (leave one two (compute i (core_of r) a.value) shown (noting noted_one (touches_of two)))
          unfolding micro32 instruction plan_of span allowed
          went_through = rw (de, pe, ha.does (log_at r.eip i.length), hb.does noted_one)

          -- the marks, then the stores
          marks_left : patches (touched m r.control ((span false r.eip i.length ++ touches_of one) ++ touches_of two)) m
              ≡ access_marks b (access_marks a (patches (touched m r.control (span false r.eip i.length)) m))
          marks_left =
              touched_append m r.control (span false r.eip i.length ++ touches_of one) (touches_of two) m
              ∙ ap (patches (touched m r.control (touches_of two)))
              (touched_append m r.control (span false r.eip i.length) (touches_of one) m ∙ ha.marked _)
              ∙ hb.marked _

          stores_left : (x : ℕ) → written m r.control (stores_of one x ++ stores_of two x) ≡ puts a x ++ puts b x
          stores_left x = written_append m r.control (stores_of one x) (stores_of two x) ∙ (λ j. ha.stored x j ++ hb.stored x j)

          memory_left : (p : Planned) → p.first ≡ a → p.second ≡ b
              → left p (patches (touched m r.control (span false r.eip i.length)) m)
              ≡ commit m r.control ((span false r.eip i.length ++ touches_of one) ++ touches_of two) (stores_of one p.value ++ stores_of two p.value)
          unfolding left commit
          memory_left p ea eb =
              rw (ea, eb) (sym (patches_append (touched m r.control ((span false r.eip i.length ++ touches_of one) ++ touches_of two)) (written m r.control (stores_of one p.value ++ stores_of two p.value)) m
              ∙ (λ j. patches (stores_left p.value j) (marks_left j))
              ∙ patches_append (puts a p.value) (puts b p.value) _))

          module _ (e : Effect) (ee : e ≡ compute i (core_of r) a.value) where
            effect_left : settle m r planned ≡ settle m r (ended (leave one two e shown (noting noted_one (touches_of two))))
            effect_left = ap (settle m r) (went_through ∙ sym (ap (λ (x : Effect). ended (leave one two x shown (noting noted_one (touches_of two)))) ee))

            pub idle : is_done e.reply ≡ false → PlanOk m r (Err e.reply)
            unfolding settle leave
            idle h = stops (effect_left ∙ rw h)

            abbrev plan_of_it : Planned
            plan_of_it = record { core = e.core; value = e.value; length = i.length; first = a; second = b }

            settled : is_done e.reply ≡ true → outcome_of m r (Ok plan_of_it) ≡ settle m r (ended (leave one two e shown (noting noted_one (touches_of two))))
            unfolding outcome_of settle leave store
            settled h = rw h (λ j. record { reply = Done; cpu = with_core r e.core; mem = memory_left plan_of_it refl refl j })

            pub ready : is_done e.reply ≡ true → PlanOk m r (Ok plan_of_it)
            ready h =
                let n = fetched_within r.eip i.length shown i de in
                record {
                  does = settled h ∙ sym effect_left;
                  long = n.0;
                  short = omega (arith, n.1);
                }

-- ---- the same, from what the code's calls answered

module _ (m : Mem) (r : Cpu) where
  pub at_unready : {q : Reply} → ready_of r.eip (Err q) ≡ decode r.eip (view m r.control) (log_at r.eip 0) → PlanOk m r (Err q)
  at_unready e = stop_decode m r (sym e)

  module _ {i : Instruction} (e : ready_of r.eip (Ok i) ≡ decode r.eip (view m r.control) (log_at r.eip 0)) where
    pub at_forbidden : permitted i (iopl r.eflags) r.control.ring ≡ false → PlanOk m r (Err (Fault 13 0 0))
    at_forbidden off = stop_forbidden m r i (sym e) off

    module _ (on : permitted i (iopl r.eflags) r.control.ring ≡ true) {t : Want} (et : t ≡ first i r.regs) where
      pub at_first : {q : Reply} → LocatedOk m r.control t (Err q) → PlanOk m r (Err q)
      at_first out = stop_first m r i (sym e) on (rw (← et) out)

      module _ {a : Access} (here : LocatedOk m r.control t (Ok a)) {u : Want} (eu : u ≡ second i r.regs) where
        held : Held m r.control (first i r.regs) a
        held = rw (← et) here

        pub at_second : {q : Reply} → LocatedOk m r.control u (Err q) → PlanOk m r (Err q)
        at_second out = stop_second m r i (sym e) on a held (rw (← eu) out)

        module _ {b : Access} (there : LocatedOk m r.control u (Ok b)) (x : Effect) {k : Core} (ek : k ≡ core_of r) (ex : x ≡ compute i k a.value) where
          held_too : Held m r.control (second i r.regs) b
          held_too = rw (← eu) there

          computed : x ≡ compute i (core_of r) a.value
          computed = ex ∙ ap (λ (y : Core). compute i y a.value) ek

          pub at_idle : is_done x.reply ≡ false → PlanOk m r (Err x.reply)
          at_idle = idle m r i (sym e) on a held b held_too x computed

          pub at_ready : is_done x.reply ≡ true → PlanOk m r (Ok (record { core = x.core; value = x.value; length = i.length; first = a; second = b }))
          at_ready = ready m r i (sym e) on a held b held_too x computed
