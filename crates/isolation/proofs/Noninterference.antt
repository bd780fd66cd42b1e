-- Two memories that agree on what ring 3 is shown: its runs cannot tell them apart, and leave two that agree again.
-- Assumes nothing.
use Prim.Native.Nat.{ℕ, zero, suc, ◌/◌, ◌%◌, ◌<◌}
use mathlib.Core.Path.{◌≡◌, refl, sym, ap, ◌∙◌, subst, fun_ext}
use mathlib.Core.Bool.{Bool, true, false, cond}
use mathlib.Core.List.{List, [], ◌∷◌, ◌++◌}
use native.Mathlib.Omega.{arith}
use native.Mathlib.Decide.{dec_lt, ℕ_discrete}
use lib.ListN.{length, length-set}
use lib.Seq.{get_or-set_same, get_or-set_other, set_out}
use borrow.Author.Tests.{eq-eqb}
use Rattle.machine.specs.declared.Control.{Control}
use Rattle.machine.specs.declared.Cpu.{Cpu}
use Rattle.machine.specs.Record.{Mem, at, paging, user, iopl, sound_at, sound, core_of}
use Rattle.machine.specs.Replies.{is_done}
use Rattle.machine.specs.Paging.{Translation, At, No, translate, Byte, seen, View, view}
use Rattle.machine.specs.Commit.{Patch, patch, patches, Touch, Store, marks_of, if_at, marks, stored, touched, written, commit}
use Rattle.machine.specs.Run.{Plan, Finish, Stop, Planner, Outcome, settle, End, onward, checked, step, steps, run}
use Rattle.isolation.specs.Guarded.{TableFrame}
use Rattle.isolation.specs.Twins.{Shown, as_table, as_readable, Agree, Twins, SameEnd, Hides}
use Rattle.isolation.proofs.Same.{SameMaps, page_of_same, translate_same}
use Rattle.isolation.proofs.Audited.{audit_tables}
use Rattle.isolation.proofs.Isolation.{bytes_same, translate_mapped, patches_length}
use Rattle.isolation.proofs.Kept.{run_sound}
use Rattle.isolation.proofs.Ring3.{Confined, confined_on, Held, step_held, table_back, mapped_back}

-- ---- the views are equal

-- frames that hold all that memory m shows
abbrev Covers : (ℕ → Type 0) → Mem → Control → Type 0
Covers frames m c = (f : ℕ) → Shown m c f → frames f

pub shown_back : (c : Control) (m n : Mem) → SameMaps c m n → (f : ℕ) → Shown n c f → Shown m c f
shown_back c m n s f (as_table t) = as_table (table_back c m n s f t)
shown_back c m n s f (as_readable u) = as_readable (u.0, mapped_back c m n s _ f u.1)

module _ (frames : ℕ → Type 0) (c : Control) (m n : Mem) (covers : Covers frames m c) (g : Agree frames m n) where
  table_byte : (i : ℕ) → TableFrame m c (i / 4096) → at m i ≡ at n i
  table_byte i t = g.bytes i (covers _ (as_table t))

  pub agree_same : SameMaps c m n
  agree_same =
      bytes_same m n c g.size (record {
        low = λ i t. (ap (λ (x : ℕ). x % 32) (table_byte i t), ap (λ (x : ℕ). x / 128) (table_byte i t));
        high = λ i t o. table_byte i t;
      })

  module _ (on : paging c ≡ true) (ring3 : user c ≡ true) where
    seen_same : (w : Bool) (l : ℕ) (r : Translation) → translate m c w l ≡ r → seen m r ≡ seen n r
    seen_same w l (At p) e =
        let t = translate_mapped m c on ring3 w l p e in
        ap Byte (g.bytes p (covers _ (as_readable (t.0, t.1))))
    seen_same w l (No q) e = refl

    view_same : view m c ≡ view n c
    unfolding view
    view_same = fun_ext (λ w. fun_ext (λ l.
        seen_same w l (translate m c w l) refl ∙ ap (seen n) (translate_same c m n agree_same w l)))

-- ---- the patches are equal, and what they leave agrees

at_patch_same : (p : Patch) (m n : Mem) → length m ≡ length n → (i : ℕ) → at m i ≡ at n i → at (patch p m) i ≡ at (patch p n) i
unfolding patch
at_patch_same p m n s i e = by (ℕ_discrete i p.place) (dec_lt i (length m))
  where
    by : Dec (i ≡ p.place) → Dec (i < length m) → at (patch p m) i ≡ at (patch p n) i
    by (no o) l = get_or-set_other m p.place i _ 0 o ∙ e ∙ sym (get_or-set_other n p.place i _ 0 o)
    by (yes q) (yes l) =
        rw (← q) (get_or-set_same m i _ 0 l ∙ ap p.becomes e ∙ sym (get_or-set_same n i _ 0 (rw (← s) l)))
    by (yes q) (no l) =
        ap (λ (x : Mem). at x i) (set_out m p.place _ (omega arith)) ∙ e
        ∙ sym (ap (λ (x : Mem). at x i) (set_out n p.place _ (omega arith)))

patch_length : (p : Patch) (m : Mem) → length (patch p m) ≡ length m
unfolding patch
patch_length p m = length-set m _ _

at_patches_same : (ps : List Patch) (m n : Mem) → length m ≡ length n → (i : ℕ)
    → at m i ≡ at n i → at (patches ps m) i ≡ at (patches ps n) i
unfolding patches
at_patches_same [] m n s i e = e
at_patches_same (p ∷ ps) m n s i e =
    at_patches_same ps (patch p m) (patch p n) (patch_length p m ∙ s ∙ sym (patch_length p n)) i (at_patch_same p m n s i e)

module _ (c : Control) (m n : Mem) (s : SameMaps c m n) where
  touched_same : (ts : List Touch) → touched m c ts ≡ touched n c ts
  unfolding touched marks
  touched_same [] = refl
  touched_same (t ∷ ts) =
      let w : Bool = t.write in
      let l : ℕ = t.linear in
      λ i. if_at (translate_same c m n s w l i) (cond (paging c) (marks_of w (page_of_same c m n s l i)) []) ++ touched_same ts i

  written_same : (ss : List Store) → written m c ss ≡ written n c ss
  unfolding written
  written_same [] = refl
  written_same (t ∷ ss) = λ i. stored t (translate_same c m n s true t.linear i) ++ written_same ss i

  commit_same : (ts : List Touch) (ss : List Store) (i : ℕ) → at m i ≡ at n i → at (commit m c ts ss) i ≡ at (commit n c ts ss) i
  unfolding commit
  commit_same ts ss i e =
      at_patches_same (touched m c ts ++ written m c ss) m n s.size i e
      ∙ (λ j. at (patches (touched_same ts j ++ written_same ss j) n) i)

  commit_sizes : (ts : List Touch) (ss : List Store) → length (commit m c ts ss) ≡ length (commit n c ts ss)
  unfolding commit
  commit_sizes ts ss =
      sym (patches_length (touched m c ts ++ written m c ss) m) ∙ s.size ∙ patches_length (touched n c ts ++ written n c ss) n

-- ---- a step, a run

-- the same reply and record, and memories that agree on these frames
record SameOutcome (frames : ℕ → Type 0) (o o' : Outcome) : Type 0 where
  reply : o.reply ≡ o'.reply
  cpu : o.cpu ≡ o'.cpu
  mem : Agree frames o.mem o'.mem

pub sound_same : (m n : Mem) (r : Cpu) → length m ≡ length n → sound m r ≡ sound n r
sound_same m n r e = λ i. sound_at (e i) r

module _ (frames : ℕ → Type 0) where
  settle_twin : (m n : Mem) (r : Cpu) → SameMaps r.control m n → Agree frames m n → (p : Plan)
      → SameOutcome frames (settle m r p) (settle n r p)
  unfolding settle
  settle_twin m n r s g (Finish k ts ss) =
      let c : Control = r.control in
      let after : Agree frames (commit m c ts ss) (commit n c ts ss) =
      record { size = commit_sizes c m n s ts ss; bytes = λ i f. commit_same c m n s ts ss i (g.bytes i f) } in
      record { reply = refl; cpu = refl; mem = after }
  settle_twin m n r s g (Stop q) = record { reply = refl; cpu = refl; mem = g }

  checked_twin : (m n : Mem) (r : Cpu) → SameMaps r.control m n → Agree frames m n → (b : Bool) (p : Plan)
      → SameOutcome frames (checked b m r p) (checked b n r p)
  unfolding checked
  checked_twin m n r s g true p = settle_twin m n r s g p
  checked_twin m n r s g false p = record { reply = refl; cpu = refl; mem = g }

  onward_twin : (b : Bool) (o o' : Outcome) (go : Mem → Cpu → End)
      → SameOutcome frames o o' → SameEnd frames (go o.mem o.cpu) (go o'.mem o'.cpu)
      → SameEnd frames (onward b o go) (onward b o' go)
  unfolding onward
  onward_twin true o o' go t e = record { reply = e.reply; count = ap suc e.count; cpu = e.cpu; mem = e.mem }
  onward_twin false o o' go t e = record { reply = t.reply; count = refl; cpu = t.cpu; mem = t.mem }

module _ (frames : ℕ → Type 0) (plan : Planner) where
  step_twin : (m n : Mem) (r : Cpu) → Covers frames m r.control → Agree frames m n → Confined m r.control
      → SameOutcome frames (step plan m r) (step plan n r)
  unfolding step
  step_twin m n r covers g u =
      let c : Control = r.control in
      let k : View → Plan = plan (core_of r) (iopl r.eflags) c.ring in
      subst (SameOutcome frames (step plan m r))
      (λ i. checked (sound_same m n r g.size i) n r (k (view_same frames c m n covers g u.on u.ring3 i)))
      (checked_twin frames m n r (agree_same frames c m n covers g) g (sound m r) (k (view m c)))

  -- the records before the step are one, and so they are after it
  step_twins : (m n : Mem) (r r' : Cpu) (c : Control) → r ≡ r' → r.control ≡ c → Covers frames m c → Agree frames m n → Confined m c
      → SameOutcome frames (step plan m r) (step plan n r')
  step_twins m n r r' c q e covers g u =
      subst (λ (x : Cpu). SameOutcome frames (step plan m r) (step plan n x)) q (step_twin m n r (rw e covers) g (rw e u))

  steps_twin : (k : ℕ) (m n : Mem) (r r' : Cpu) (c : Control) → r ≡ r' → r.control ≡ c → Covers frames m c → Agree frames m n → Confined m c
      → SameEnd frames (steps plan k m r) (steps plan k n r')
  unfolding steps
  steps_twin zero m n r r' c q e covers g u = record { reply = refl; count = refl; cpu = q; mem = g }
  steps_twin (suc k) m n r r' c q e covers g u =
      let o : Outcome = step plan m r in
      let o' : Outcome = step plan n r' in
      let go : Mem → Cpu → End = λ m' r''. steps plan k m' r'' in
      let h : Held m c o = step_held plan m r c e u in
      let t : SameOutcome frames o o' = step_twins m n r r' c q e covers g u in
      let covers' : Covers frames o.mem c = λ f x. covers f (shown_back c m o.mem h.same f x) in
      let rest : SameEnd frames (go o.mem o.cpu) (go o'.mem o'.cpu) =
      steps_twin k o.mem o'.mem o.cpu o'.cpu c t.cpu h.control covers' t.mem (confined_on c m o.mem h.same u) in
      subst (λ (b : Bool). SameEnd frames (onward (is_done o.reply) o go) (onward b o' go)) (ap is_done t.reply)
      (onward_twin frames (is_done o.reply) o o' go t rest)

pub confined : (m n : Mem) (r : Cpu) → Twins r m n → Confined m r.control
confined m n r t = record { safe = (audit_tables m r t.safe).1; on = t.on; ring3 = eq-eqb _ _ t.ring3 }

pub run_hides : (plan : Planner) → Hides (run plan)
run_hides plan k m n r t =
    let g : Agree (Shown m r.control) m n = t.agree in
    rw (run_sound plan k m r t.is_sound, run_sound plan k n r (sym (sound_same m n r g.size) ∙ t.is_sound))
    (steps_twin (Shown m r.control) plan k m n r r r.control refl refl (λ f x. x) g (confined m n r t))
