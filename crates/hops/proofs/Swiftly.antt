-- A quick step that says done is the definition's step.
-- Assumes nothing.
use Prim.Native.Nat.{ℕ, ◌+◌, ◌/◌, ◌%◌, ◌<◌, ◌≤◌}
use mathlib.Core.Path.{◌≡◌, refl, sym, ap, ◌∙◌}
use mathlib.Core.Bool.{Bool, true, false, cond, ◌&&◌, false≢true}
use mathlib.Core.List.{List, append-nil}
use native.Mathlib.Omega.{arith}
use lib.ListN.{length}
use borrow.Author.Tests.{ne_eqb, eqb-true, ltb-true, ltb-false}
use lib.Dec.{eqb, ltb}
use Rattle.alu.specs.declared.Status.{Status}
use Rattle.alu.specs.declared.Out.{Out}
use Rattle.alu.specs.Arithmetic.{operate, operation}
use Rattle.alu.specs.Brief.{status_in}
use Rattle.machine.specs.declared.Registers.{Registers}
use Rattle.machine.specs.declared.Control.{Control}
use Rattle.machine.specs.declared.Core.{Core}
use Rattle.machine.specs.declared.Cpu.{Cpu}
use Rattle.machine.specs.declared.Reply.TheVariants.{Done}
use Rattle.machine.specs.Record.{Mem, wrap, iopl, has, sound, with_core, with_register}
use Rattle.machine.specs.Replies.{is_done}
use Rattle.machine.specs.Paging.{At, translate, view}
use Rattle.machine.specs.Commit.{Patch, patches}
use Rattle.machine.specs.Run.{step}
use Rattle.std.specs.Prelude.{None, Ok}
use Rattle.paging.specs.Walked.{patches_of}
use Rattle.keptpages.specs.declared.Kept.{Kept}
use Rattle.keptpages.specs.Quiet.{Quiet, KeptOk}
use Rattle.access.specs.declared.Trail.{Trail}
use Rattle.access.specs.Located.{trail_marks, placed, puts}
use Rattle.access.proofs.Laws.{trail_one}
use Rattle.decode.proofs.Cap.{fetched_within}
use Rattle.execute.specs.Execute.{compute}
use Rattle.outcome.specs.declared.Fast.{Fast}
use Rattle.shortcut.specs.Bytes.{Shows}
use Rattle.outcome.specs.Outcome.{file, asks, stores, left_of, right_of, out_of, result_of, stacked, deposit_of, registers_after, next_of, core_after, doubled_in, doubled_of, doubled_after}
use Rattle.shortcut.specs.Shortcut.{FitsTo, core_from, Idle, Tidy, FastOk}
use Rattle.outcome.proofs.Effects.{numbered}
use Rattle.shortcut.proofs.Small.{and_left, and_right}
use Rattle.phases.specs.declared.Planned.{Planned}
use Rattle.hops.specs.declared.Rest.{Rest}
use Rattle.hops.specs.declared.Sought.{Sought}
use Rattle.hops.specs.declared.Ending.{Ending}
use Rattle.hops.specs.declared.Ending.TheVariants as ends
use Rattle.hops.specs.declared.Swift.{Swift}
use Rattle.phases.specs.Step.{micro32}
use Rattle.phases.specs.Planned.{left}
use Rattle.hops.specs.Hops.{moves, keeps, spotted, saved, Reaches, Spared, Left, PagesOk, current, SwiftOk}
use Rattle.hops.proofs.Packed.{core_back, core_again}
use Rattle.hops.proofs.Seeking.{none_reached, pages_move_on}
use Rattle.phases.proofs.Plans.{ready}
use Rattle.phases.proofs.Steps.{step_on}

saved_same : (p : Fast) (i v v' : ℕ) (m : Mem) → (stores p ≡ true → v ≡ v') → saved p i v m ≡ saved p i v' m
unfolding saved
saved_same p i v v' m h = by (stores p) h
  where
    by : (b : Bool) → (b ≡ true → v ≡ v') → cond b (patches (placed (spotted p i) v) m) m ≡ cond b (patches (placed (spotted p i) v') m) m
    by true g = ap (λ (x : ℕ). patches (placed (spotted p i) x) m) (g refl)
    by false g = refl

-- ---- accesses that store nothing and leave the stack, and jumps

-- no access
abbrev nowhere : Fast → Sought
nowhere p = record { at = 0; value = 0; x = p.x; y = p.y }

module _ (p : Fast) (h : p.access < 3) where
  no : (n : ℕ) → 3 ≤ n → asks n p ≡ false
  no n k = ne_eqb p.access n (λ q. omega (arith, h, k, q))

  few_stacked : (x : Registers) → stacked p x ≡ x
  unfolding stacked
  few_stacked x = rw (no 4 (omega arith), no 5 (omega arith), no 6 (omega arith))

  few_saved : (i v : ℕ) (m : Mem) → saved p i v m ≡ m
  unfolding saved
  few_saved i v m = rw (no 3 (omega arith), no 4 (omega arith))

  few_stores : stores p ≡ false
  few_stores = rw (no 3 (omega arith), no 4 (omega arith))

  few_next : (a : ℕ) → next_of p a ≡ p.next
  few_next a = rw (no 6 (omega arith))

module _ (p : Fast) (idle : Idle p) where
  idle_deposit : (x : Registers) (v : ℕ) → (deposit_of p x v).e ≡ x.e
  unfolding deposit_of
  idle_deposit x v = rw idle.1.1

  abbrev idle_out : ℕ → Status → Out
  idle_out a s = record { value = (result_of p a s).value; status = s }

  idle_result : (a : ℕ) (s : Status) → result_of p a s ≡ idle_out a s
  unfolding result_of out_of operate operation
  idle_result a s = rw idle.1.0

module _ (m : Mem) (size : length m % 4096 ≡ 0) (e : List ℕ) (r : Rest) (h : Kept) (d : Cpu) (kept : KeptOk m d.control false h) (small : r.eip < 4294967296)
    (page : r.eip / 4096 ≡ h.page) (room : r.eip % 4096 ≤ 4080) where
  abbrev c : Control
  c = d.control

  abbrev eip : ℕ
  eip = r.eip

  abbrev start : ℕ
  start = h.base + eip % 4096

  a_page : h.page < 1048576
  a_page = omega (arith, page)

  -- every byte of the instruction lies on the kept page
  quiet : (l : ℕ) → l < 4294967296 → l / 4096 ≡ h.page → Quiet m c false l (record { 0 = h.base + l % 4096 })
  quiet l s g = kept.stays a_page m refl (λ i _. refl) (λ i _. refl) l s g

  shown : Shows (view m c) m eip start
  unfolding view
  shown n u =
      let w : eip + n ≡ wrap (eip + n) = omega arith in
      let s : eip + n < 4294967296 = omega arith in
      let g : (eip + n) / 4096 ≡ h.page = same_page n u in
      let i : h.base + (eip + n) % 4096 ≡ start + n = omega arith in
      let t : translate m c false (eip + n) ≡ At (start + n) = sym (quiet (eip + n) s g).walked.reached ∙ ap At i in
      rw (← w, t)
    where
      same_page : (n : ℕ) → n < 16 → (eip + n) / 4096 ≡ h.page
      same_page n u = let z : (eip + n) / 4096 ≡ eip / 4096 = omega arith in z ∙ page

  abbrev int : Bool
  int = has 512 d.eflags

  abbrev dir : Bool
  dir = has 1024 d.eflags

  abbrev k : Core
  k = core_from e eip (status_in r.flags) int dir

  module _ (p : Fast) (q : Sought) (after : ℕ → Core) (fits : FitsTo (view m c) k p after) (found : Reaches m c p q) (few : q.value < 4294967296)
      (good : sound m (current d e r) ≡ true) where
    length_within : (0 < fits.instr.length) × (fits.instr.length ≤ 15)
    length_within = fetched_within eip fits.instr.length (view m c) fits.instr fits.decodes

    abbrev trail : Trail
    trail = record { first = (quiet eip small page).entries; last = None }

    unmarked : m ≡ patches (trail_marks false trail) m
    unfolding trail_marks patches_of
    unmarked = sym (ap (λ (ps : List Patch). patches ps m) (append-nil (patches_of false (quiet eip small page).entries)) ∙ (quiet eip small page).marked)

    abbrev planned : Planned
    planned = record {
      core = (compute fits.instr k q.value).core;
      value = (compute fits.instr k q.value).value;
      length = fits.instr.length;
      first = found.one;
      second = found.two;
    }

    stored : {m' : Mem} (x : ℕ) → (stores p ≡ true → x ≡ (result_of p q.value (status_in r.flags)).value) → m' ≡ saved p q.at x m → m' ≡ left planned m
    unfolding left
    stored x ex em =
        em ∙ saved_same p q.at _ _ m (λ h. ex h ∙ sym (fits.value q.value few h))
        ∙ sym (found.left planned.value) ∙ ap (λ (x : Mem). patches (puts found.two planned.value) (patches (puts found.one planned.value) x)) (sym found.quiet)

    quick_step : {m' : Mem} {e' : List ℕ} (x : ℕ) (r' : Rest) → (stores p ≡ true → x ≡ (result_of p q.value (status_in r.flags)).value) → m' ≡ saved p q.at x m
        → current d e' r' ≡ with_core d (after q.value) → record { reply = Done; cpu = current d e' r'; mem = m' } ≡ step micro32 m (current d e r)
    quick_step x r' ex em ea =
        let n = length_within in
        let core = ea ∙ sym (ap (with_core d) (fits.core q.value few)) ∙ sym (core_again d k planned.core) in
        step_on m (current d e r) good planned
        (ready m (current d e r) fits.instr fits.decodes (fits.free (iopl (current d e r).eflags) d.control.ring) found.one (rw fits.firstly found.firstly) found.two (rw fits.secondly found.secondly)
        (compute fits.instr k q.value) (λ j. compute fits.instr (sym (core_back d k) j) (sym found.value j)) (ap is_done (fits.done q.value)))
        trail
        (trail_one m size c eip small fits.instr.length (Ok (record { place = record { 0 = start }; entries = (quiet eip small page).entries })) (quiet eip small page).entries n.0 (omega (arith, n.1)) (omega (arith, n.1, room)) (quiet eip small page).walked refl)
        unmarked (stored x ex em) core

-- the core that an operation leaves, and MUL
module _ (d : Cpu) (e : List ℕ) (r : Rest) (p : Fast) where
  abbrev from : Core
  from = core_from e r.eip (status_in r.flags) (has 512 d.eflags) (has 1024 d.eflags)

  advanced : {e' : List ℕ} {o : Out} (a : ℕ) (r' : Rest) → o ≡ result_of p a (status_in r.flags) → e' ≡ (registers_after p (file e) o.value).e → r'.eip ≡ next_of p a
      → status_in r'.flags ≡ o.status → current d e' r' ≡ with_core d (core_after p from a)
  unfolding core_after
  advanced {o = o} a r' eo ee ei es =
      let er = ee ∙ ap (λ (x : Out). (registers_after p (file e) x.value).e) eo in
      let et = es ∙ ap (λ (x : Out). x.status) eo in
      λ j. with_core d (record { regs = record { e = er j }; eip = ei j; flags = record { status = et j; interrupt = has 512 d.eflags; direction = has 1024 d.eflags } })

  doubled : {e' : List ℕ} (r' : Rest) → e' ≡ (doubled_after p from).regs.e → r'.eip ≡ p.next → status_in r'.flags ≡ (doubled_of p from).status
      → current d e' r' ≡ with_core d (doubled_after p from)
  unfolding doubled_after
  doubled r' ee ei es =
      λ j. with_core d (record { regs = record { e = ee j }; eip = ei j; flags = record { status = es j; interrupt = has 512 d.eflags; direction = has 1024 d.eflags } })

-- the result of the operands that were found
pub of_operands : (p : Fast) (q : Sought) (s : Status) {o : Out} → (q.x ≡ left_of p q.value) × (q.y ≡ right_of p q.value) → o ≡ out_of p.op p.wide q.x q.y s
    → o ≡ result_of p q.value s
unfolding result_of
of_operands p q s g eo = eo ∙ (λ j. out_of p.op p.wide (g.0 j) (g.1 j) s)

-- ---- the ends of a step

module _ (m : Mem) (e : List ℕ) (c : Control) (t : ℕ) (p : Fast) (q : Sought) (o : Out) where
  -- nothing is stored, and the stack stays
  pub few_left : {e' : List ℕ} (r : Rest) → p.access < 3 → e' ≡ (deposit_of p (file e) o.value).e → r.eip ≡ p.next → status_in r.flags ≡ o.status
      → Left m e c t p q o m e' (record { ending = ends.Done; rest = r })
  few_left r k ee ei es = record {
    done = refl;
    memory = sym (few_saved p k q.at o.value m);
    registers = ee ∙ ap (λ (x : Registers). (deposit_of p x o.value).e) (sym (few_stacked p k (file e)));
    onward = ei ∙ sym (few_next p k q.value);
    flags = es;
    spared = λ _. (refl, ((λ i _. refl), (λ i _. refl)));
  }

  -- the result goes to memory, and to no register
  pub stored_left : {m' : Mem} (r : Rest) (g : Ending) → p.access ≡ 3 → p.to ≡ 8 → m' ≡ patches (placed (spotted p q.at) o.value) m → (moves g ≡ true) × (keeps g ≡ true → Spared m m' c t)
      → r.eip ≡ p.next → status_in r.flags ≡ o.status → Left m e c t p q o m' e (record { ending = g; rest = r })
  unfolding saved stacked deposit_of
  stored_left r g h k em es ei ef = record { done = es.0; memory = em ∙ rw h; registers = rw (h, k); onward = ei ∙ rw h; flags = ef; spared = es.1 }

  pub moved_left : {m' : Mem} {e' : List ℕ} (r : Rest) (g : Ending) → m' ≡ saved p q.at o.value m → (moves g ≡ true) × (keeps g ≡ true → Spared m m' c t) → e' ≡ (registers_after p (file e) o.value).e
      → r.eip ≡ next_of p q.value → status_in r.flags ≡ o.status → Left m e c t p q o m' e' (record { ending = g; rest = r })
  moved_left r g em es ee ei ef = record { done = es.0; memory = em; registers = ee; onward = ei; flags = ef; spared = es.1 }

-- the result by another name
pub left_with : {m m' : Mem} {e e' : List ℕ} {c : Control} {t : ℕ} {p : Fast} {q : Sought} {w : Swift} {o o' : Out} → o ≡ o' → Left m e c t p q o m' e' w → Left m e c t p q o' m' e' w
left_with h k = rw h at k

-- MOV of a dword
pub move_out : (op x y : ℕ) (w : Bool) (s : Status) → x < 4294967296 → y < 4294967296 → (eqb op 9 && w) ≡ true → record { value = y; status = s } ≡ out_of op w x y s
unfolding operation
move_out op x y true s hx hy h = numbered x y s (omega (arith, hx)) (omega (arith, hy)) (eqb-true op 9 (and_left (eqb op 9) true h)) refl refl
move_out op x y false s hx hy h = absurd (false≢true (and_right (eqb op 9) false h))

-- what is no move of a dword leaves the stack
pub tidy_few : (p : Fast) → Tidy p → (eqb p.op 9 && p.wide) ≡ false → p.access < 4
tidy_few p t h = by (ltb p.access 4) refl
  where
    by : (x : Bool) → ltb p.access 4 ≡ x → p.access < 4
    by true k = ltb-true p.access 4 k
    by false k = let g = t.stacking (ltb-false p.access 4 k) in absurd (false≢true (sym h ∙ rw (g.0, g.1)))

-- ---- what the code's step answers

module _ (m : Mem) (e : List ℕ) (c : Control) (r : Rest) (h : Kept) (d' : List ℕ) where
  pub unmoved : PagesOk m c h d' → SwiftOk m e c r h m e d' (record { ending = ends.Stuck; rest = r })
  unmoved kept = record { did = λ w. absurd (false≢true w); not = λ _. (refl, (refl, (refl, refl))); kept = λ _. kept }

  module _ (kept : KeptOk m c false h) (size : length m % 4096 ≡ 0) (small : r.eip < 4294967296) (page : r.eip / 4096 ≡ h.page) (room : r.eip % 4096 ≤ 4080) (i : ℕ) (p : Fast)
      (start : i ≡ h.base + r.eip % 4096) (fast : FastOk m e (status_in r.flags) r.eip i p) (r' : Rest) where
    abbrev hop_fast : FastOk m e (status_in r.flags) r.eip (h.base + r.eip % 4096) p
    hop_fast = rw start at fast

    pub hopped : (g : Ending) → moves g ≡ true → (q : Sought) → p.taken ≡ true → Reaches m c p q → q.value < 4294967296
        → {m' : Mem} {e' : List ℕ} {o : Out} → o ≡ result_of p q.value (status_in r.flags) → m' ≡ saved p q.at o.value m
        → e' ≡ (registers_after p (file e) o.value).e → r'.eip ≡ next_of p q.value → status_in r'.flags ≡ o.status → (keeps g ≡ true → PagesOk m' c h d')
        → SwiftOk m e c r h m' e' d' (record { ending = g; rest = r' })
    hopped g done q taken found few {o = o} eo em ee ei es kept' = record {
      did = λ _ d hc good.
          let k : KeptOk m d.control false h = rw hc kept in
          quick_step m size e r h d k small page room p q (λ a. core_after p (from d e r p) a) (hop_fast.fits taken _ _ (view m d.control) (shown m size e r h d k small page room)) (rw hc found) few good
          o.value r' (λ _. ap (λ (x : Out). x.value) eo) em (advanced d e r p q.value r' eo ee ei es);
      not = λ w. absurd (false≢true (sym w ∙ done));
      kept = kept';
    }

    -- nothing is stored, and the stack stays
    pub few_hopped : (q : Sought) → p.taken ≡ true → Reaches m c p q → q.value < 4294967296 → p.access < 3
        → {e' : List ℕ} {o : Out} → o ≡ result_of p q.value (status_in r.flags) → e' ≡ (deposit_of p (file e) o.value).e
        → r'.eip ≡ p.next → status_in r'.flags ≡ o.status → PagesOk m c h d' → SwiftOk m e c r h m e' d' (record { ending = ends.Done; rest = r' })
    few_hopped q taken found few k {o = o} eo ee ei es kept' =
        let l = few_left m e c h.table p q o r' k ee ei es in
        hopped ends.Done refl q taken found few eo l.memory l.registers l.onward l.flags (λ _. kept')

    -- an end of the code's
    pub landed : (q : Sought) → p.taken ≡ true → Reaches m c p q → q.value < 4294967296 → {m' : Mem} {e' : List ℕ} {w : Swift} {o : Out}
        → o ≡ out_of p.op p.wide q.x q.y (status_in r.flags) → Left m e c h.table p q o m' e' w → r' ≡ w.rest → PagesOk m c h d' → SwiftOk m e c r h m' e' d' w
    landed q taken found few {m'} {e'} {w} {o} eo left er pages =
        let out = of_operands p q (status_in r.flags) found.operands eo in
        let s = hopped w.ending left.done q taken found few out left.memory left.registers (ap (λ (x : Rest). x.eip) er ∙ left.onward) (ap (λ (x : Rest). status_in x.flags) er ∙ left.flags) (λ g. pages_move_on m m' c h d' (left.spared g) pages) in
        record {
          did = λ z d hc good. rw (← er) (s.did z d hc good);
          not = λ z. absurd (false≢true (sym z ∙ left.done));
          kept = s.kept;
        }

    pub jumped : p.taken ≡ true → p.jumps ≡ true → r'.eip ≡ p.next → r'.flags ≡ r.flags → PagesOk m c h d' → SwiftOk m e c r h m e d' (record { ending = ends.Done; rest = r' })
    jumped taken jumps ei ef kept' =
        let idle = fast.idle jumps in
        few_hopped (nowhere p) taken (none_reached m c p (nowhere p) idle.0 refl refl refl) (omega arith) (omega (arith, idle.0)) (sym (idle_result p idle 0 (status_in r.flags)))
        (sym (idle_deposit p idle (file e) _)) ei (ap status_in ef) kept'

    -- MUL
    pub double_hopped : p.doubling ≡ true
        → {e' : List ℕ} → e' ≡ (with_register (with_register (file e) 0 (doubled_in p e (status_in r.flags)).low) 2 (doubled_in p e (status_in r.flags)).high).e
        → r'.eip ≡ p.next → status_in r'.flags ≡ (doubled_in p e (status_in r.flags)).status → PagesOk m c h d' → SwiftOk m e c r h m e' d' (record { ending = ends.Done; rest = r' })
    unfolding doubled_after
    double_hopped doubling ee ei es kept' = record {
      did = λ _ d hc good.
          let k : KeptOk m d.control false h = rw hc kept in
          let f = hop_fast.doubles doubling in
          let few : p.access < 3 = omega (arith, f.0) in
          quick_step m size e r h d k small page room p (nowhere p) (λ a. doubled_after p (from d e r p)) (f.1 _ _ (view m d.control) (shown m size e r h d k small page room))
          (none_reached m d.control p (nowhere p) f.0 refl refl refl) (omega arith) good 0 r' (λ w. absurd (false≢true (sym (few_stores p few) ∙ w))) (sym (few_saved p few 0 0 m)) (doubled d e r p r' ee ei es);
      not = λ w. absurd (false≢true (sym w));
      kept = λ _. kept';
    }

-- the instruction's bytes are there
pub room_for : (m : Mem) (c : Control) (h : Kept) (eip i : ℕ) → KeptOk m c false h → eip < 4294967296 → eip / 4096 ≡ h.page → eip % 4096 ≤ 4080 → i ≡ h.base + eip % 4096 → i + 16 ≤ length m
room_for m c h eip i kept small page room e = let w : h.base + 4096 < length m + 1 = kept.whole (omega (arith, page)) in omega (arith, w, room)
