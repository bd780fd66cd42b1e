-- Demand 3, for every set of instructions: what a run in ring 3 can change.
-- Assumes nothing.
use Prim.Native.Nat.{ℕ, zero, suc, ◌+◌, ◌*◌, ◌/◌, ◌%◌, ◌<◌, ◌≤◌}
use mathlib.Core.Path.{◌≡◌, refl, sym, ◌∙◌, subst}
use mathlib.Core.Bool.{Bool, true, false, ◌&&◌}
use mathlib.Core.List.{List, ◌++◌}
use native.Mathlib.Omega.{arith}
use native.Mathlib.Nat.{mod-lt}
use lib.ListN.{length}
use lib.Dec.{lit≤, lit<, eqb}
use borrow.Author.Tests.{eq-eqb, lt-ltb}
use Rattle.machine.specs.declared.Flags.{Flags}
use Rattle.machine.specs.declared.Control.{Control}
use Rattle.machine.specs.declared.Cpu.{Cpu}
use Rattle.machine.specs.declared.Reply.{Reply}
use Rattle.machine.specs.declared.Reply.TheVariants.{BadRecord, Safe}
use Rattle.machine.specs.Record.{Mem, digit, pack, paging, user}
use Rattle.machine.specs.Record.{size_sound, ring_sound, cr0_sound, cr3_sound, flags_sound, sound_at, sound}
use Rattle.machine.specs.Commit.{Touch, Store, touched, written, commit}
use Rattle.machine.specs.Audit.{tables, audit}
use Rattle.machine.specs.Run.{Plan, Finish, Stop, Planner, Outcome, settle, End, onward, still, checked, step, steps, run}
use Rattle.isolation.specs.Guarded.{TableFrame, directory, table, MappedFrame}
use Rattle.isolation.specs.Guarded.{Change, kept, in_user, marked, Isolated, Guarded}
use Rattle.isolation.proofs.Same.{SameMaps, page_same, tables_same}
use Rattle.isolation.proofs.Audited.{audit_tables, tables_audit}
use Rattle.isolation.proofs.Isolation.{change_trans, commit_isolated, table_bytes, bytes_same, patches_length}
use Rattle.isolation.proofs.Kept.{run_sound}

-- ---- maps that say the same have the same frames

pub same_sym : (c : Control) (m n : Mem) → SameMaps c m n → SameMaps c n m
same_sym c m n s = record {
  size = sym s.size;
  dirs = λ d h. sym (s.dirs d h);
  tabs = λ d t hd ht us rw' f e. sym (s.tabs d t hd ht us rw' f (s.dirs d hd ∙ e));
}

module _ (c : Control) (m n : Mem) (s : SameMaps c m n) where
  pub mapped_back : (rw' : Bool) (f : ℕ) → MappedFrame n c rw' f → MappedFrame m c rw' f
  mapped_back rw' f u = record {
    dir = u.dir;
    tab = u.tab;
    dir_slot = u.dir_slot;
    tab_slot = u.tab_slot;
    dir_small = u.dir_small;
    tab_small = u.tab_small;
    maps = page_same c m n s _ _ u.dir_small u.tab_small ∙ u.maps;
  }

  pub table_back : (f : ℕ) → TableFrame n c f → TableFrame m c f
  table_back f (directory e) = directory e
  table_back f (table d us rw' h e) = table d us rw' h (s.dirs d h ∙ e)

  change_back : (i a b : ℕ) → Change n c i a b → Change m c i a b
  change_back i a b (kept e) = kept e
  change_back i a b (in_user u) = in_user (mapped_back _ _ u)
  change_back i a b (marked t z h) = marked (table_back _ t) z h

isolated_trans : (c : Control) (l m n : Mem) → SameMaps c l m → Isolated l c m → Isolated m c n → Isolated l c n
isolated_trans c l m n s a b = record {
  size = a.size ∙ b.size;
  changes = λ i. change_trans l c i _ _ _ (a.changes i) (change_back c l m s i _ _ (b.changes i));
}

isolated_refl : (m : Mem) (c : Control) → Isolated m c m
isolated_refl m c = record { size = refl; changes = λ i. kept refl }

same_refl : (c : Control) (m : Mem) → SameMaps c m m
same_refl c m = record { size = refl; dirs = λ d h. refl; tabs = λ d t hd ht us rw' f e. refl }

same_trans : (c : Control) (l m n : Mem) → SameMaps c l m → SameMaps c m n → SameMaps c l n
same_trans c l m n s t = record {
  size = s.size ∙ t.size;
  dirs = λ d h. s.dirs d h ∙ t.dirs d h;
  tabs = λ d i hd hi us rw' f e. s.tabs d i hd hi us rw' f e ∙ t.tabs d i hd hi us rw' f (sym (s.dirs d hd) ∙ e);
}

-- ---- a step

-- the audit finds no fault with memory m under control c, paging is on, and the ring is 3
pub record Confined (m : Mem) (c : Control) : Type 0 where
  pub safe : tables m c ≡ Safe
  pub on : paging c ≡ true
  pub ring3 : user c ≡ true

-- what holds of memory m under control c, and of what comes out of m
pub record Held (m : Mem) (c : Control) (o : Outcome) : Type 0 where
  pub control : o.cpu.control ≡ c
  pub same : SameMaps c m o.mem
  pub iso : Isolated m c o.mem

unmoved : (m : Mem) (r : Cpu) (q : Reply) → Held m r.control (still q m r)
unmoved m r q = record { control = refl; same = same_refl r.control m; iso = isolated_refl m r.control }

module _ (m : Mem) (r : Cpu) (h : Confined m r.control) where
  settle_held : (p : Plan) → Held m r.control (settle m r p)
  unfolding settle
  settle_held (Finish k ts ss) =
      let i : Isolated m r.control (commit m r.control ts ss) = commit_isolated m r.control h.on h.ring3 ts ss in
      record { control = refl; same = bytes_same m _ r.control i.size (table_bytes m _ r.control h.safe i); iso = i }
  settle_held (Stop q) = unmoved m r q

  checked_held : (b : Bool) (p : Plan) → Held m r.control (checked b m r p)
  unfolding checked
  checked_held true p = settle_held p
  checked_held false p = unmoved m r BadRecord

pub step_held : (plan : Planner) (m : Mem) (r : Cpu) (c : Control) → r.control ≡ c → Confined m c → Held m c (step plan m r)
unfolding step
step_held plan m r c e h = subst (λ (x : Control). Held m x (step plan m r)) e (checked_held m r (rw e h) (sound m r) _)

-- ---- a run

held_trans : (m : Mem) (c : Control) (o o' : Outcome) → Held m c o → Held o.mem c o' → Held m c o'
held_trans m c o o' h h' = record {
  control = h'.control;
  same = same_trans c m o.mem o'.mem h.same h'.same;
  iso = isolated_trans c m o.mem o'.mem h.same h.iso h'.iso;
}

pub confined_on : (c : Control) (m n : Mem) → SameMaps c m n → Confined m c → Confined n c
confined_on c m n s h = record { safe = sym (tables_same c m n s) ∙ h.safe; on = h.on; ring3 = h.ring3 }

onward_held : (m : Mem) (c : Control) (b : Bool) (o : Outcome) (go : Mem → Cpu → End)
    → Held m c o → Held o.mem c (go o.mem o.cpu).last → Held m c (onward b o go).last
unfolding onward
onward_held m c true o go h h' = held_trans m c o _ h h'
onward_held m c false o go h h' = h

steps_held : (plan : Planner) (n : ℕ) (m : Mem) (r : Cpu) (c : Control) → r.control ≡ c → Confined m c
    → Held m c (steps plan n m r).last
unfolding steps
steps_held plan zero m r c e u = record { control = e; same = same_refl c m; iso = isolated_refl m c }
steps_held plan (suc n) m r c e u =
    let h : Held m c (step plan m r) = step_held plan m r c e u in
    onward_held m c _ (step plan m r) _ h
    (steps_held plan n (step plan m r).mem (step plan m r).cpu c h.control (confined_on c m _ h.same u))

-- ---- the record stays sound

pub digit_small : (b : Bool) → digit b ≤ 1
digit_small true = lit≤ tt
digit_small false = lit≤ tt

-- eight flags and IOPL put together
module _ (c p a z g i d o q : ℕ) (hc : c ≤ 1) (hp : p ≤ 1) (ha : a ≤ 1) (hz : z ≤ 1) (hg : g ≤ 1)
    (hi : i ≤ 1) (hd : d ≤ 1) (ho : o ≤ 1) (hq : q < 4) where
  abbrev packed : ℕ
  packed = 2 + 1 * c + 4 * p + 16 * a + 64 * z + 128 * g + 512 * i + 1024 * d + 2048 * o + 4096 * q

  packed1 : packed / 2 % 2 ≡ 1
  packed1 = omega arith

  packed3 : packed / 8 % 2 ≡ 0
  packed3 = omega arith

  packed5 : packed / 32 % 2 ≡ 0
  packed5 = omega arith

  packed8 : packed / 256 % 2 ≡ 0
  packed8 = omega arith

  packed_small : packed < 16384
  packed_small = omega arith

  packed_sound : flags_sound packed ≡ true
  packed_sound =
      λ j. eqb (packed1 j) 1 && eqb (packed3 j) 0 && eqb (packed5 j) 0 && eqb (packed8 j) 0 && lt-ltb packed 16384 packed_small j

pack_sound : (e : ℕ) (f : Flags) → flags_sound (pack e f) ≡ true
unfolding pack
pack_sound e f =
    let s = f.status in
    packed_sound _ _ _ _ _ _ _ _ _ (digit_small s.cf) (digit_small s.pf) (digit_small s.af) (digit_small s.zf)
    (digit_small s.sf) (digit_small f.interrupt) (digit_small f.direction) (digit_small s.of)
    (mod-lt (e / 4096) (lit< tt))

commit_length : (m : Mem) (c : Control) (ts : List Touch) (ss : List Store) → length m ≡ length (commit m c ts ss)
unfolding commit
commit_length m c ts ss = patches_length (touched m c ts ++ written m c ss) m

-- the last of five tests is another
last_true : (a b c d e e' : Bool) → a && b && c && d && e ≡ true → e' ≡ true → a && b && c && d && e' ≡ true
last_true true true true true e e' h h' = h'
last_true true true true false e e' h h' = h
last_true true true false d e e' h h' = h
last_true true false c d e e' h h' = h
last_true false b c d e e' h h' = h

-- the record that comes out is sound for the memory that comes out
abbrev SoundOut : Outcome → Type 0
SoundOut o = sound o.mem o.cpu ≡ true

settle_sound : (m : Mem) (r : Cpu) (p : Plan) → sound m r ≡ true → SoundOut (settle m r p)
unfolding settle sound_at
settle_sound m r (Finish k ts ss) e =
    let c : Control = r.control in
    rw (← (commit_length m c ts ss))
    (last_true (size_sound (length m)) (ring_sound c.ring) (cr0_sound c.cr0) (cr3_sound c.cr3) _ _ e
    (pack_sound r.eflags k.flags))
settle_sound m r (Stop q) e = e

checked_sound : (m : Mem) (r : Cpu) (b : Bool) (p : Plan) → sound m r ≡ true → SoundOut (checked b m r p)
unfolding checked
checked_sound m r true p e = settle_sound m r p e
checked_sound m r false p e = e

onward_sound : (b : Bool) (o : Outcome) (go : Mem → Cpu → End)
    → SoundOut o → SoundOut (go o.mem o.cpu).last → SoundOut (onward b o go).last
unfolding onward
onward_sound true o go h h' = h'
onward_sound false o go h h' = h

pub step_sound : (plan : Planner) (m : Mem) (r : Cpu) → sound m r ≡ true → SoundOut (step plan m r)
unfolding step
step_sound plan m r e = checked_sound m r (sound m r) _ e

steps_sound : (plan : Planner) (n : ℕ) (m : Mem) (r : Cpu) → sound m r ≡ true → SoundOut (steps plan n m r).last
unfolding steps
steps_sound plan zero m r e = e
steps_sound plan (suc n) m r e =
    let h : SoundOut (step plan m r) = step_sound plan m r e in
    onward_sound _ (step plan m r) _ h (steps_sound plan n _ _ h)

-- ---- demand 3

pub run_held : (plan : Planner) (n : ℕ) (m : Mem) (r : Cpu) → sound m r ≡ true → Confined m r.control
    → Held m r.control (run plan n m r).last
run_held plan n m r e u = rw (run_sound plan n m r e) (steps_held plan n m r r.control refl u)

pub run_guarded : (plan : Planner) (n : ℕ) (m : Mem) (r : Cpu)
    → r.control.ring ≡ 3 → paging r.control ≡ true → audit m r ≡ Safe → Guarded m r (run plan n m r).last
run_guarded plan n m r ring3 on e =
    let a = audit_tables m r e in
    let c : Control = r.control in
    let o : Outcome = (steps plan n m r).last in
    let h : Held m c o = steps_held plan n m r c refl (record { safe = a.1; on = on; ring3 = eq-eqb _ _ ring3 }) in
    let safe' : tables o.mem c ≡ Safe = sym (tables_same c m o.mem h.same) ∙ a.1 in
    rw (run_sound plan n m r a.0)
    record {
      control = h.control;
      changes = h.iso;
      safe = tables_audit o.mem o.cpu (steps_sound plan n m r a.0) (rw h.control safe');
      frames = λ f. (mapped_back c o.mem m (same_sym c m o.mem h.same) true f, mapped_back c m o.mem h.same true f);
    }
