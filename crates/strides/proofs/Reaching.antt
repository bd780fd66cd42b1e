-- The forms that read or write memory: each is its instruction's quick step.
-- Assumes nothing.
use Rattle.std.proofs.Common.{◌≡◌, ℕ, ◌+◌, ◌-◌, ◌/◌, ◌%◌, ◌<◌, ◌≤◌, Bool, true, false, cond, ◌||◌, eqb, List, length, get_or, set, sym, refl, ap, ◌∙◌, arith, lt-ltb, ne_eqb, eqb-true}
use mathlib.Core.Bool.{false≢true}
use Rattle.alu.specs.declared.Status.{Status}
use Rattle.alu.specs.declared.Out.{Out}
use Rattle.alu.specs.declared.brief.Brief.{Brief}
use Rattle.alu.specs.declared.brief.Short.{Short}
use Rattle.alu.specs.Arithmetic.{operation, writes}
use Rattle.alu.specs.Brief.{status_in, out_in}
use Rattle.machine.specs.declared.Control.{Control}
use Rattle.machine.specs.Record.{Mem, at, wrap, read_at, write_at}
use Rattle.machine.specs.Paging.{dword_at}
use Rattle.paging.proofs.Pages.{there}
use Rattle.keptpages.specs.declared.Kept.{Kept}
use Rattle.keptpages.specs.Quiet.{Quiet, Agree, HeldOk}
use Rattle.outcome.specs.declared.Fast.{Fast}
use Rattle.outcome.specs.Outcome.{file, stores, out_of, stacked, deposit_of, registers_after, next_of}
use Rattle.outcome.proofs.Effects.{byte_numbered}
use Rattle.shortcut.specs.Forms.{taking, push_fast, pop_fast}
use Rattle.forms.specs.declared.Form.{Form}
use Rattle.forms.specs.Forms.{reg, next_in, spot_in, target, working, by_memory, by_byte, meant}
use Rattle.hops.specs.declared.Rest.{Rest}
use Rattle.hops.specs.Hops.{moves, keeps, saved, Holds, Reaches, Spared}
use Rattle.hops.proofs.Seeking.{pushed, read, reached, put_there, saved_all, pages_move_on}
use Rattle.hops.proofs.Swiftly.{hopped, of_operands, move_out}
use Rattle.hops.specs.declared.Ending.{Ending}
use Rattle.hops.specs.declared.Ending.TheVariants as ends
use Rattle.hops.specs.declared.Swift.{Swift}
use Rattle.strides.specs.Strides.{Stands, Here, EndedOk}
use Rattle.strides.proofs.Parts.{done_apart, Answers}
use Rattle.strides.proofs.Standing.{fast}

first_of : (x y : Bool) → (x || y) ≡ true → y ≡ false → x ≡ true
first_of true y e h = refl
first_of false y e h = absurd (false≢true (sym h ∙ e))

byte_small : (e : List ℕ) (n : ℕ) → read_at false (file e) n < 256
unfolding read_at
byte_small e n = by (eqb (n / 4 % 2) 1)
  where
    by : (b : Bool) → cond b (get_or e (n % 4) 0 / 256 % 256) (get_or e (n % 4) 0 % 256) < 256
    by true = omega arith
    by false = omega arith

dword_small : (m : Mem) (i : ℕ) → ((n : ℕ) → at m n < 256) → dword_at m i < 4294967296
dword_small m i h = omega (arith, h i, h (i + 1), h (i + 2), h (i + 3))

-- MOV of a byte
byte_moved : (e : List ℕ) (n y : ℕ) (s : Status) → y < 256 → record { value = y; status = s } ≡ out_of 9 false (read_at false (file e) n) y s
unfolding operation
byte_moved e n y s h = byte_numbered (read_at false (file e) n) y s (byte_small e n) h refl refl refl

-- all but CMP write
writing : (op : ℕ) → op < 7 → writes op ≡ true
writing op h = rw (ne_eqb op 7 (λ z. omega (arith, h, z)), ne_eqb op 8 (λ z. omega (arith, h, z)))

-- ---- what the forms mean

module _ (f : Form) (e : List ℕ) (eip : ℕ) (s : Status) where
  by_memory_lem : (op : ℕ) → f.kind / 16 ≡ 2 → f.kind - 32 ≡ op → meant f e eip s ≡ by_memory f op e eip
  unfolding meant
  by_memory_lem op h k = rw (h, k)

  loads : f.kind ≡ 41 → meant f e eip s ≡ by_memory f 9 e eip
  loads k = by_memory_lem 9 (ap (λ (z : ℕ). z / 16) k) (ap (λ (z : ℕ). z - 32) k)

  combines : f.kind / 8 ≡ 4 → meant f e eip s ≡ by_memory f (f.kind - 32) e eip
  combines k = let z : f.kind / 16 ≡ 2 = omega (arith, k) in by_memory_lem (f.kind - 32) z refl

  compares_byte : f.kind ≡ 72 → meant f e eip s ≡ by_byte f 7 e eip
  unfolding meant
  compares_byte k = rw k

  moves_byte : f.kind ≡ 73 → meant f e eip s ≡ by_byte f 9 e eip
  unfolding meant
  moves_byte k = rw k

  keeping : f.kind ≡ 64 → meant f e eip s ≡ working 9 true 3 (spot_in f e) (reg e f.b) (reg e f.a) 8 (next_in f eip)
  unfolding meant
  keeping k = rw k

  pops : f.kind ≡ 67 → meant f e eip s ≡ pop_fast e 5 f.a (next_in f eip)
  unfolding meant
  pops k = rw k

  goes_back : f.kind ≡ 70 → meant f e eip s ≡ pop_fast e 6 8 (next_in f eip)
  unfolding meant
  goes_back k = rw k

  calls : {v : ℕ} → f.kind ≡ 68 → v ≡ next_in f eip → meant f e eip s ≡ push_fast e v (target f eip)
  unfolding meant
  calls {v} k ev = rw (k, ev)

  pub pushes : {v : ℕ} → f.kind ≡ 65 → v ≡ reg e f.b → meant f e eip s ≡ push_fast e v (next_in f eip)
  unfolding meant
  pushes {v} k ev = rw (k, ev)

  pub pushes_number : f.kind ≡ 66 → meant f e eip s ≡ push_fast e f.number (next_in f eip)
  unfolding meant
  pushes_number k = rw k

-- ---- what is at hand

-- the byte at l is on a page at hand, at index i
abbrev AtHand : ℕ → List ℕ → Bool → ℕ → ℕ → Type 0
AtHand t d w l i = (m : Mem) (c : Control) → HeldOk m c t d → Quiet m c w l (record { 0 = i })

-- and so is the dword
abbrev Near : ℕ → List ℕ → Bool → ℕ → ℕ → Type 0
Near t d w l i = (l % 4096 ≤ 4092) × (AtHand t d w l i)

module _ {m : Mem} {c : Control} {r : Rest} {h : Kept} {d : List ℕ} (stands : Stands m c h d r) {w : Bool} {l i : ℕ} where
  pub byte_there : AtHand h.table d w l i → (i < length m) × (i % 4096 ≡ l % 4096)
  byte_there near = there m c w l i (sym (near m c stands.pages.1).walked.reached)

  -- memory ends where a page does
  pub dword_there : Near h.table d w l i → (i + 3 < length m) × (i % 4096 ≤ 4092)
  dword_there near =
      let k = byte_there near.1 in
      (omega (arith, stands.size, near.0, k.0, k.1), omega (arith, near.0, k.1))

-- ---- a form, where it stands

module _ (m : Mem) (e : List ℕ) (c : Control) (r : Rest) (h : Kept) (d : List ℕ) (f : Form) (stands : Stands m c h d r) where
  abbrev s : Status
  s = status_in r.flags

  -- the access is found at index i, with the value u and the operands x and y
  found_near : (p : Fast) {l i : ℕ} (v u x y : ℕ) → l ≡ p.at → p.at < 4294967296 → (p.access ≡ 0 → ⊥) → (p.wide ≡ true → l % 4096 ≤ 4092) → AtHand h.table d (stores p) l i
      → v ≡ cond p.wide (dword_at m i) (at m i) → Holds p v (record { at = i; value = u; x = x; y = y }) → Reaches m c p (record { at = i; value = u; x = x; y = y })
  found_near p {l} {i} v u x y el small n room near ev k =
      reached m c p stands.size small (record { 0 = i }) (rw el at (near m c stands.pages.1)) (record { at = i; value = u; x = x; y = y }) v n (λ z. rw el at (room z)) ev refl k

  module _ (here : Here m h r f) (known : (length e ≡ 8) × ((n : ℕ) → get_or e n 0 < 4294967296)) where
    -- the instruction p, with its access found
    ended : (p : Fast) → meant f e r.eip s ≡ p → p.taken ≡ true → (i u x y : ℕ) → Reaches m c p (record { at = i; value = u; x = x; y = y }) → u < 4294967296
        → {m' : Mem} {e' : List ℕ} {o : Out} (w : Swift) → o ≡ out_of p.op p.wide x y s → m' ≡ saved p i o.value m
        → e' ≡ (registers_after p (file e) o.value).e → w.rest.eip ≡ next_of p u → status_in w.rest.flags ≡ o.status
        → moves w.ending ≡ true → (keeps w.ending ≡ true → Spared m m' c h.table)
        → (w.ending ≡ ends.Follows → (w.rest.eip ≡ next_in f r.eip) × (Agree m m' (h.base / 4096))) → EndedOk m e c r h d f m' e' w
    ended p is taken i u x y found few {m'} w eo em ee ei es done spared after =
        let k = hopped m e c r h d stands.pages.0 stands.size stands.small stands.page stands.room _ p refl (fast m e c r h d f here (known.1 f.b) known.0 p is) w.rest w.ending done
        (record { at = i; value = u; x = x; y = y }) taken found few (of_operands p (record { at = i; value = u; x = x; y = y }) s found.operands eo) em ee ei es
        (λ g. pages_move_on m m' c h d (spared g) stands.pages) in
        record { swift = k; follows = λ z. ((after z).0, ((spared (holds z)).0, (after z).1)) }
      where
        holds : w.ending ≡ ends.Follows → keeps w.ending ≡ true
        holds z = rw z

    -- an operation by what lies in memory
    module _ (op x y v next : ℕ) (wide : Bool) (is : meant f e r.eip s ≡ working op wide 2 (spot_in f e) x y (taking op f.a) (next_in f r.eip)) where
      abbrev reads : Fast
      reads = working op wide 2 (spot_in f e) x y (taking op f.a) (next_in f r.eip)

      worked : {l i : ℕ} → l ≡ spot_in f e → (wide ≡ true → l % 4096 ≤ 4092) → AtHand h.table d false l i → v ≡ cond wide (dword_at m i) (at m i) → v < 4294967296 → {e' : List ℕ} {o : Out} (b : Brief)
          → o ≡ out_of op wide x v s → e' ≡ (deposit_of reads (file e) o.value).e → next ≡ next_in f r.eip → status_in b ≡ o.status
          → EndedOk m e c r h d f m e' (record { ending = ends.Follows; rest = record { eip = next; flags = b } })
      unfolding saved stacked
      worked {l} {i} el room near ev few b eo ee en es =
          ended reads is refl i v x v (found_near reads v v x v el (omega arith) (none 0 refl) room near ev (read reads v _ (none 0 refl) (none 4 refl) refl refl refl)) few
          (record { ending = ends.Follows; rest = record { eip = next; flags = b } }) eo refl ee en es refl (λ _. (refl, (λ _ _. refl, λ _ _. refl))) (λ _. (en, λ _ _. refl))
        where
          none : (n : ℕ) → (n % 4 ≡ 0) → 2 ≡ n → ⊥
          none n g z = omega (arith, g, z)

      to_register : f.a < 8 → writes op ≡ true → {e' : List ℕ} (u : ℕ) → e' ≡ (write_at wide (file e) f.a u).e → e' ≡ (deposit_of reads (file e) u).e
      unfolding deposit_of
      to_register a g u ee = rw (g, lt-ltb f.a 8 a) ee

      to_none : writes op ≡ false → (u : ℕ) → e ≡ (deposit_of reads (file e) u).e
      unfolding deposit_of
      to_none g u = rw g

    -- POP and RET
    popped : (k n v : ℕ) → 5 ≤ k → (eqb k 5 || eqb k 6) ≡ true → meant f e r.eip s ≡ pop_fast e k n (next_in f r.eip) → {l i : ℕ} → l ≡ reg e 4 → Near h.table d false l i → v ≡ dword_at m i
        → v < 4294967296 → {e' : List ℕ} (w : Swift) → e' ≡ (deposit_of (pop_fast e k n (next_in f r.eip)) (file (set e 4 (wrap (reg e 4 + 4)))) v).e
        → w.rest.eip ≡ cond (eqb k 6) v (next_in f r.eip) → status_in w.rest.flags ≡ s → moves w.ending ≡ true → (w.ending ≡ ends.Follows → w.rest.eip ≡ next_in f r.eip)
        → EndedOk m e c r h d f m e' w
    unfolding saved stacked pop_fast
    popped k n v five top is {l} {i} el near ev few {e'} w ee ei es done after =
        let p : Fast = pop_fast e k n (next_in f r.eip) in
        let still : stores p ≡ false = rw (no 3 (omega arith), no 4 (omega arith)) in
        let near' : AtHand h.table d (stores p) l i = rw still near.1 in
        let value : v ≡ cond true (dword_at m i) (at m i) = ev in
        let left : ◌≡◌ {A = ℕ} 0 (cond (eqb k 1 || eqb k 3) v 0) = rw (no 1 (omega arith), no 3 (omega arith)) in
        let right : v ≡ cond (eqb k 1 || eqb k 3) 0 v = rw (no 1 (omega arith), no 3 (omega arith)) in
        let unsaved : m ≡ saved p i v m = rw still in
        let regs : e' ≡ (registers_after p (file e) v).e = rw (no 4 (omega arith), top) ee in
        ended p is refl i v 0 v (found_near p v v 0 v el (known.1 4) (λ z. omega (arith, five, z)) (λ _. near.0) near' value (read p v _ (λ z. omega (arith, five, z)) (λ z. omega (arith, five, z)) refl left right)) few w
        (move_out 9 0 v true s (omega arith) few refl) unsaved regs ei es done (λ _. (refl, (λ _ _. refl, λ _ _. refl))) (λ z. (after z, λ _ _. refl))
      where
        no : (n : ℕ) → n < 5 → eqb k n ≡ false
        no n g = ne_eqb k n (λ z. omega (arith, five, g, z))

    -- a dword is stored: MOV to memory, PUSH and CALL
    stored : (k l z v to i u x : ℕ) → meant f e r.eip s ≡ working 9 true k l z v 8 to → (eqb k 3 || eqb k 4) ≡ true → eqb k 6 ≡ false
        → Reaches m c (working 9 true k l z v 8 to) (record { at = i; value = u; x = x; y = v }) → u < 4294967296 → x < 4294967296 → v < 4294967296 → {m' : Mem} {e' : List ℕ} (w : Swift)
        → m' ≡ set (set (set (set m i (v % 256)) (i + 1) (v / 256 % 256)) (i + 2) (v / 65536 % 256)) (i + 3) (v / 16777216 % 256)
        → e' ≡ (stacked (working 9 true k l z v 8 to) (file e)).e → w.rest.eip ≡ to → status_in w.rest.flags ≡ s
        → moves w.ending ≡ true → (keeps w.ending ≡ true → Spared m m' c h.table)
        → (w.ending ≡ ends.Follows → (w.rest.eip ≡ next_in f r.eip) × (Agree m m' (h.base / 4096))) → EndedOk m e c r h d f m' e' w
    unfolding deposit_of
    stored k l z v to i u x is put six found few hx hv {m'} w em ee ei es done spared after =
        let p : Fast = working 9 true k l z v 8 to in
        let kept : m' ≡ saved p i v m = em ∙ put_there m p i v refl ∙ saved_all m c h.table p i v put in
        let on : w.rest.eip ≡ next_of p u = rw six ei in
        ended p is refl i u x v found few w (move_out 9 x v true s hx hv refl) kept ee on es done spared after

    pub kept : f.kind ≡ 64 → ((n : ℕ) → at m n < 256) → {l i v next : ℕ} {n : Ending} → l ≡ spot_in f e → Near h.table d true l i → v ≡ reg e f.a → {m' : Mem}
        → m' ≡ set (set (set (set m i (v % 256)) (i + 1) (v / 256 % 256)) (i + 2) (v / 65536 % 256)) (i + 3) (v / 16777216 % 256)
        → Answers m m' c h.table (h.base / 4096) n → next ≡ next_in f r.eip
        → EndedOk m e c r h d f m' e (record { ending = n; rest = record { eip = next; flags = r.flags } })
    unfolding stacked
    kept k bytes {l} {i} {v} {next} {n} el near ev em told en =
        let p : Fast = working 9 true 3 (spot_in f e) (reg e f.b) v 8 (next_in f r.eip) in
        let is : meant f e r.eip s ≡ p = rw ev (keeping f e r.eip s k) in
        stored 3 (spot_in f e) (reg e f.b) v (next_in f r.eip) i (dword_at m i) (dword_at m i) is refl refl
        (found_near p (dword_at m i) (dword_at m i) (dword_at m i) v el (omega arith) (none 0 refl) (λ _. near.0) near.1 refl (read p (dword_at m i) _ (none 0 refl) (none 4 refl) refl refl refl))
        (dword_small m i bytes) (dword_small m i bytes) (rw ev (known.1 f.a)) (record { ending = n; rest = record { eip = next; flags = r.flags } })
        em refl en refl told.1.1 told.0 (λ z. (en, told.1.0 z))
      where
        none : (n : ℕ) → n % 4 ≡ 0 → 3 ≡ n → ⊥
        none n g z = omega (arith, g, z)

    -- v is pushed, and the program goes on at `to`
    pushed_on : (to v : ℕ) → meant f e r.eip s ≡ push_fast e v to → v < 4294967296 → {l i : ℕ} → l ≡ wrap (reg e 4 + 4294967292) → Near h.table d true l i → {m' : Mem} {e' : List ℕ} (w : Swift)
        → m' ≡ set (set (set (set m i (v % 256)) (i + 1) (v / 256 % 256)) (i + 2) (v / 65536 % 256)) (i + 3) (v / 16777216 % 256)
        → e' ≡ set e 4 l → w.rest.eip ≡ to → w.rest.flags ≡ r.flags
        → moves w.ending ≡ true → (keeps w.ending ≡ true → Spared m m' c h.table)
        → (w.ending ≡ ends.Follows → (w.rest.eip ≡ next_in f r.eip) × (Agree m m' (h.base / 4096))) → EndedOk m e c r h d f m' e' w
    unfolding stacked push_fast
    pushed_on to v is hv {l} {i} el near w em ee ei es done spared after =
        let p : Fast = push_fast e v to in
        stored 4 (wrap (reg e 4 + 4294967292)) 0 v to i 0 0 is refl refl
        (found_near p (dword_at m i) 0 0 v el (omega arith) none (λ _. near.0) near.1 refl (pushed p (dword_at m i) _ refl refl refl refl))
        (omega arith) (omega arith) hv w em (ee ∙ ap (λ (z : ℕ). set e 4 z) el) ei (ap status_in es) done spared after
      where
        none : ◌≡◌ {A = ℕ} 4 0 → ⊥
        none z = omega (arith, z)

    -- ---- the code's ends

    abbrev done_at : ℕ → Brief → Swift
    done_at next b = record { ending = ends.Follows; rest = record { eip = next; flags = b } }

    module _ {l i next : ℕ} (el : l ≡ spot_in f e) (near : Near h.table d false l i) (en : next ≡ next_in f r.eip) where
      pub loaded : f.kind ≡ 41 → {v : ℕ} {e' : List ℕ} → v ≡ dword_at m i → v < 4294967296 → e' ≡ set e f.a v → EndedOk m e c r h d f m e' (done_at next r.flags)
      unfolding write_at
      loaded k {v} ev few ee =
          let is = loads f e r.eip s k in
          worked 9 (reg e f.a) (reg e f.b) v next true is el (λ _. near.0) near.1 ev few r.flags (move_out 9 (reg e f.a) v true s (known.1 f.a) few refl)
          (to_register 9 (reg e f.a) (reg e f.b) v next true is here.1.a refl v ee) en refl

      module _ (k : f.kind / 8 ≡ 4) {x v : ℕ} (o : Short) (ex : x ≡ reg e f.a) (ev : v ≡ dword_at m i) (few : v < 4294967296) (eo : out_in o ≡ out_of (f.kind - 32) true x v s) where
        by_dword : {e' : List ℕ} → e' ≡ (deposit_of (by_memory f (f.kind - 32) e r.eip) (file e) o.value).e → EndedOk m e c r h d f m e' (done_at next o.flags)
        by_dword ee =
            worked (f.kind - 32) (reg e f.a) (reg e f.b) v next true (combines f e r.eip s k) el (λ _. near.0) near.1 ev few o.flags
            (eo ∙ ap (λ (z : ℕ). out_of (f.kind - 32) true z v s) ex) ee en refl

        pub combined : (f.kind ≡ 39 → ⊥) → {e' : List ℕ} → e' ≡ set e f.a o.value → EndedOk m e c r h d f m e' (done_at next o.flags)
        unfolding write_at
        combined n ee =
            let w : f.kind - 32 < 7 = below f.kind k n in
            by_dword (to_register (f.kind - 32) (reg e f.a) (reg e f.b) v next true (combines f e r.eip s k) here.1.a (writing (f.kind - 32) w) o.value ee)
          where
            below : (x : ℕ) → x / 8 ≡ 4 → (x ≡ 39 → ⊥) → x - 32 < 7
            below x h n = omega (arith, h, n)

        pub compared : f.kind ≡ 39 → EndedOk m e c r h d f m e (done_at next o.flags)
        compared n =
            let w : writes (f.kind - 32) ≡ false = rw n in
            by_dword (to_none (f.kind - 32) (reg e f.a) (reg e f.b) v next true (combines f e r.eip s k) w o.value)

    module _ {l i y next : ℕ} (el : l ≡ spot_in f e) (near : AtHand h.table d false l i) (en : next ≡ next_in f r.eip) (ey : y ≡ at m i) (small : y < 256) where
      narrow : ◌≡◌ {A = Bool} false true → l % 4096 ≤ 4092
      narrow z = absurd (false≢true z)

      few_byte : y < 4294967296
      few_byte = omega (arith, small)

      pub byte_loaded : f.kind ≡ 73 → {e' : List ℕ} → e' ≡ (write_at false (file e) f.a y).e → EndedOk m e c r h d f m e' (done_at next r.flags)
      byte_loaded k ee =
          let is = moves_byte f e r.eip s k in
          worked 9 (read_at false (file e) f.a) (read_at false (file e) f.b) y next false is el narrow near ey few_byte r.flags (byte_moved e f.a y s small)
          (to_register 9 (read_at false (file e) f.a) (read_at false (file e) f.b) y next false is here.1.a refl y ee) en refl

      pub byte_compared : (eqb f.kind 72 || eqb f.kind 73) ≡ true → (f.kind ≡ 73 → ⊥) → {x : ℕ} (o : Short) → x ≡ read_at false (file e) f.a → out_in o ≡ out_of 7 false x y s
          → EndedOk m e c r h d f m e (done_at next o.flags)
      byte_compared h' n {x} o ex eo =
          let is = compares_byte f e r.eip s (eqb-true f.kind 72 (first_of (eqb f.kind 72) (eqb f.kind 73) h' (ne_eqb f.kind 73 n))) in
          worked 7 (read_at false (file e) f.a) (read_at false (file e) f.b) y next false is el narrow near ey few_byte o.flags
          (eo ∙ ap (λ (z : ℕ). out_of 7 false z y s) ex) (to_none 7 (read_at false (file e) f.a) (read_at false (file e) f.b) y next false is refl o.value) en refl

    module _ {l i v t : ℕ} {e₁ : List ℕ} (el : l ≡ reg e 4) (near : Near h.table d false l i) (ev : v ≡ dword_at m i) (few : v < 4294967296) (et : t ≡ wrap (l + 4)) (ee : e₁ ≡ set e 4 t) where
      raised : e₁ ≡ set e 4 (wrap (reg e 4 + 4))
      raised = ee ∙ ap (λ (z : ℕ). set e 4 z) (et ∙ ap (λ (z : ℕ). wrap (z + 4)) el)

      pub popped_to : (eqb f.kind 67 || eqb f.kind 70) ≡ true → (f.kind ≡ 70 → ⊥) → {next : ℕ} {e' : List ℕ} → next ≡ next_in f r.eip → e' ≡ set e₁ f.a v
          → EndedOk m e c r h d f m e' (done_at next r.flags)
      unfolding deposit_of write_at pop_fast
      popped_to h' n {next} en ee' =
          let k = eqb-true f.kind 67 (first_of (eqb f.kind 67) (eqb f.kind 70) h' (ne_eqb f.kind 70 n)) in
          popped 5 f.a v (omega arith) refl (pops f e r.eip s k) el near ev few (done_at next r.flags)
          (rw (lt-ltb f.a 8 here.1.a) (ee' ∙ ap (λ (z : List ℕ). set z f.a v) raised)) en refl refl (λ _. en)

      pub returned : f.kind ≡ 70 → EndedOk m e c r h d f m e₁ (record { ending = ends.Done; rest = record { eip = v; flags = r.flags } })
      unfolding deposit_of pop_fast
      returned k =
          popped 6 8 v (omega arith) refl (goes_back f e r.eip s k) el near ev few (record { ending = ends.Done; rest = record { eip = v; flags = r.flags } }) raised refl refl refl (λ z. absurd (done_apart z))

    module _ {x l i v next : ℕ} {n : Ending} {m' : Mem} {e' : List ℕ} (ex : x ≡ reg e 4) (el : l ≡ wrap (x + 4294967292)) (near : Near h.table d true l i)
        (few : v < 4294967296)
        (em : m' ≡ set (set (set (set m i (v % 256)) (i + 1) (v / 256 % 256)) (i + 2) (v / 65536 % 256)) (i + 3) (v / 16777216 % 256)) (ee : e' ≡ set e 4 l)
        (told : Answers m m' c h.table (h.base / 4096) n) (en : next ≡ next_in f r.eip) where
      lowered : l ≡ wrap (reg e 4 + 4294967292)
      lowered = el ∙ ap (λ (z : ℕ). wrap (z + 4294967292)) ex

      pub pushed_to : meant f e r.eip s ≡ push_fast e v (next_in f r.eip) → EndedOk m e c r h d f m' e' (record { ending = n; rest = record { eip = next; flags = r.flags } })
      pushed_to is =
          pushed_on (next_in f r.eip) v is few lowered near (record { ending = n; rest = record { eip = next; flags = r.flags } }) em ee en refl
          told.1.1 told.0 (λ z. (en, told.1.0 z))

      -- CALL, where the code's status is n or, for 0, 2
      module _ (k : f.kind ≡ 68) (ev : v ≡ next) {to : ℕ} (et : to ≡ wrap (next + f.number)) where
        called : (a : Ending) → moves a ≡ true → (keeps a ≡ true → Spared m m' c h.table) → (a ≡ ends.Follows → ⊥)
            → EndedOk m e c r h d f m' e' (record { ending = a; rest = record { eip = to; flags = r.flags } })
        called a one three none =
            pushed_on (target f r.eip) v (calls f e r.eip s k (ev ∙ en)) few lowered near (record { ending = a; rest = record { eip = to; flags = r.flags } }) em ee
            (et ∙ ap (λ (z : ℕ). wrap (z + f.number)) en) refl one three (λ z. absurd (none z))

        pub called_on : n ≡ ends.Follows → EndedOk m e c r h d f m' e' (record { ending = ends.Done; rest = record { eip = to; flags = r.flags } })
        called_on z = called ends.Done refl (λ _. told.0 (rw z)) done_apart

        pub called_off : (n ≡ ends.Follows → ⊥) → EndedOk m e c r h d f m' e' (record { ending = n; rest = record { eip = to; flags = r.flags } })
        called_off z = called n told.1.1 told.0 z
