-- A form that needs no memory, carried out.
-- Assumes nothing.
use Rattle.std.proofs.Common.{◌≡◌, ℕ, ◌+◌, ◌-◌, ◌/◌, ◌%◌, ◌<◌, Bool, true, false, cond, eqb, List, length, get_or, set, sym, refl, ◌∙◌, arith, lt-ltb}
use Rattle.alu.specs.declared.Status.{Status}
use Rattle.alu.specs.declared.brief.Brief.{Brief}
use Rattle.alu.specs.declared.brief.Short.{Short}
use Rattle.alu.specs.Arithmetic.{writes}
use Rattle.alu.specs.Brief.{status_in, out_in}
use Rattle.machine.specs.declared.Control.{Control}
use Rattle.machine.specs.Record.{Mem, wrap, read_at, with_register, write_at}
use Rattle.conditions.specs.Conditions.{holds}
use Rattle.keptpages.specs.declared.Kept.{Kept}
use Rattle.products.specs.Products.{product}
use Rattle.outcome.specs.declared.Fast.{Fast}
use Rattle.outcome.specs.Outcome.{file, out_of, deposit_of}
use Rattle.shortcut.specs.Forms.{taking, jump_fast}
use Rattle.shortcut.specs.Shortcut.{FastOk}
use Rattle.forms.specs.declared.Form.{Form}
use Rattle.forms.specs.Forms.{reg, next_in, spot_in, target, working, doubling, meant}
use Rattle.hops.specs.declared.Rest.{Rest}
use Rattle.hops.specs.Hops.{SwiftOk}
use Rattle.hops.proofs.Seeking.{none_reached}
use Rattle.hops.proofs.Swiftly.{few_hopped, jumped, double_hopped, of_operands, move_out}
use Rattle.hops.specs.declared.Ending.{Ending}
use Rattle.hops.specs.declared.Ending.TheVariants as ends
use Rattle.hops.specs.declared.Swift.{Swift}
use Rattle.strides.specs.Strides.{Stands, Here, EndedOk}
use Rattle.strides.proofs.Parts.{done_apart}
use Rattle.strides.proofs.Standing.{fast}

-- ---- what a form means

module _ (f : Form) (e : List ℕ) (eip : ℕ) (s : Status) where
  pub by_register : (op : ℕ) {x y : ℕ} → f.kind ≡ op → op < 16 → x ≡ reg e f.a → y ≡ reg e f.b
      → meant f e eip s ≡ working op true 0 0 x y (taking op f.a) (next_in f eip)
  unfolding meant
  by_register op k l ex ey = let o : op / 16 ≡ 0 = omega (arith, l) in rw (k, o, ex, ey)

  pub by_number : (op : ℕ) {x : ℕ} → f.kind ≡ op + 16 → op < 16 → x ≡ reg e f.a
      → meant f e eip s ≡ working op true 0 0 (cond (eqb op 9) 0 x) f.number (taking op f.a) (next_in f eip)
  unfolding meant
  by_number op k l ex =
      let z : (op + 16) / 16 ≡ 1 = omega (arith, l) in
      let o : op + 16 - 16 ≡ op = omega arith in
      rw (k, z, o, ex)

  pub on_condition : (n : ℕ) {b : Bool} → f.kind ≡ n + 48 → n < 16 → b ≡ holds n s → meant f e eip s ≡ jump_fast (cond b (target f eip) (next_in f eip))
  unfolding meant
  on_condition n k l eb =
      let z : (n + 48) / 16 ≡ 3 = omega (arith, l) in
      let o : n + 48 - 48 ≡ n = omega arith in
      rw (k, z, o, eb)

  pub a_jump : f.kind ≡ 69 → meant f e eip s ≡ jump_fast (target f eip)
  unfolding meant
  a_jump k = rw k

  pub an_address : {y : ℕ} → f.kind ≡ 71 → y ≡ spot_in f e → meant f e eip s ≡ working 9 true 0 0 0 y f.a (next_in f eip)
  unfolding meant
  an_address k ey = rw (k, ey)

  pub a_byte_test : {x y : ℕ} → f.kind ≡ 74 → x ≡ read_at false (file e) f.a → y ≡ read_at false (file e) f.b
      → meant f e eip s ≡ working 8 false 0 0 x y 8 (next_in f eip)
  unfolding meant
  a_byte_test k ex ey = rw (k, ex, ey)

  a_double : f.kind ≡ 75 → meant f e eip s ≡ doubling f e eip
  unfolding meant
  a_double k = rw k

  pub a_product : {x : ℕ} → f.kind ≡ 76 → x ≡ reg e f.b → meant f e eip s ≡ working 14 true 0 0 x f.number f.a (next_in f eip)
  unfolding meant
  a_product k ex = rw (k, ex)

-- ---- the ends

abbrev ended : Ending → ℕ → Brief → Swift
ended a eip g = record { ending = a; rest = record { eip = eip; flags = g } }

-- MOV of a number takes it whatever the register holds
pub left_free : (op x y : ℕ) (s : Status) → x < 4294967296 → y < 4294967296 → out_of op true x y s ≡ out_of op true (cond (eqb op 9) 0 x) y s
left_free op x y s hx hy = by (eqb op 9) refl
  where
    by : (b : Bool) → eqb op 9 ≡ b → out_of op true x y s ≡ out_of op true (cond b 0 x) y s
    by true k = sym (move_out op x y true s hx hy (rw k refl)) ∙ move_out op 0 y true s (omega arith) hy (rw k refl)
    by false k = refl

module _ (m : Mem) (e : List ℕ) (c : Control) (r : Rest) (h : Kept) (d : List ℕ) (f : Form) (stands : Stands m c h d r) where
  module _ (here : Here m h r f) (whole : reg e f.b < 4294967296) (eight : length e ≡ 8) where
    abbrev s : Status
    s = status_in r.flags

    abbrev next : ℕ
    next = next_in f r.eip

    is_there : {p : Fast} → meant f e r.eip s ≡ p → FastOk m e s r.eip (h.base + r.eip % 4096) p
    is_there {p} ep = fast m e c r h d f here whole eight p ep

    -- the instruction after it follows
    following : {m' : Mem} {e' : List ℕ} {x : Rest} → SwiftOk m e c r h m' e' d (record { ending = ends.Done; rest = x }) → SwiftOk m e c r h m' e' d (record { ending = ends.Follows; rest = x })
    following k = record { did = k.did; not = k.not; kept = k.kept }

    on_next : {e' : List ℕ} {w : Swift} {n : ℕ} (g : Brief) → n ≡ next → w ≡ ended ends.Follows n g → SwiftOk m e c r h m e' d (record { ending = ends.Done; rest = record { eip = next; flags = g } })
        → EndedOk m e c r h d f m e' w
    on_next g en ew k = rw (ew, en) (record { swift = following k; follows = λ _. (refl, (refl, λ i _. refl)) })

    worked : {op x y to n : ℕ} {wide : Bool} {e' : List ℕ} {w : Swift} (o : Short) → meant f e r.eip s ≡ working op wide 0 0 x y to next → out_in o ≡ out_of op wide x y s
        → e' ≡ (deposit_of (working op wide 0 0 x y to next) (file e) o.value).e → n ≡ next → w ≡ ended ends.Follows n o.flags → EndedOk m e c r h d f m e' w
    worked {op} {x} {y} {to} {n} {wide} o ep eo ee en ew =
        let p : Fast = working op wide 0 0 x y to next in
        on_next o.flags en ew
        (few_hopped m e c r h d stands.pages.0 stands.size stands.small stands.page stands.room _ p refl (is_there ep) (record { eip = next; flags = o.flags })
        (record { at = 0; value = 0; x = x; y = y }) refl (none_reached m c p _ refl refl refl refl) (omega arith) (omega arith) (of_operands p (record { at = 0; value = 0; x = x; y = y }) s (refl, refl) eo) ee refl refl stands.pages)

    -- the result goes to a register, unless it is CMP or TEST
    put_away : (op x y v : ℕ) (b : Bool) → cond b (set e f.a v) e ≡ (deposit_of (working op true 0 0 x y (cond b f.a 8) next) (file e) v).e
    unfolding deposit_of write_at
    put_away op x y v true = rw (lt-ltb f.a 8 here.1.a)
    put_away op x y v false = refl

    pub settled : {op x y n : ℕ} {e' : List ℕ} {w : Swift} (o : Short) → meant f e r.eip s ≡ working op true 0 0 x y (taking op f.a) next → out_in o ≡ out_of op true x y s
        → e' ≡ cond (writes op) (set e f.a o.value) e → n ≡ next → w ≡ ended ends.Follows n o.flags → EndedOk m e c r h d f m e' w
    settled {op} {x} {y} o ep eo ee en ew = worked o ep eo (ee ∙ put_away op x y o.value (writes op)) en ew

    -- or nowhere
    pub to_none : {op x y n : ℕ} {wide : Bool} {w : Swift} (o : Short) → meant f e r.eip s ≡ working op wide 0 0 x y 8 next → out_in o ≡ out_of op wide x y s
        → n ≡ next → w ≡ ended ends.Follows n o.flags → EndedOk m e c r h d f m e w
    unfolding deposit_of
    to_none o ep eo en ew = worked o ep eo refl en ew

    pub moves : {x y n : ℕ} {e' : List ℕ} {w : Swift} → meant f e r.eip s ≡ working 9 true 0 0 x y f.a next → x < 4294967296 → y < 4294967296
        → e' ≡ set e f.a y → n ≡ next → w ≡ ended ends.Follows n r.flags → EndedOk m e c r h d f m e' w
    moves {x} {y} ep hx hy ee en ew = settled (record { value = y; flags = r.flags }) ep (move_out 9 x y true s hx hy refl) ee en ew

    -- jumps, taken or not
    jumping : {t : ℕ} → meant f e r.eip s ≡ jump_fast t → SwiftOk m e c r h m e d (record { ending = ends.Done; rest = record { eip = t; flags = r.flags } })
    unfolding jump_fast
    jumping {t} ep =
        jumped m e c r h d stands.pages.0 stands.size stands.small stands.page stands.room _ (jump_fast t) refl (is_there ep) (record { eip = t; flags = r.flags }) refl refl refl refl stands.pages

    pub jumps : {n t : ℕ} {w : Swift} → meant f e r.eip s ≡ jump_fast (target f r.eip) → n ≡ next → t ≡ wrap (n + f.number)
        → w ≡ ended ends.Done t r.flags → EndedOk m e c r h d f m e w
    jumps ep en et ew = rw (ew, et, en) (record { swift = jumping ep; follows = λ z. absurd (done_apart z) })

    pub goes_on : {n : ℕ} {w : Swift} → meant f e r.eip s ≡ jump_fast next → n ≡ next → w ≡ ended ends.Follows n r.flags → EndedOk m e c r h d f m e w
    goes_on ep en ew = on_next r.flags en ew (jumping ep)

    -- MUL
    pub doubles : {x n : ℕ} {e' : List ℕ} {w : Swift} → f.kind ≡ 75 → x ≡ reg e f.b
        → e' ≡ (with_register (with_register (file e) 0 (product false true (get_or e 0 0) x s).low) 2 (product false true (get_or e 0 0) x s).high).e
        → w.ending ≡ ends.Follows → n ≡ next → w.rest.eip ≡ n → status_in w.rest.flags ≡ (product false true (get_or e 0 0) x s).status → EndedOk m e c r h d f m e' w
    doubles {w = w} k ex ee es en ei ef =
        let p : Fast = doubling f e r.eip in
        let t = double_hopped m e c r h d stands.pages.0 stands.size stands.small stands.page stands.room _ p refl (is_there (a_double f e r.eip s k)) w.rest refl (rw ex at ee) (ei ∙ en) (rw ex at ef) stands.pages in
        record { swift = rw es (following t); follows = λ _. (ei ∙ en, (refl, λ i _. refl)) }
