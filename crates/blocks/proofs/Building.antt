-- A block while it is read.
-- Assumes nothing.
use Prim.Native.Nat.{ℕ, ◌+◌, ◌%◌, ◌<◌, ◌≤◌}
use mathlib.Core.Path.{◌≡◌, refl, ap, ◌∙◌}
use mathlib.Core.Bool.{Bool, true, false, cond}
use mathlib.Core.List.{List}
use native.Mathlib.Omega.{arith}
use borrow.Author.Tests.{leb-true, leb-false, lt-ltb, le-ltb}
use lib.Dec.{leb}
use lib.ListN.{length, get_or, set}
use Rattle.machine.specs.Record.{Mem}
use Rattle.forms.specs.declared.Form.{Form}
use Rattle.forms.specs.Forms.{FormOk, ReadOk}
use Rattle.blocks.specs.Blocks.{unpacked, size_in, offset, Written, Keyed, Known}
use Rattle.blocks.proofs.Keys.{asked_most, keyed_whole}
use Rattle.blocks.proofs.Tables.{Counted, grown_count, grown_offset, grown_written, grown_known, grown_long}

-- j forms are there, and `off` bytes are before the next
pub record Built (m : Mem) (i s : ℕ) (g : List ℕ) (j off : ℕ) : Type 0 where
  pub known : Known g
  pub written : Written m i g s 8
  pub size : size_in g s ≡ j
  -- no form asks for bytes beyond the first thirty-two while the next does not
  pub short : off ≤ 16 → get_or g (s + 8) 0 < 32
  pub bytes : offset g s j ≡ off
  pub long : length g ≡ 4096

pub built_none : (m : Mem) (i s : ℕ) (g : List ℕ) → length g ≡ 4096 → Known g → (Written m i g s 8) × (get_or g (s + 8) 0 ≡ 0) → Built m i s g 0 0
unfolding offset
built_none m i s g n k (key, z) =
    record { known = k; written = key; size = rw z; short = λ _. omega (arith, z); bytes = refl; long = n }

-- the count that is stored
module _ (g : List ℕ) (s j off c : ℕ) (l : j < 23) (o : off ≤ 48) (short : off ≤ 16 → get_or g (s + 8) 0 < 32) (bytes : offset g s j ≡ off)
    (e : c ≡ cond (leb off 16) (j + 1) (j + 33)) where
  pub counted : (Counted g s j c) × (off ≤ 16 → c < 32)
  counted = by (leb off 16) refl
    where
      by : (z : Bool) → leb off 16 ≡ z → (Counted g s j c) × (off ≤ 16 → c < 32)
      by true t =
          let u : off ≤ 16 = leb-true _ _ t in
          let v : c ≡ j + 1 = rw t at e in
          let a = lt-ltb (get_or g (s + 8) 0) 32 (short u) in
          let b = lt-ltb c 32 (omega arith) in
          (record { size = omega arith; room = rw (b, bytes) (omega arith); more = rw (a, b) (omega arith) }, λ _. omega arith)
      by false t =
          let u : 16 < off = leb-false _ _ t in
          let v : c ≡ j + 33 = rw t at e in
          let b = le-ltb c 32 (omega arith) in
          (record { size = omega arith; room = rw (b, bytes) (omega arith); more = rw b (asked_most g s) }, λ q. absurd (omega arith))

pub built_on : (m : Mem) (i s : ℕ) (g : List ℕ) (j off x c : ℕ) (f : Form) → Built m i s g j off → s + 32 ≤ 4096 → s % 32 ≡ 0 → j < 23 → off ≤ 48 → ReadOk m (i + off) f
    → unpacked x ≡ f → c ≡ cond (leb off 16) (j + 1) (j + 33) → Built m i s (set (set g (s + 9 + j) x) (s + 8) c) (j + 1) (off + f.length)
built_on m i s g j off x c f b h z l o r e ec =
    let r' : FormOk m (i + offset g s j) f = rw b.bytes r.0 in
    let k : s < 4096 = omega arith in
    let t = counted g s j off c l o b.short b.bytes ec in
    let n = grown_count g s j x c b.long h l in
    record {
      known = grown_known g s j x c b.long h l m i f b.written b.size t.0 e r' (b.known s z k) z b.known;
      written = grown_written g s j x c b.long h l m i b.written;
      size = rw n t.0.size;
      short = λ q. rw n (t.1 (omega arith));
      bytes = grown_offset g s j x c b.long h l f e ∙ ap (λ (n : ℕ). n + f.length) b.bytes;
      long = grown_long g s j x c b.long h l;
    }

-- the block as it is
pub built_done : {m : Mem} {i s : ℕ} {g : List ℕ} {j off : ℕ} → Built m i s g j off → Keyed m i g s
built_done {m} {i} {s} {g} b = keyed_whole m i g s b.written
