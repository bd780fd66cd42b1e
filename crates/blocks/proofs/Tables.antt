-- The table of blocks, as it changes: a block without forms, one more form in a block, and the other blocks, which stay.
-- Assumes nothing.
use Prim.Native.Nat.{ℕ, zero, suc, ◌+◌, ◌*◌, ◌%◌, ◌<◌, ◌≤◌}
use mathlib.Core.Path.{◌≡◌, refl, sym, ap, ◌∙◌, subst}
use mathlib.Core.Bool.{cond}
use mathlib.Core.Logic.{◌≢◌}
use mathlib.Core.List.{List}
use native.Mathlib.Omega.{arith}
use native.Mathlib.Decide.{ℕ_discrete}
use lib.Dec.{ltb}
use lib.ListN.{length, get_or, set, length-set}
use lib.Seq.{get_or-set_same, get_or-set_other}
use Rattle.machine.specs.Record.{Mem}
use Rattle.forms.specs.declared.Form.{Form}
use Rattle.forms.specs.Forms.{FormOk}
use Rattle.blocks.specs.Blocks.{Digits, digit, unpacked, size_in, asked, form_in, offset, Written, Keyed, BlockOk, Known}
use Rattle.blocks.proofs.Keys.{asked_most, keyed_whole, window, form_there}

-- ---- a block that stays

module _ (g g' : List ℕ) (s : ℕ) where
  -- with the same forms before form j, as many bytes are before it
  pub offset_same : (j : ℕ) → ((k : ℕ) → k < j → get_or g' (s + 9 + k) 0 ≡ get_or g (s + 9 + k) 0) → offset g' s j ≡ offset g s j
  unfolding offset
  offset_same zero w = refl
  offset_same (suc j) w =
      let l : j < suc j = omega arith in
      λ i. offset_same j (λ k h. w k (omega arith)) i + (unpacked (w j l i)).length

  pub written_same : (m : Mem) (i n : ℕ) → ((k : ℕ) → k < n → get_or g' (s + k) 0 ≡ get_or g (s + k) 0) → Written m i g s n → Written m i g' s n
  written_same m i n w key k h l h' = key k h l h' ∙ ap (λ (x : ℕ). digit x l) (sym (w k h))

module _ (g g' : List ℕ) (s : ℕ) (w : (n : ℕ) → n < 32 → get_or g' (s + n) 0 ≡ get_or g (s + n) 0) where
  place_same : (j : ℕ) → j < 23 → get_or g' (s + 9 + j) 0 ≡ get_or g (s + 9 + j) 0
  place_same j h =
      let l : 9 + j < 32 = omega arith in
      let e : s + (9 + j) ≡ s + 9 + j = omega arith in
      sym (ap (λ (n : ℕ). get_or g' n 0) e) ∙ w (9 + j) l ∙ ap (λ (n : ℕ). get_or g n 0) e

  pub block_same : BlockOk g s → BlockOk g' s
  block_same b = record {
    few = rw count b.few;
    room = λ j h. let h' : j < size_in g s = rw count at h in let l : j ≤ 23 = let z = b.few in omega arith in rw (offs j l, count) (b.room j h');
    forms = λ m i k j h.
        let h' : j < size_in g s = rw count at h in
        let l : j < 23 = let z = b.few in omega arith in
        let l' : j ≤ 23 = omega arith in
        let k' : Written m i g' s (asked g s) = rw count at k in
        rw (offs j l', place_same j l) (b.forms m i (written_same g' g s m i (asked g s) (λ n q. sym (w n (inside n q))) k') j h');
  }
    where
      count : get_or g' (s + 8) 0 ≡ get_or g (s + 8) 0
      count = w 8 (omega arith)

      inside : (n : ℕ) → n < asked g s → n < 32
      inside n q = omega (arith, asked_most g s)

      offs : (j : ℕ) → j ≤ 23 → offset g' s j ≡ offset g s j
      offs j h = offset_same g g' s j (λ k l. place_same k (omega arith))

-- ---- a table where one block changes

module _ (g g' : List ℕ) (s : ℕ) where
  -- nothing else does
  abbrev pub Elsewhere : Type 0
  Elsewhere = (p : ℕ) → ((n : ℕ) → n < 32 → p ≢ s + n) → get_or g' p 0 ≡ get_or g p 0

  pub known_but : s % 32 ≡ 0 → Elsewhere → BlockOk g' s → Known g → Known g'
  known_but z w b k s₁ z₁ h = by (ℕ_discrete s₁ s)
    where
      apart : (a b n n' : ℕ) → a % 32 ≡ 0 → b % 32 ≡ 0 → n < 32 → n' < 32 → a + n ≡ b + n' → a ≡ b
      apart a b n n' q q' l l' e = omega arith

      by : Dec (s₁ ≡ s) → BlockOk g' s₁
      by (yes e) = rw e b
      by (no e) = block_same g g' s₁ (λ n l. w (s₁ + n) (λ n' l' q. e (apart s₁ s n n' z₁ z l l' q))) (k s₁ z₁ h)

-- ---- a number stored in the table

long : (g : List ℕ) (p x : ℕ) → length g ≡ 4096 → length (set g p x) ≡ 4096
long g p x n = length-set g p x ∙ n

stored : (g : List ℕ) (p x : ℕ) → length g ≡ 4096 → p < 4096 → get_or (set g p x) p 0 ≡ x
stored g p x n h = get_or-set_same g p x 0 (rw n h)

below : (k j : ℕ) → (k ≡ j → ⊥) → k < j + 1 → k < j
below k j q b = omega arith

-- ---- a block without forms

pub empty_ok : (g : List ℕ) (s : ℕ) → get_or g (s + 8) 0 ≡ 0 → BlockOk g s
empty_ok g s z = record { few = rw z (omega arith); room = λ j l. absurd (nothing_below j (rw z at l)); forms = λ m i k j l. absurd (nothing_below j (rw z at l)) }
  where
    nothing_below : (j : ℕ) → j < 0 → ⊥
    nothing_below j l = omega arith

-- it has the first k numbers of the bytes
pub record Begun (m : Mem) (i s : ℕ) (g : List ℕ) (k : ℕ) : Type 0 where
  pub known : Known g
  pub written : Written m i g s k
  pub none : get_or g (s + 8) 0 ≡ 0
  pub long : length g ≡ 4096

module _ (m : Mem) (i s : ℕ) (g : List ℕ) (h : s + 32 ≤ 4096) (z : s % 32 ≡ 0) where
  -- a number of the block is stored
  store_else : (p x : ℕ) → p < 32 → Elsewhere g (set g (s + p) x) s
  store_else p x l q o = get_or-set_other g (s + p) q x 0 (o p l)

  pub begun_none : length g ≡ 4096 → Known g → Begun m i s (set g (s + 8) 0) 0
  begun_none n k =
      let e = stored g (s + 8) 0 n (omega arith) in
      record {
        known = known_but g (set g (s + 8) 0) s z (store_else 8 0 (omega arith)) (empty_ok (set g (s + 8) 0) s e) k;
        written = λ k l. absurd (omega arith);
        none = e;
        long = long g (s + 8) 0 n;
      }

  pub begun_on : (k w : ℕ) → k < 8 → Begun m i s g k → Digits m (i + 8 * k) w → Begun m i s (set g (s + k) w) (k + 1)
  begun_on k w l b d =
      let a : s + 8 ≢ s + k = λ e. omega arith in
      let e = get_or-set_other g (s + k) (s + 8) w 0 a ∙ b.none in
      record {
        known = known_but g (set g (s + k) w) s z (store_else k w (omega arith)) (empty_ok (set g (s + k) w) s e) b.known;
        written = λ k' l'. by k' (ℕ_discrete k' k) l';
        none = e;
        long = long g (s + k) w b.long;
      }
    where
      by : (k' : ℕ) → Dec (k' ≡ k) → k' < k + 1 → Digits m (i + 8 * k') (get_or (set g (s + k) w) (s + k') 0)
      by k' (yes q) l' = rw (q, stored g (s + k) w b.long (omega arith)) d
      by k' (no q) l' =
          let a : s + k' ≢ s + k = λ e. q (omega arith) in
          rw (get_or-set_other g (s + k) (s + k') w 0 a) (b.written k' (below k' k q l'))

-- ---- one more form

-- what is stored as the count: the number of forms, and it asks for as much as before and for the new form's bytes
pub record Counted (g : List ℕ) (s j c : ℕ) : Type 0 where
  pub size : c % 32 ≡ j + 1
  pub room : offset g s j + 16 ≤ 8 * cond (ltb c 32) 4 8
  pub more : asked g s ≤ cond (ltb c 32) 4 8

module _ (g : List ℕ) (s j x c : ℕ) (n : length g ≡ 4096) (h : s + 32 ≤ 4096) (l : j < 23) where
  abbrev h0 : List ℕ
  h0 = set g (s + 9 + j) x

  abbrev pub grown : List ℕ
  grown = set h0 (s + 8) c

  pub grown_count : get_or grown (s + 8) 0 ≡ c
  grown_count = let b : s + 8 < 4096 = omega arith in stored h0 (s + 8) c (long g (s + 9 + j) x n) b

  pub grown_long : length grown ≡ 4096
  grown_long = long h0 (s + 8) c (long g (s + 9 + j) x n)

  grown_form : get_or grown (s + 9 + j) 0 ≡ x
  grown_form =
      let a : s + 9 + j ≢ s + 8 = λ e. omega arith in
      let b : s + 9 + j < 4096 = omega arith in
      get_or-set_other h0 (s + 8) (s + 9 + j) c 0 a ∙ stored g (s + 9 + j) x n b

  -- the forms before it
  grown_before : (k : ℕ) → k < j → get_or grown (s + 9 + k) 0 ≡ get_or g (s + 9 + k) 0
  grown_before k q =
      let a : s + 9 + k ≢ s + 8 = λ e. omega arith in
      let b : s + 9 + k ≢ s + 9 + j = λ e. omega arith in
      get_or-set_other h0 (s + 8) (s + 9 + k) c 0 a ∙ get_or-set_other g (s + 9 + j) (s + 9 + k) x 0 b

  grown_key : (k : ℕ) → k < 8 → get_or grown (s + k) 0 ≡ get_or g (s + k) 0
  grown_key k q =
      let a : s + k ≢ s + 8 = λ e. omega arith in
      let b : s + k ≢ s + 9 + j = λ e. omega arith in
      get_or-set_other h0 (s + 8) (s + k) c 0 a ∙ get_or-set_other g (s + 9 + j) (s + k) x 0 b

  grown_else : Elsewhere g grown s
  grown_else p o =
      let a : p ≢ s + 8 = let b : 8 < 32 = omega arith in o 8 b in
      let b : p ≢ s + 9 + j = λ e. let c : 9 + j < 32 = omega arith in o (9 + j) c (omega arith) in
      get_or-set_other h0 (s + 8) p c 0 a ∙ get_or-set_other g (s + 9 + j) p x 0 b

  grown_upto : (k : ℕ) → k ≤ j → offset grown s k ≡ offset g s k
  grown_upto k q = offset_same g grown s k (λ a b. grown_before a (omega arith))

  -- the bytes with it
  pub grown_offset : (f : Form) → unpacked x ≡ f → offset grown s (j + 1) ≡ offset g s j + f.length
  unfolding offset
  grown_offset f e =
      let a : j + 1 ≡ suc j = omega arith in
      let b : j ≤ j = omega arith in
      ap (offset grown s) a ∙ (λ i. grown_upto j b i + (unpacked (grown_form i)).length) ∙ ap (λ (q : Form). offset g s j + q.length) e

  pub grown_written : (m : Mem) (i : ℕ) → Written m i g s 8 → Written m i grown s 8
  grown_written m i = written_same g grown s m i 8 grown_key

  module _ (m : Mem) (i : ℕ) (f : Form) (key : Written m i g s 8) (size : size_in g s ≡ j) (counted : Counted g s j c) (e : unpacked x ≡ f)
      (r : FormOk m (i + offset g s j) f) (old : BlockOk g s) where
    -- a form before it, or itself
    room_at : (k : ℕ) → Dec (k ≡ j) → k < j + 1 → offset grown s k + 16 ≤ 8 * asked grown s
    room_at k (yes q) b = let c : j ≤ j = omega arith in rw (q, grown_upto j c, grown_count) counted.room
    room_at k (no q) b =
        let c : k < j = below k j q b in
        let d : k ≤ j = omega arith in
        rw (grown_upto k d, grown_count) (let o = old.room k (rw size c) in omega (arith, o, counted.more))

    form_at : (m' : Mem) (i' : ℕ) → Keyed m' i' grown s → (k : ℕ) → Dec (k ≡ j) → k < j + 1 → FormOk m' (i' + offset grown s k) (form_in grown s k)
    form_at m' i' key' k (yes q) b =
        let c : j ≤ j = omega arith in
        let u : offset g s j + 16 ≤ 8 * asked grown s = rw grown_count counted.room in
        let w = window m m' i i' grown s (asked grown s) (keyed_whole m i grown s (grown_written m i key)) key' (offset g s j) u in
        let t : FormOk m' (i' + offset g s j) f = form_there m m' (i + offset g s j) (i' + offset g s j) f w r in
        rw (q, grown_upto j c) (subst (λ (u : Form). FormOk m' (i' + offset g s j) u) (sym (ap unpacked grown_form ∙ e)) t)
    form_at m' i' key' k (no q) b =
        let c : k < j = below k j q b in
        let d : k ≤ j = omega arith in
        let w : Written m' i' grown s (asked g s) = λ a u. key' a (rw grown_count (omega (arith, u, counted.more))) in
        rw (grown_upto k d, grown_before k c)
        (old.forms m' i' (written_same grown g s m' i' (asked g s) (λ a u. sym (grown_key a (omega (arith, asked_most g s)))) w) k (rw size c))

    grown_size : size_in grown s ≡ j + 1
    grown_size = rw grown_count counted.size

    grown_ok : BlockOk grown s
    grown_ok = record {
      few = omega (arith, grown_size);
      room = λ k b. room_at k (ℕ_discrete k j) (omega (arith, grown_size));
      forms = λ m' i' key' k b. form_at m' i' key' k (ℕ_discrete k j) (omega (arith, grown_size));
    }

    pub grown_known : s % 32 ≡ 0 → Known g → Known grown
    grown_known z k = known_but g grown s z grown_else grown_ok k
