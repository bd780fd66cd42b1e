-- The forms of a block one after another are quick steps one after another.
-- Assumes nothing.
use Prim.Native.Nat.{ℕ, suc, ◌+◌, ◌*◌, ◌/◌, ◌%◌, ◌<◌, ◌≤◌}
use mathlib.Core.Path.{◌≡◌, refl, ap, ◌∙◌}
use mathlib.Core.Bool.{true, false, true≢false}
use mathlib.Core.List.{List}
use native.Mathlib.Omega.{arith}
use lib.ListN.{length, get_or}
use Rattle.machine.specs.declared.Control.{Control}
use Rattle.machine.specs.Record.{Mem, wrap}
use Rattle.keptpages.specs.declared.Kept.{Kept}
use Rattle.keptpages.specs.Quiet.{Agree}
use Rattle.forms.specs.declared.Form.{Form}
use Rattle.forms.specs.Forms.{Small}
use Rattle.blocks.specs.Blocks.{unpacked, size_in, form_in, offset, Keyed, BlockOk}
use Rattle.blocks.proofs.Keys.{asked_most}
use Rattle.hops.specs.declared.Ending.{Ending}
use Rattle.hops.specs.declared.Ending.TheVariants as ends
use Rattle.hops.specs.declared.Rest.{Rest}
use Rattle.hops.specs.declared.Swift.{Swift}
use Rattle.hops.specs.Hops.{moves, keeps, PagesOk, RushOk}
use Rattle.hops.proofs.Rushing.{rush_begun, rush_on, rush_ended}
use Rattle.strides.specs.Strides.{Stands, Here, EndedOk}
use Rattle.sprints.specs.Sprints.{Before, TracedOk}

-- a form of the table has room in it
unpacked_small : (k : ℕ) → (unpacked k).number < 4294967296 → Small (unpacked k)
unpacked_small k h = record { kind = omega arith; length = omega arith; a = omega arith; b = omega arith; number = h }

-- what is not done leaves the pages that are kept
stuck_keeps : (a : Ending) → moves a ≡ false → keeps a ≡ true
stuck_keeps ends.Follows h = refl
stuck_keeps ends.Stuck h = refl
stuck_keeps ends.Done h = refl
stuck_keeps ends.Remapped h = absurd (true≢false h)

-- where j forms are done
pub record Along (m₀ : Mem) (e₀ : List ℕ) (c : Control) (r₀ : Rest) (h : Kept) (d g : List ℕ) (s : ℕ) (m : Mem) (e : List ℕ) (j : ℕ) (r : Rest) : Type 0 where
  pub rushed : RushOk m₀ e₀ c r₀ j m e r
  pub same : length m ≡ length m₀
  pub pages : PagesOk m c h d
  pub eip : r.eip ≡ r₀.eip + offset g s j
  pub keyed : Keyed m (h.base + r₀.eip % 4096) g s

-- the bytes of the block lie in the code page's frame
keyed_on : (m m' : Mem) (i b : ℕ) (g : List ℕ) (s : ℕ) → b % 4096 ≡ 0 → b ≤ i → i ≤ b + 4032 → Agree m m' (b / 4096) → Keyed m i g s → Keyed m' i g s
keyed_on m m' i b g s even low high same k n small l few =
    let most = asked_most g s in
    let inside : (i + 8 * n + l) / 4096 ≡ b / 4096 = omega arith in
    same (i + 8 * n + l) inside ∙ k n small l few

module _ (m₀ : Mem) (e₀ : List ℕ) (c : Control) (r₀ : Rest) (h : Kept) (d g : List ℕ) (s : ℕ) (at_first : Before m₀ c h d g r₀ s) (block : BlockOk g s) where
  pub begun : Along m₀ e₀ c r₀ h d g s m₀ e₀ 0 r₀
  unfolding offset
  begun = record { rushed = rush_begun m₀ e₀ c r₀; same = refl; pages = at_first.stands.pages; eip = omega arith; keyed = at_first.keyed }

  -- form j begins among the block's bytes
  near : (j : ℕ) → j < size_in g s → offset g s j ≤ 48
  near j l = omega (arith, asked_most g s, block.room j l)

  module _ (m : Mem) (e : List ℕ) (j : ℕ) (r : Rest) (along : Along m₀ e₀ c r₀ h d g s m e j r) where
    -- the run stands at form j
    pub stands : j < size_in g s → Stands m c h d r
    stands l =
        let o = near j l in
        let w = at_first.wide in
        let p = at_first.stands.page in
        let u = at_first.stands.small in
        let e = along.eip in
        record {
          size = ap (λ (n : ℕ). n % 4096) along.same ∙ at_first.stands.size;
          pages = along.pages;
          page = page_on _ _ _ _ o w p e;
          room = room_on _ _ _ o w e;
          small = small_on _ _ _ o w u e;
        }
      where
        page_on : (x y o p : ℕ) → o ≤ 48 → x % 4096 ≤ 4032 → x / 4096 ≡ p → y ≡ x + o → y / 4096 ≡ p
        page_on x y o p a b z q = let t : y / 4096 ≡ x / 4096 = omega arith in t ∙ z

        room_on : (x y o : ℕ) → o ≤ 48 → x % 4096 ≤ 4032 → y ≡ x + o → y % 4096 ≤ 4080
        room_on x y o a b q = omega arith

        small_on : (x y o : ℕ) → o ≤ 48 → x % 4096 ≤ 4032 → x < 4294967296 → y ≡ x + o → y < 4294967296
        small_on x y o a b z q = omega arith

    pub here : (f : Form) → f ≡ form_in g s j → f.number < 4294967296 → j < size_in g s → Here m h r f
    here f ef small l =
        let p : h.base + r₀.eip % 4096 + offset g s j ≡ h.base + r.eip % 4096 = place _ _ _ _ (near j l) at_first.wide along.eip in
        (rw (← p, ef) (block.forms m (h.base + r₀.eip % 4096) along.keyed j l), rw ef (unpacked_small (get_or g (s + 9 + j) 0) (rw ef at small)))
      where
        place : (b x y o : ℕ) → o ≤ 48 → x % 4096 ≤ 4032 → y ≡ x + o → b + x % 4096 + o ≡ b + y % 4096
        place b x y o l w q = omega arith

    module _ (f : Form) (m' : Mem) (e' : List ℕ) (w : Swift) (ended : EndedOk m e c r h d f m' e' w) (same_size : length m' ≡ length m) where
      -- done, and the next form follows
      pub follows : f ≡ form_in g s j → j < size_in g s → w.ending ≡ ends.Follows → Along m₀ e₀ c r₀ h d g s m' e' (j + 1) w.rest
      unfolding offset
      follows ef l z =
          let n = ended.follows z in
          let q : f.length ≡ (form_in g s j).length = ap (λ (x : Form). x.length) ef in
          let v = at_first.stands.small in
          record {
            rushed = rush_on m₀ e₀ c r₀ j m e r along.rushed h m' e' d w ended.swift (rw z);
            same = same_size ∙ along.same;
            pages = ended.swift.kept (rw z);
            eip = n.0 ∙ on _ _ _ f.length _ (near j l) at_first.wide v along.eip q (short f.length (form_in g s j).length q refl) ∙ more;
            keyed = keyed_on m m' _ h.base g s at_first.even (omega arith) (omega (arith, at_first.wide)) n.1.1 along.keyed;
          }
        where
          more : r₀.eip + (offset g s j + (form_in g s j).length) ≡ r₀.eip + offset g s (j + 1)
          more = let z : suc j ≡ j + 1 = omega arith in ap (λ (n : ℕ). r₀.eip + offset g s n) z

          short : (x y : ℕ) → x ≡ y → y ≡ get_or g (s + 9 + j) 0 / 256 % 16 → x < 16
          short x y a b = omega arith

          on : (x y o a b : ℕ) → o ≤ 48 → x % 4096 ≤ 4032 → x < 4294967296 → y ≡ x + o → a ≡ b → a < 16 → wrap (y + a) ≡ x + (o + b)
          on x y o a b l w v q u t = omega arith

      -- not done
      pub stopped : moves w.ending ≡ false → TracedOk m₀ e₀ c r₀ h d m' e' (record { count = j; ending = ends.Stuck; rest = w.rest })
      stopped z = record {
        rushed = rush_ended m₀ e₀ c r₀ j m e r along.rushed h m' e' d w ended.swift z;
        size = same_size ∙ along.same;
        kept = λ _. ended.swift.kept (stuck_keeps w.ending z);
      }

      -- done, and no form follows
      pub left : moves w.ending ≡ true → TracedOk m₀ e₀ c r₀ h d m' e' (record { count = j + 1; ending = w.ending; rest = w.rest })
      left z = record {
        rushed = rush_on m₀ e₀ c r₀ j m e r along.rushed h m' e' d w ended.swift z;
        size = same_size ∙ along.same;
        kept = ended.swift.kept;
      }

    pub through : TracedOk m₀ e₀ c r₀ h d m e (record { count = j; ending = ends.Follows; rest = r })
    through = record { rushed = along.rushed; size = along.same; kept = λ _. along.pages }
