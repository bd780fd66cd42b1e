-- One byte more is copied. Assumes nothing.
use Rattle.std.proofs.Common.{ℕ, suc, ◌+◌, ◌≡◌, refl, ap, ◌∙◌, List, arith, get_or, set}
use Rattle.cells.specs.Cells.{copied}

pub copied_none : (f : List ℕ) (a : ℕ) (b : List ℕ) (i : ℕ) → b ≡ copied f a b i 0
unfolding copied
copied_none f a b i = refl

module _ (f : List ℕ) (a : ℕ) (b : List ℕ) (i n : ℕ) where
  next : set (copied f a b i n) (i + n) (get_or f (a + n) 0) ≡ copied f a b i (suc n)
  unfolding copied
  next = refl

  pub copied_on : {t t' : List ℕ} {x : ℕ} → t ≡ copied f a b i n → x ≡ get_or f (a + n) 0 → t' ≡ set t (i + n) x → t' ≡ copied f a b i (n + 1)
  copied_on et ex e =
      let s : suc n ≡ n + 1 = omega arith in
      e ∙ (λ j. set (et j) (i + n) (ex j)) ∙ next ∙ ap (copied f a b i) s
