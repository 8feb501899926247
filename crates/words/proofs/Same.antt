-- Laws of the comparison of two rows of bytes: byte by byte, and what its outcome says of the rows.
-- Assumes nothing.
use Prim.Native.Nat.{ℕ, suc, ◌+◌, ◌≤◌, ◌<◌}
use native.Mathlib.Omega.{arith}
use native.Mathlib.Numerals.{add-one}
use mathlib.Core.Path.{◌≡◌, refl, ap}
use mathlib.Core.Bool.{Bool, true, false}
use mathlib.Core.List.{List, [], ◌∷◌}
use borrow.Author.Tests.{eq-eqb, ne_eqb, eqb-true}
use lib.Dec.{eqb}
use lib.ListN.{length, drop, get_or, drop_of_length-le}
use lib.Seq.{drop-cons}
use Rattle.std.specs.Prelude.{if◌then◌else◌}
use Rattle.meaning.specs.Plain.{same_bytes}

unlike : {A : Type 0} → false ≡ true → A
unlike e = let z : ◌≡◌ {A = ℕ} 0 1 = cc in let b : ⊥ = omega arith in absurd b

pub same-is : (x y : List ℕ) → same_bytes x y ≡ true → x ≡ y
same-is [] [] e = refl
same-is [] (b ∷ y) e = unlike e
same-is (a ∷ x) [] e = unlike e
same-is (a ∷ x) (b ∷ y) e = go (eqb a b) refl e (same-is x y)
  where
    go : (t : Bool) → eqb a b ≡ t → (if t then same_bytes x y else false) ≡ true → (same_bytes x y ≡ true → x ≡ y) → a ∷ x ≡ b ∷ y
    go true q e f = cc (eqb-true a b q, f e)
    go false q e f = unlike e

pub same_length : (x y : List ℕ) → (length x ≡ length y → ⊥) → same_bytes x y ≡ false
same_length [] [] n = absurd (n refl)
same_length [] (b ∷ y) n = refl
same_length (a ∷ x) [] n = refl
same_length (a ∷ x) (b ∷ y) n = go (eqb a b) (same_length x y (λ e. n (ap suc e)))
  where
    go : (t : Bool) → same_bytes x y ≡ false → (if t then same_bytes x y else false) ≡ false
    go true e = e
    go false e = refl

-- ---- a turn of a loop over both, at j
module _ (x y : List ℕ) (j d : ℕ) where
  pub same-done : length x ≤ j → length y ≤ j → same_bytes (drop j x) (drop j y) ≡ true
  same-done h l = rw (drop_of_length-le x h, drop_of_length-le y l)

  module _ (h : j < length x) (l : j < length y) where
    pub same-stops : (get_or x j d ≡ get_or y j 0 → ⊥) → same_bytes (drop j x) (drop j y) ≡ false
    same-stops n = rw (drop-cons x j d h, drop-cons y j 0 l, ne_eqb _ _ n)

    pub same-goes : get_or x j d ≡ get_or y j 0 → same_bytes (drop j x) (drop j y) ≡ same_bytes (drop (j + 1) x) (drop (j + 1) y)
    same-goes e = rw (drop-cons x j d h, drop-cons y j 0 l, eq-eqb _ _ e, add-one)
