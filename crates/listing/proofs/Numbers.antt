-- Lists made from the numbers a, a + 1, .., a + k - 1.
--
--   each_same    two functions that agree on the numbers give one list
--   each_last    one number more
-- Assumes nothing.
use Prim.Native.Nat.{ℕ, zero, suc, ◌+◌, ◌<◌}
use native.Mathlib.Omega.{arith}
use native.Mathlib.Nat.{add-zero}
use mathlib.Core.Path.{◌≡◌, refl, ◌∙◌, ap, ap₂}
use mathlib.Core.List.{[], ◌∷◌, ◌++◌}
use Rattle.meaning.specs.Plain.{each, numbers}

module _ {A : Type 0} where
  pub each_same : (f g : ℕ → A) (a k : ℕ) → ((i : ℕ) → i < a + k → f i ≡ g i) → each f (numbers a k) ≡ each g (numbers a k)
  each_same f g a zero e = refl
  each_same f g a (suc k) e = ap₂ (λ x xs. x ∷ xs) (e a (omega arith)) (each_same f g (a + 1) k (λ i h. e i (omega arith)))

  pub each_last : (f : ℕ → A) (a k : ℕ) → each f (numbers a (suc k)) ≡ each f (numbers a k) ++ (f (a + k) ∷ [])
  each_last f a zero = rw add-zero
  each_last f a (suc k) =
      let sum : a + 1 + k ≡ a + suc k = omega arith in
      ap (λ xs. f a ∷ xs) (each_last f (a + 1) k ∙ ap (λ i. each f (numbers (a + 1) k) ++ (f i ∷ [])) sum)
