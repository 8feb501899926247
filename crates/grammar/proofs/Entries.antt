-- A test that antt computes over a list, one element after the other, says what it says of each: `at`.
-- Assumes nothing.
use mathlib.Core.Path.{◌≡◌}
use mathlib.Core.Bool.{Bool, true, ◌&&◌}
use mathlib.Core.List.{List, [], ◌∷◌}
use Prim.Native.Nat.{ℕ, zero, suc, ◌+◌, ◌<◌}
use native.Mathlib.Nat.{add-zero, zero-add, add-suc, suc-add, le_of_suc-le-suc, not-suc-le-zero}
use lib.ListN.{length, get_or}
use Rattle.meaning.proofs.Lists.{and_both}

-- the test f passes at each element of the list and its place, counted from i
abbrev pub passes : {A : Type 0} → (ℕ → A → Bool) → ℕ → List A → Bool
passes f i [] = true
passes f i (x ∷ xs) = f i x && passes f (suc i) xs

module _ {A : Type 0} (f : ℕ → A → Bool) (z : A) where
  from : (xs : List A) (i : ℕ) → passes f i xs ≡ true → (k : ℕ) → k < length xs → f (i + k) (get_or xs k z) ≡ true
  from [] i t k h = absurd (not-suc-le-zero h)
  from (x ∷ xs) i t zero h = rw (add-zero i) (and_both (f i x) (passes f (suc i) xs) t).0
  from (x ∷ xs) i t (suc k) h =
      rw (add-suc i k, ← suc-add i k) (from xs (suc i) (and_both (f i x) (passes f (suc i) xs) t).1 k (le_of_suc-le-suc h))

  pub at : (xs : List A) → passes f 0 xs ≡ true → (k : ℕ) → k < length xs → f k (get_or xs k z) ≡ true
  at xs t k h = rw zero-add at (from xs 0 t k h)
