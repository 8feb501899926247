-- The first row with a name. `first-bytes` and `first-least` say all of it: it has the name, and no row before it has. So rows with one
-- name have one first row, and that is its own first.
-- Assumes nothing.
use Prim.Native.Nat.{ℕ, zero, suc, ◌+◌, ◌≤◌, ◌<◌}
use native.Mathlib.Omega.{arith}
use mathlib.Core.Path.{◌≡◌, sym, ap, ◌∙◌}
use mathlib.Core.Bool.{Bool, true, false, false≢true}
use mathlib.Core.List.{List}
use borrow.Author.Tests.{eqb-true, eqb-false, ltb-true, ltb-false}
use lib.Dec.{eqb, ltb}
use Rattle.meaning.specs.Plain.{index_from, numbers}
use Rattle.meaning.proofs.Lists.{bool_cases, same_bytes_lem}
use Rattle.names.specs.Names.{bytes_at, reads_as, first_as}
use Rattle.names.proofs.Bytes.{same-holds}

pub below-cases : {P : Type 0} (i n : ℕ) → (i < n → P) → (n ≤ i → P) → P
below-cases i n f g = bool_cases (ltb i n) (λ t. f (ltb-true i n t)) (λ t. g (ltb-false i n t))

pub same_cases : {P : Type 0} (i j : ℕ) → (i ≡ j → P) → ((i ≡ j → ⊥) → P) → P
same_cases i j f g = bool_cases (eqb i j) (λ t. f (eqb-true i j t)) (λ t. g (eqb-false i j t))

-- the first of the n numbers from i on of which p holds
index_is : (p : ℕ → Bool) (i n : ℕ)
    → let r = index_from p i (numbers i n) in
    (i ≤ r) × (r ≤ i + n) × (r < i + n → p r ≡ true) × ((k : ℕ) → i ≤ k → k < r → p k ≡ false)
index_is p i zero = (omega arith, omega arith, λ h. absurd (omega arith), λ k l h. absurd (omega arith))
index_is p i (suc n) = bool_cases (p i)
    (λ e. rw e (omega arith, omega arith, λ h. e, λ k l h. absurd (omega arith)))
    (λ e. let r = index_is p (i + 1) n in
    rw e (
      omega arith,
      omega arith,
      λ h. r.2 (omega arith),
      λ k l h. same_cases k i (λ q. ap p q ∙ e) (λ d. r.3 k (omega arith) h),
    ))

module _ (s items : List ℕ) where
  pub first-bytes : (i : ℕ) → bytes_at s items (first_as s items i) ≡ bytes_at s items i
  unfolding first_as reads_as
  first-bytes i =
      let r = index_is (reads_as s items i) 0 i in
      same_cases (first_as s items i) i (λ q. ap (bytes_at s items) q)
      (λ d. same_bytes_lem (bytes_at s items (first_as s items i)) (bytes_at s items i) (r.2 (omega arith)))

  pub first-least : (i k : ℕ) → bytes_at s items k ≡ bytes_at s items i → first_as s items i ≤ k
  unfolding first_as reads_as
  first-least i k e =
      let r = index_is (reads_as s items i) 0 i in
      below-cases k (first_as s items i)
      (λ h. absurd (false≢true (sym (r.3 k (omega arith) h) ∙ same-holds (bytes_at s items k) (bytes_at s items i) e)))
      (λ h. h)

  pub first-same : (i j : ℕ) → bytes_at s items i ≡ bytes_at s items j → first_as s items i ≡ first_as s items j
  first-same i j e =
      omega (arith, first-least i (first_as s items j) (first-bytes j ∙ sym e), first-least j (first_as s items i) (first-bytes i ∙ e))

  pub first-first : (i : ℕ) → first_as s items (first_as s items i) ≡ first_as s items i
  first-first i = first-same (first_as s items i) i (first-bytes i)
