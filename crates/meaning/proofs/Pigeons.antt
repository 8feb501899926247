-- No more than n different numbers lie below n.
--   pigeons    n + 1 places that hold numbers below n do not hold different ones
-- By induction on n: where the greatest number stands the number of the last place is put, and the last place is left out.
-- Assumes nothing.
use Prim.Native.Nat.{ℕ, zero, suc, ◌≤◌, ◌<◌}
use native.Mathlib.Omega.{arith}
use mathlib.Core.Path.{◌≡◌, refl, sym, ◌∙◌}
use mathlib.Core.Bool.{Bool, true, false}
use lib.Dec.{eqb}
use borrow.Author.Tests.{eqb-true, eqb-false}
use Rattle.std.specs.Prelude.{if◌then◌else◌}

-- what place i holds then
moved : ℕ → (ℕ → ℕ) → ℕ → ℕ
moved n g i = if eqb (g i) n then g (suc n) else g i

module _ (n : ℕ) (g : ℕ → ℕ) (small : (i : ℕ) → i ≤ suc n → g i < suc n) (differ : (i j : ℕ) → i ≤ suc n → j ≤ suc n → g i ≡ g j → i ≡ j) where
  not_last : (i : ℕ) → i ≤ n → g i ≡ g (suc n) → ⊥
  not_last i l e = let q : i ≡ suc n = differ i (suc n) (omega arith) (omega arith) e in omega arith

  moved-small : (i : ℕ) → i ≤ n → moved n g i < n
  unfolding moved
  moved-small i l = go (eqb (g i) n) refl
    where
      go : (t : Bool) → eqb (g i) n ≡ t → (if t then g (suc n) else g i) < n
      go true e =
          let a : g i ≡ n = eqb-true (g i) n e in
          let b : g (suc n) < suc n = small (suc n) (omega arith) in
          let d : g i ≡ g (suc n) → ⊥ = not_last i l in
          omega arith
      go false e =
          let a : g i < suc n = small i (omega arith) in
          let d : g i ≡ n → ⊥ = eqb-false (g i) n e in
          omega arith

  moved-differ : (i j : ℕ) → i ≤ n → j ≤ n → moved n g i ≡ moved n g j → i ≡ j
  unfolding moved
  moved-differ i j l k = go (eqb (g i) n) (eqb (g j) n) refl refl
    where
      same : g i ≡ g j → i ≡ j
      same = differ i j (omega arith) (omega arith)

      go : (t u : Bool) → eqb (g i) n ≡ t → eqb (g j) n ≡ u → (if t then g (suc n) else g i) ≡ (if u then g (suc n) else g j) → i ≡ j
      go true true a b e = same (eqb-true (g i) n a ∙ sym (eqb-true (g j) n b))
      go true false a b e = absurd (not_last j k (sym e))
      go false true a b e = absurd (not_last i l e)
      go false false a b e = same e

-- Of n + 1 places that hold numbers below n, some two hold the same.
pub pigeons : (n : ℕ) (g : ℕ → ℕ) → ((i : ℕ) → i ≤ n → g i < n) → ((i j : ℕ) → i ≤ n → j ≤ n → g i ≡ g j → i ≡ j) → ⊥
pigeons zero g small differ = let b : g 0 < 0 = small 0 (omega arith) in omega arith
pigeons (suc n) g small differ = pigeons n (moved n g) (moved-small n g small differ) (moved-differ n g small differ)
