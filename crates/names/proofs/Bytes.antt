-- Laws on words. The same bytes read the same, and others do not (same-fails); so do words whose fronts agree as far as both go
-- (fronts-more, fronts-all). The slot of a word is a fold over its bytes, and stays below `slots`.
-- Assumes nothing.
use Prim.Native.Nat.{ℕ, ◌+◌, ◌*◌, ◌%◌, ◌<◌, ◌≤◌}
use native.Mathlib.Omega.{arith}
use native.Mathlib.Numerals.{add-one}
use mathlib.Core.Path.{◌≡◌, refl, sym, ◌∙◌}
use mathlib.Core.Bool.{true, false}
use mathlib.Core.List.{List, [], ◌∷◌}
use lib.ListN.{length, take, get_or}
use lib.Seq.{take-suc, take_all}
use Rattle.std.specs.List.{fold}
use Rattle.meaning.specs.Plain.{same_bytes}
use Rattle.meaning.proofs.Lists.{bool_cases, same_bytes_lem, bytes_same, bytes_eq-same}
use Rattle.names.specs.Chains.{slots, factor, slot_from}

-- ---- two words
pub same-fails : (x y : List ℕ) → (x ≡ y → ⊥) → same_bytes x y ≡ false
same-fails x y n = bool_cases (same_bytes x y) (λ t. absurd (n (same_bytes_lem x y t))) (λ t. t)

pub same-holds : (x y : List ℕ) → x ≡ y → same_bytes x y ≡ true
same-holds x y e = rw e (bytes_same y)

module _ (x y : List ℕ) (k : ℕ) (e : take k x ≡ take k y) where
  pub fronts-more : k < length x → k < length y → get_or x k 0 ≡ get_or y k 0 → take (k + 1) x ≡ take (k + 1) y
  fronts-more h l q = rw (add-one, take-suc x k 0 h, take-suc y k 0 l, e, q)

  pub fronts-all : length x ≤ k → length y ≤ k → same_bytes x y ≡ true
  fronts-all h l = same-holds x y (sym (take_all k x h) ∙ e ∙ take_all k y l)

-- ---- the slot of a word is the fold that the code works out
pub fold-slot_from : (h : ℕ) (xs : List ℕ) → fold (λ n b. (n * factor + b) % slots) h xs ≡ slot_from h xs
unfolding slot_from
fold-slot_from h [] = refl
fold-slot_from h (x ∷ xs) = fold-slot_from ((h * factor + x) % slots) xs

pub slot_from-lt : (h : ℕ) (xs : List ℕ) → h < slots → slot_from h xs < slots
unfolding slot_from
slot_from-lt h [] l = l
slot_from-lt h (x ∷ xs) l = slot_from-lt ((h * factor + x) % slots) xs (omega arith)

pub ruleset slices = (bytes_eq-same)
