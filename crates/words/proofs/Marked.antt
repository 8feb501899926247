-- The mark at a place of a text: of two bytes, or of one where these make none or the text ends.
-- Assumes nothing.
use Prim.Native.Nat.{ℕ, ◌+◌, ◌≤◌, ◌<◌}
use mathlib.Core.Path.{◌≡◌, refl, sym}
use mathlib.Core.Bool.{Bool, true, false}
use mathlib.Core.List.{List, [], ◌∷◌}
use mathlib.Core.Logic.{◌⊎◌, inl, inr}
use borrow.Author.Tests.{eq-eqb, ne_eqb, eqb-true, ltb-true, ltb-false}
use lib.Dec.{eqb, ltb}
use lib.ListN.{length, drop, get_or, drop_of_length-le}
use lib.Seq.{drop-cons}
use Rattle.std.specs.Prelude.{Option, Some, None, if◌then◌else◌}
use Rattle.std.specs.Option.{unwrap_or}
use Rattle.meaning.specs.Keywords.{mark_of, k_bad}
use Rattle.meaning.specs.Words.{mark_here}
use Rattle.meaning.proofs.Lists.{bool_cases}
use Rattle.kinds.specs.Kinds.{unless_none}
use Rattle.kinds.proofs.Unless.{unless-none, unless-some}
use Rattle.words.specs.Spans.{span_of}

pub if_same : {A : Type 0} (t : Bool) (x : A) → (if t then x else x) ≡ x
if_same true x = refl
if_same false x = refl

-- a byte that makes no mark is bad
one : (k : ℕ) → unwrap_or (unless_none k) k_bad ≡ k
one k = by (eqb k k_bad) refl
  where
    by : (t : Bool) → eqb k k_bad ≡ t → unwrap_or (if t then None else Some k) k_bad ≡ k
    by true e = sym (eqb-true k k_bad e)
    by false e = refl

-- ---- at the place p of the text s
module _ (s : List ℕ) (p : ℕ) where
  abbrev pair : ℕ
  pair = mark_of (get_or s p 0 ∷ get_or s (p + 1) 0 ∷ [])

  abbrev two : Option ℕ
  two = unless_none pair

  pub mark-pair : (k : ℕ) → p + 1 < length s → Some k ≡ two
      → record { kind = k; start = p; end = p + 2 } ≡ span_of (mark_here p (get_or s p 0) (drop (p + 1) s))
  unfolding mark_here span_of
  mark-pair k h e =
      let o = unless-some k_bad _ k e in
      rw (drop-cons s (p + 1) 0 h, ne_eqb _ _ o.1, o.0)

  abbrev Single : Type 0
  Single =
      record { kind = unwrap_or (unless_none (mark_of (get_or s p 0 ∷ []))) k_bad; start = p; end = p + 1 }
      ≡ span_of (mark_here p (get_or s p 0) (drop (p + 1) s))

  mark-last : length s ≤ p + 1 → Single
  unfolding mark_here span_of
  mark-last h = rw (drop_of_length-le s h, if_same, one)

  mark-alone : p + 1 < length s → None ≡ two → Single
  unfolding mark_here span_of
  mark-alone h e = rw (one, drop-cons s (p + 1) 0 h, eq-eqb pair k_bad (unless-none k_bad pair e))

  pub mark-single : (length s ≤ p + 1) ⊎ (None ≡ two) → Single
  mark-single (inl h) = mark-last h
  mark-single (inr e) =
      bool_cases (ltb (p + 1) (length s)) (λ t. mark-alone (ltb-true (p + 1) (length s) t) e)
      (λ t. mark-last (ltb-false (p + 1) (length s) t))
