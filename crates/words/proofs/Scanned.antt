-- Laws of a scan: one turn of it, and where it stops.
-- Assumes nothing.
use Prim.Native.Nat.{ℕ, suc, ◌+◌, ◌≤◌, ◌<◌}
use native.Mathlib.Omega.{arith}
use native.Mathlib.Numerals.{add-one}
use mathlib.Core.Path.{◌≡◌, refl}
use mathlib.Core.Bool.{Bool, true, false}
use mathlib.Core.List.{List, [], ◌∷◌}
use borrow.Author.Tests.{eq-eqb, ne_eqb}
use lib.Dec.{eqb}
use lib.ListN.{length, drop, get_or, drop_of_length-le, length-drop}
use lib.Seq.{drop-cons}
use Rattle.std.specs.Prelude.{if◌then◌else◌}
use Rattle.std.specs.Bool.{then_some}
use Rattle.meaning.specs.Words.{scan_step, scan_to, stopped}
use Rattle.words.specs.Spans.{unless_stopped}

-- a byte that a test lets through leads to st, and any other stops the scan
pub going : (b : Bool) (st : ℕ) → eqb st stopped ≡ false → then_some b st ≡ unless_stopped (if b then st else stopped)
going true st e = rw e
going false st e = refl

-- ---- one turn, at the place p of the text s
module _ (st p : ℕ) (s : List ℕ) where
  pub scan-ends : length s ≤ p → scan_to st p (drop p s) ≡ p
  unfolding scan_to
  scan-ends h = rw (drop_of_length-le s h)

  pub scan-stops : p < length s → scan_step st (get_or s p 0) ≡ stopped → scan_to st p (drop p s) ≡ p
  unfolding scan_to
  scan-stops h e = rw (drop-cons s p 0 h, eq-eqb _ _ e, scan_to)

  pub scan-goes : p < length s → (st' : ℕ) → st' ≡ scan_step st (get_or s p 0) → (scan_step st (get_or s p 0) ≡ stopped → ⊥)
      → scan_to st p (drop p s) ≡ scan_to st' (p + 1) (drop (p + 1) s)
  unfolding scan_to
  scan-goes h st' e n = rw (drop-cons s p 0 h, ne_eqb _ _ n, scan_to) (cc (add-one p))

-- ---- where it stops
pub scan-from : (st p : ℕ) (s : List ℕ) → (p ≤ scan_to st p s) × (scan_to st p s ≤ p + length s)
unfolding scan_to
scan-from st p [] = omega arith
scan-from st p (b ∷ s) = go (eqb (scan_step st b) stopped) (scan-from (scan_step st b) (p + 1) s)
  where
    go : (t : Bool) → (p + 1 ≤ scan_to (scan_step st b) (p + 1) s) × (scan_to (scan_step st b) (p + 1) s ≤ p + 1 + length s)
        → (p ≤ elim t as (λ _. ℕ) [ true ↦ p | false ↦ scan_to (scan_step st b) (p + 1) s ])
        × (elim t as (λ _. ℕ) [ true ↦ p | false ↦ scan_to (scan_step st b) (p + 1) s ] ≤ p + suc (length s))
    go true h = omega arith
    go false h = omega arith

-- inside the text, where it began inside
pub scan-inside : (st p : ℕ) (s : List ℕ) → p ≤ length s → scan_to st p (drop p s) ≤ length s
scan-inside st p s h = omega (arith, scan-from st p (drop p s), length-drop p s)
