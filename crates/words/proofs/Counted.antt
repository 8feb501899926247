-- Laws over the numbers 0, 1, .., n - 1: a table that is made from them holds at each place what it was made of, and a test that
-- antt computes at all of them passes at each.
-- Assumes nothing.
use Prim.Native.Nat.{ℕ, zero, suc, ◌+◌, ◌<◌}
use native.Mathlib.Omega.{arith}
use native.Mathlib.Nat.{add-zero, zero-add}
use mathlib.Core.Path.{◌≡◌, ◌∙◌, ap}
use mathlib.Core.Bool.{Bool, true, false}
use lib.Dec.{T}
use lib.ListN.{get_or}
use Rattle.std.specs.Prelude.{if◌then◌else◌}
use Rattle.meaning.specs.Plain.{each, every, numbers, up_to}

each_from : (f : ℕ → ℕ) (i n k : ℕ) → k < n → get_or (each f (numbers i n)) k 0 ≡ f (i + k)
each_from f i zero k h = let b : ⊥ = omega arith in absurd b
each_from f i (suc n) zero h = rw add-zero
each_from f i (suc n) (suc k) h =
    let sum : i + 1 + k ≡ i + suc k = omega arith in
    each_from f (i + 1) n k (omega arith) ∙ ap f sum

pub each_at : (f : ℕ → ℕ) (n k : ℕ) → k < n → get_or (each f (up_to n)) k 0 ≡ f k
each_at f n k h = each_from f 0 n k h ∙ ap f (zero-add k)

split : (a b : Bool) → T (if a then b else false) → T a × T b
split true b t = (tt, t)
split false b t = absurd t

every-from : (p : ℕ → Bool) (i n k : ℕ) → T (every p (numbers i n)) → k < n → T (p (i + k))
every-from p i zero k t h = let b : ⊥ = omega arith in absurd b
every-from p i (suc n) zero t h = rw add-zero (split (p i) _ t).0
every-from p i (suc n) (suc k) t h =
    let sum : i + 1 + k ≡ i + suc k = omega arith in
    rw sum at (every-from p (i + 1) n k (split (p i) _ t).1 (omega arith))

pub every-at : (p : ℕ → Bool) (n : ℕ) → T (every p (up_to n)) → (k : ℕ) → k < n → T (p k)
every-at p n t k h = rw zero-add at (every-from p 0 n k t h)
