-- What the numbers of the rows say, for those who compare them: `ids` begins with the numbers of the first n rows.
--   first-front    the first n are these numbers
--   first-at       row i has the number of the first row with its name
--   first-le       which is at most i
--   first-own      and that row has its own number
--   same_number    two rows have one number where their names read the same, and only there
-- And a list of n numbers that are each right is the list of them (same-firsts).
-- Assumes nothing.
use Prim.Native.Nat.{ℕ, zero, suc, ◌+◌, ◌≤◌, ◌<◌}
use native.Mathlib.Nat.{zero-add, add-zero}
use native.Mathlib.Omega.{arith}
use mathlib.Core.Path.{◌≡◌, refl, sym, ap, ap₂, ◌∙◌}
use mathlib.Core.List.{List, ◌++◌}
use borrow.Author.Tests.{eqb-true, eq-eqb}
use lib.Dec.{eqb}
use lib.ListN.{length, take, get_or, get_or-append}
use lib.Seq.{take_at}
use Rattle.std.proofs.lemmas.Grind.{same_number_lists}
use Rattle.meaning.specs.Plain.{numbers, up_to, same_bytes}
use Rattle.meaning.proofs.Lists.{same_test, same_bytes_lem, length-each, get_or-each}
use Rattle.names.specs.Names.{bytes_at, first_as, firsts}
use Rattle.names.proofs.Bytes.{same-holds}
use Rattle.names.proofs.First.{first-bytes, first-least, first-same, first-first}

length-numbers : (i n : ℕ) → length (numbers i n) ≡ n
length-numbers i zero = refl
length-numbers i (suc n) = ap suc (length-numbers (i + 1) n)

get_or-numbers : (i n k : ℕ) → k < n → get_or (numbers i n) k 0 ≡ i + k
get_or-numbers i zero k h = absurd (omega arith)
get_or-numbers i (suc n) zero h = sym (add-zero i)
get_or-numbers i (suc n) (suc k) h = omega (arith, get_or-numbers (i + 1) n k (omega arith))

module _ (s items : List ℕ) (n : ℕ) where
  pub length-firsts : length (firsts s items n) ≡ n
  unfolding firsts
  length-firsts = length-each (first_as s items) (up_to n) ∙ length-numbers 0 n

  firsts_at : (i : ℕ) → i < n → get_or (firsts s items n) i 0 ≡ first_as s items i
  unfolding firsts
  firsts_at i h =
      let l = length-numbers 0 n in
      get_or-each (first_as s items) (up_to n) i 0 0 (omega arith) ∙ ap (first_as s items) (get_or-numbers 0 n i h ∙ zero-add i)

  -- ---- what the numbers say
  module _ (d ids : List ℕ) (e : ids ≡ firsts s items n ++ d) where
    pub first-front : take n ids ≡ firsts s items n
    first-front = rw e (take_at (firsts s items n) d n length-firsts)

    pub first-at : (i : ℕ) → i < n → get_or ids i 0 ≡ first_as s items i
    first-at i h = let l = length-firsts in rw e (get_or-append (firsts s items n) d 0 i (omega arith) ∙ firsts_at i h)

    pub first-le : (i : ℕ) → i < n → get_or ids i 0 ≤ i
    first-le i h = omega (arith, first-at i h, first-least s items i i refl)

    pub first-own : (i : ℕ) → i < n → get_or ids (get_or ids i 0) 0 ≡ get_or ids i 0
    first-own i h =
        let l = first-le i h in
        first-at (get_or ids i 0) (omega arith) ∙ ap (first_as s items) (first-at i h) ∙ first-first s items i ∙ sym (first-at i h)

    pub same_number : (i j : ℕ) → i < n → j < n → eqb (get_or ids i 0) (get_or ids j 0) ≡ same_bytes (bytes_at s items i) (bytes_at s items j)
    same_number i j h l =
        ap₂ eqb (first-at i h) (first-at j l)
        ∙ same_test (eqb (first_as s items i) (first_as s items j)) (same_bytes (bytes_at s items i) (bytes_at s items j))
        (λ t. same-holds (bytes_at s items i) (bytes_at s items j)
        (sym (first-bytes s items i) ∙ ap (bytes_at s items) (eqb-true (first_as s items i) (first_as s items j) t) ∙ first-bytes s items j))
        (λ t. eq-eqb (first_as s items i) (first_as s items j)
        (first-same s items i j (same_bytes_lem (bytes_at s items i) (bytes_at s items j) t)))

  -- ---- the list of them, from each of them
  pub same-firsts : (ids : List ℕ) → length ids ≡ n → ((k : ℕ) → k < n → get_or ids k 0 ≡ first_as s items k) → ids ≡ firsts s items n
  same-firsts ids l e =
      let m = length-firsts in
      same_number_lists ids (firsts s items n) (omega arith) (λ k h. let b : k < n = omega arith in e k b ∙ sym (firsts_at k b))
