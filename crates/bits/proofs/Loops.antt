-- What the loops leave or have looked at, word by word, is the list or the set that the contract names.
--   zipped                  words that are each made of one of d and one of s
--   filled                  words that each have what is left of n numbers
--   none-past, none-fails   no number from n on is in, where no word is above the mask of what is left; and the one that is
-- Assumes nothing.
use mathlib.Core.Path.{◌≡◌, sym, ◌∙◌}
use mathlib.Core.Bool.{true, false}
use mathlib.Core.List.{List, zip_with}
use Prim.Native.Nat.{ℕ, ◌+◌, ◌-◌, ◌*◌, ◌/◌, ◌%◌, ◌^◌, ◌<◌, ◌≤◌, min}
use native.Mathlib.Nat.{not-le_of_lt}
use native.Mathlib.Omega.{arith}
use lib.ListN.{length, get_or}
use lib.Pow.{le_ones, lt_of_le_ones}
use lib.Seq.{ext_get_or}
use Rattle.meaning.proofs.Lists.{bool_cases}
use Rattle.bits.specs.Bits.{member, packed, full, low_mask, none_from}
use Rattle.bits.proofs.Digits.{below-cases, bit-above, bits_below}
use Rattle.bits.proofs.Members.{member-at, length-zip, zip-at, none_from_lem, from-none}
use Rattle.bits.proofs.Kept.{length-packed, full_at}

pub zipped : (f : ℕ → ℕ → ℕ) (d s x : List ℕ) → length d ≡ length s → length x ≡ length d
    → ((k : ℕ) → k < length d → get_or x k 0 ≡ f (get_or d k 0) (get_or s k 0)) → x ≡ zip_with f d s
zipped f d s x e l h = ext_get_or 0 x (zip_with f d s) (l ∙ sym (length-zip f d s e))
    (λ k b. h k (omega arith) ∙ sym (zip-at f 0 d s k e (omega arith)))

pub filled : (m n : ℕ) (x : List ℕ) → length x ≡ m → ((k : ℕ) → k < m → get_or x k 0 ≡ low_mask (min (n - 32 * k) 32))
    → x ≡ packed m (full n)
filled m n x l h = ext_get_or 0 x (packed m (full n)) (l ∙ sym (length-packed m (full n)))
    (λ k b. h k (omega arith) ∙ sym (full_at m n k (omega arith)))

pub none-past : (n : ℕ) (ws : List ℕ) → ((k : ℕ) → k < length ws → get_or ws k 0 ≤ low_mask (min (n - 32 * k) 32))
    → none_from n ws ≡ true
unfolding member
none-past n ws h = from-none n ws (λ i l b.
    let m = min (n - 32 * (i / 32)) 32 in
    bit-above (get_or ws (i / 32) 0) m (i % 32) (lt_of_le_ones m (h (i / 32) (omega arith))) (omega arith))

pub none-fails : (n : ℕ) (ws : List ℕ) (i : ℕ) → get_or ws i 0 < 2 ^ 32 → low_mask (min (n - 32 * i) 32) < get_or ws i 0
    → none_from n ws ≡ false
none-fails n ws i w h =
    let m = min (n - 32 * i) 32 in
    bool_cases (none_from n ws)
    (λ t. absurd (not-le_of_lt h (le_ones m (bits_below (get_or ws i 0) m
    (λ j l. below-cases j 32 (λ g. sym (member-at ws i j g) ∙ none_from_lem n ws t (32 * i + j) (omega arith))
    (bit-above (get_or ws i 0) 32 j w))))))
    (λ t. t)
