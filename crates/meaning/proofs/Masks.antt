-- The bits of a mask: bit i of the number of a list of truth values is its element i, and bit i of the mask of n permissions is what
-- was said of permission i. By induction on the list.
-- Assumes nothing.
use mathlib.Core.Path.{◌≡◌, refl, sym, ap, ◌∙◌}
use mathlib.Core.Bool.{Bool, true, false}
use mathlib.Core.List.{List, [], ◌∷◌}
use Prim.Native.Nat.{ℕ, zero, suc, ◌+◌, ◌*◌, ◌/◌, ◌%◌, ◌^◌, ◌<◌}
use native.Mathlib.Nat.{le_of_suc-le-suc, not-suc-le-zero, zero-div, div-one}
use native.Mathlib.Numerals.{one-add}
use native.Mathlib.Omega.{arith}
use lib.Arith.{digits_mod}
use lib.Dec.{eqb, lit<}
use lib.ListN.{length, get_or}
use lib.Pow.{shr-shr}
use Rattle.std.specs.Prelude.{if◌then◌else◌}
use Rattle.meaning.specs.Plain.{each, numbers, up_to}
use Rattle.meaning.specs.Access.{number, bit_of, mask}
use Rattle.meaning.proofs.Lists.{length-each, get_or-each, holds-below}

digit_low : (b : Bool) → (if b then 1 else 0) < 2
digit_low true = lit< tt
digit_low false = lit< tt

digit-one : (b : Bool) → eqb (if b then 1 else 0) 1 ≡ b
digit-one true = refl
digit-one false = refl

halved : (x d : ℕ) → d < 2 → (x * 2 + d) / 2 ≡ x
halved x d h = omega arith

bit-zero : (x : ℕ) → bit_of x 0 ≡ eqb (x % 2) 1
bit-zero x = ap (λ (y : ℕ). eqb (y % 2) 1) (div-one x)

bit-suc : (x i : ℕ) → bit_of x (suc i) ≡ bit_of (x / 2) i
bit-suc x i = ap (λ (y : ℕ). eqb (y % 2) 1) (ap (λ (k : ℕ). x / 2 ^ k) (sym (one-add i)) ∙ sym (shr-shr x 1 i))

-- Bit i of the number that a list of bits makes is element i of the list.
pub bit-number : (bs : List Bool) (i : ℕ) → bit_of (number bs) i ≡ get_or bs i false
unfolding number
bit-number [] i = ap (λ (y : ℕ). eqb (y % 2) 1) (zero-div (2 ^ i))
bit-number (b ∷ bs) zero =
    bit-zero (number bs * 2 + (if b then 1 else 0)) ∙ ap (λ (x : ℕ). eqb x 1) (digits_mod (number bs) (digit_low b)) ∙ digit-one b
bit-number (b ∷ bs) (suc i) =
    bit-suc (number bs * 2 + (if b then 1 else 0)) i ∙ ap (λ (x : ℕ). bit_of x i) (halved (number bs) (if b then 1 else 0) (digit_low b)) ∙ bit-number bs i

length-numbers : (i n : ℕ) → length (numbers i n) ≡ n
length-numbers i zero = refl
length-numbers i (suc n) = ap suc (length-numbers (i + 1) n)

get_or-numbers : (i n k d : ℕ) → k < n → get_or (numbers i n) k d ≡ i + k
get_or-numbers i zero k d h = absurd (not-suc-le-zero h)
get_or-numbers i (suc n) zero d h = omega arith
get_or-numbers i (suc n) (suc k) d h = let r = get_or-numbers (i + 1) n k d (le_of_suc-le-suc h) in omega arith

-- Of a permission below n the mask's bit says what was said of it.
pub mask-bit : (n : ℕ) (f : ℕ → Bool) (i : ℕ) → i < n → bit_of (mask n f) i ≡ f i
unfolding mask
mask-bit n f i h =
    bit-number (each f (up_to n)) i ∙ get_or-each f (up_to n) i 0 false (omega (arith, length-numbers 0 n)) ∙ ap f (get_or-numbers 0 n i 0 h ∙ omega arith)

-- No other bit is set.
pub mask_below : (n : ℕ) (f : ℕ → Bool) (i : ℕ) → bit_of (mask n f) i ≡ true → i < n
unfolding mask
mask_below n f i e =
    let h = holds-below (each f (up_to n)) i (sym (bit-number (each f (up_to n)) i) ∙ e) in
    omega (arith, length-each f (up_to n), length-numbers 0 n)
