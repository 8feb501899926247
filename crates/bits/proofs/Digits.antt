-- The bits of one number, from the library's laws of its digits (bit_at x i, which is 0 or 1).
--   bit-or, bit-and, bit-xor, bit-less   what each operation does to a bit
--   bits-ext                             a number is known by its bits; bits_below: and its size by where they end
--   number_bit, number-below             the number that a set makes
--   lowest-digit                         where the lowest bit stands, of 32; trailing-..: of any number of digits
--   below-cases, same_cases              a case of two numbers' order, for all files here
-- Assumes nothing.
use mathlib.Core.Path.{◌≡◌, refl, sym, ap, ◌∙◌}
use mathlib.Core.Bool.{Bool, true, false, ◌&&◌, ◌||◌, false≢true}
use mathlib.Core.List.{[], ◌∷◌}
use Prim.Native.Nat.{ℕ, zero, suc, ◌+◌, ◌*◌, ◌/◌, ◌%◌, ◌^◌, ◌<◌, ◌≤◌, min, max}
use native.Mathlib.Nat.{le_of_suc-le-suc, not-suc-le-zero, pow-suc, mod-lt, div-lt_iff_lt-mul}
use native.Mathlib.Omega.{arith}
use borrow.Author.Tests.{eq-eqb, ne_eqb, eqb-true, eqb-false, ltb-true, ltb-false}
use lib.Arith.{digits_mod}
use lib.Bits.{bit_and, bit_or, bit_xor}
use lib.Count.{count_trailing_zeros, under}
use lib.Dec.{eqb, ltb, lit<}
use lib.ListN.{length}
use lib.Pow.{shr-shr, pow_pos}
use mir.Syntax.{w32}
use Rattle.std.specs.Prelude.{if◌then◌else◌}
use Rattle.std.specs.Int.{bit_at}
use Rattle.std.proofs.lemmas.Nat.Bits.{bit_at_and, bit_at_or, bit_at_xor, bit_at_lowest, bit_at-suc, bit_at-zero, bit_at-pow_same}
use Rattle.std.proofs.lemmas.Nat.Bits.{bit_at-pow_other, bit_at-lt, bit_at_above, bit_at-trailing_zeros}
use Rattle.std.proofs.lemmas.Nat.Bits.{same_from_bits, same_from_bits_below}
use Rattle.meaning.specs.Plain.{xor}
use Rattle.meaning.specs.Policy.{Set, holds}
use Rattle.meaning.specs.Access.{number, bit_of}
use Rattle.meaning.proofs.Lists.{bool_cases}
use Rattle.bits.specs.Bits.{full, low_mask, less, less_word}

-- ---- a number is below another or not, and is another or not
pub below-cases : {P : Type 0} (i n : ℕ) → (i < n → P) → (n ≤ i → P) → P
below-cases i n f g = bool_cases (ltb i n) (λ t. f (ltb-true i n t)) (λ t. g (ltb-false i n t))

pub same_cases : {P : Type 0} (i j : ℕ) → (i ≡ j → P) → ((i ≡ j → ⊥) → P) → P
same_cases i j f g = bool_cases (eqb i j) (λ t. f (eqb-true i j t)) (λ t. g (eqb-false i j t))

-- ---- two numbers, bit by bit
-- a law of two digits is one of the four pairs
digit : (P : ℕ → Type 0) → P 0 → P 1 → (x : ℕ) → x < 2 → P x
digit P a b zero h = a
digit P a b (suc zero) h = b
digit P a b (suc (suc x)) h = absurd (not-suc-le-zero (le_of_suc-le-suc (le_of_suc-le-suc h)))

digits : (P : ℕ → ℕ → Type 0) → P 0 0 → P 0 1 → P 1 0 → P 1 1 → (x y : ℕ) → x < 2 → y < 2 → P x y
digits P a b c d x y h k = digit (λ (x : ℕ). P x y) (digit (P 0) a b y k) (digit (P 1) c d y k) x h

abbrev is_one : ℕ → Bool
is_one x = eqb x 1

-- an operation that goes by digits (f) goes by bits (g)
module _ (f : ℕ → ℕ → ℕ) (g : Bool → Bool → Bool)
    (same : (x y : ℕ) → x < 2 → y < 2 → is_one (f x y) ≡ g (is_one x) (is_one y)) where
  by-digits : (r a b i : ℕ) → bit_at r i ≡ f (bit_at a i) (bit_at b i) → bit_of r i ≡ g (bit_of a i) (bit_of b i)
  by-digits r a b i e = ap is_one e ∙ same (bit_at a i) (bit_at b i) (bit_at-lt a i) (bit_at-lt b i)

pub bit-or : (a b i : ℕ) → bit_of (bit_or a b) i ≡ (bit_of a i || bit_of b i)
bit-or a b i = by-digits max ◌||◌ (digits (λ x y. is_one (max x y) ≡ (is_one x || is_one y)) refl refl refl refl)
    (bit_or a b) a b i (bit_at_or a b i)

pub bit-and : (a b i : ℕ) → bit_of (bit_and a b) i ≡ (bit_of a i && bit_of b i)
bit-and a b i = by-digits min ◌&&◌ (digits (λ x y. is_one (min x y) ≡ (is_one x && is_one y)) refl refl refl refl)
    (bit_and a b) a b i (bit_at_and a b i)

pub bit-xor : (a b i : ℕ) → bit_of (bit_xor a b) i ≡ xor (bit_of a i) (bit_of b i)
bit-xor a b i = by-digits (λ x y. (x + y) % 2) xor (digits (λ x y. is_one ((x + y) % 2) ≡ xor (is_one x) (is_one y)) refl refl refl refl)
    (bit_xor a b) a b i (bit_at_xor a b i)

xor-both : (p q : Bool) → xor p (p && q) ≡ less p q
xor-both true q = refl
xor-both false q = refl

pub bit-less : (a b i : ℕ) → bit_of (less_word a b) i ≡ less (bit_of a i) (bit_of b i)
bit-less a b i = bit-xor a (bit_and a b) i ∙ ap (xor (bit_of a i)) (bit-and a b i) ∙ xor-both (bit_of a i) (bit_of b i)

pub bit-none : (i : ℕ) → bit_of 0 i ≡ false
bit-none i = ap is_one (bit_at-zero i)

-- 2 ^ i has the bit i alone
pub bit-pow : (i j : ℕ) → bit_of (2 ^ i) j ≡ eqb i j
bit-pow i j = same_cases j i
    (λ e. ap (bit_of (2 ^ i)) e ∙ ap is_one (bit_at-pow_same i) ∙ sym (eq-eqb i j (sym e)))
    (λ n. ap is_one (bit_at-pow_other i j n) ∙ sym (ne_eqb i j (λ e. n (sym e))))

-- ---- a number is known by its bits
same-digit : (x y : ℕ) → x < 2 → y < 2 → is_one x ≡ is_one y → x ≡ y
same-digit = digits (λ x y. is_one x ≡ is_one y → x ≡ y)
    (λ e. refl) (λ e. absurd (false≢true e)) (λ e. absurd (false≢true (sym e))) (λ e. refl)

pub bits-ext : (n a b : ℕ) → a < 2 ^ n → b < 2 ^ n → ((i : ℕ) → i < n → bit_of a i ≡ bit_of b i) → a ≡ b
bits-ext n a b ha hb h =
    same_from_bits_below n a b ha hb (λ i l. same-digit (bit_at a i) (bit_at b i) (bit_at-lt a i) (bit_at-lt b i) (h i l))

-- a number below 2 ^ n has no bit from n on, and one without such bits is below 2 ^ n
pub bit-above : (x n i : ℕ) → x < 2 ^ n → n ≤ i → bit_of x i ≡ false
bit-above x n i h l = ap is_one (bit_at_above x n i h l)

pub bits_below : (x n : ℕ) → ((i : ℕ) → n ≤ i → bit_of x i ≡ false) → x < 2 ^ n
bits_below x n f =
    let none : x / 2 ^ n ≡ 0 =
    same_from_bits (x / 2 ^ n) 0 (λ i. ap (λ (y : ℕ). y % 2) (shr-shr x n i)
    ∙ same-digit (bit_at x (n + i)) (bit_at 0 i) (bit_at-lt x (n + i)) (bit_at-lt 0 i) (f (n + i) (omega arith) ∙ sym (bit-none i))) in
    let below : x < 1 * 2 ^ n = (div-lt_iff_lt-mul (pow_pos n)).0 (omega arith) in
    omega arith

-- ---- the number that a set makes
one-if : (b : Bool) → ((if b then 1 else 0) < 2) × (is_one (if b then 1 else 0) ≡ b)
one-if true = (lit< tt, refl)
one-if false = (lit< tt, refl)

halved : (x d : ℕ) → d < 2 → (x * 2 + d) / 2 ≡ x
halved x d h = omega arith

pub number_bit : (x : Set) (i : ℕ) → bit_of (number x) i ≡ holds x i
unfolding number
number_bit [] i = bit-none i
number_bit (b ∷ x) zero =
    ap is_one (bit_at_lowest (number (b ∷ x)) ∙ digits_mod (number x) (one-if b).0) ∙ (one-if b).1
number_bit (b ∷ x) (suc i) =
    ap is_one (bit_at-suc (number (b ∷ x)) i) ∙ ap (λ (y : ℕ). bit_of y i) (halved (number x) (if b then 1 else 0) (one-if b).0)
    ∙ number_bit x i

pub number-below : (x : Set) → number x < 2 ^ length x
unfolding number
number-below [] = lit< tt
number-below (b ∷ x) = omega (arith, pow-suc 2 (length x), number-below x, (one-if b).0)

-- all numbers below n
pub number-full : (n : ℕ) → number (full n) ≡ low_mask n
unfolding number
number-full zero = refl
number-full (suc n) = omega (arith, pow-suc 2 n, pow_pos n, number-full n)

-- ---- the lowest bit that is set
pub lowest-digit : (x : ℕ) → x < 2 ^ 32 → (x ≡ 0 → ⊥) → (count_trailing_zeros 32 x < 32)
    × (bit_of x (count_trailing_zeros 32 x) ≡ true) × ((i : ℕ) → i < count_trailing_zeros 32 x → bit_of x i ≡ false)
lowest-digit x h n =
    let t = bit_at-trailing_zeros w32 x (omega arith) h in (t.0, ap is_one t.1, λ i l. ap is_one (t.2 i l))

-- the same for any number of digits: those below it are clear, it is set, and it is among k digits that are not all clear
pub trailing-clear : (k x j : ℕ) → j < count_trailing_zeros k x → bit_of x j ≡ false
unfolding count_trailing_zeros
trailing-clear zero x j h = absurd (not-suc-le-zero h)
trailing-clear (suc k) x j h = go (x % 2) refl j h (trailing-clear k (x / 2)) where
  go : (d : ℕ) → x % 2 ≡ d → (j : ℕ) → j < under d (count_trailing_zeros k (x / 2))
      → ((j : ℕ) → j < count_trailing_zeros k (x / 2) → bit_of (x / 2) j ≡ false) → bit_of x j ≡ false
  go zero e zero h f = ap is_one (bit_at_lowest x ∙ e)
  go zero e (suc j) h f = ap is_one (bit_at-suc x j) ∙ f j (le_of_suc-le-suc h)
  go (suc d) e j h f = absurd (not-suc-le-zero h)

pub trailing-set : (k x : ℕ) → count_trailing_zeros k x < k → bit_of x (count_trailing_zeros k x) ≡ true
unfolding count_trailing_zeros
trailing-set zero x h = absurd (not-suc-le-zero h)
trailing-set (suc k) x h = go (x % 2) refl h (trailing-set k (x / 2)) where
  go : (d : ℕ) → x % 2 ≡ d → under d (count_trailing_zeros k (x / 2)) < suc k
      → (count_trailing_zeros k (x / 2) < k → bit_of (x / 2) (count_trailing_zeros k (x / 2)) ≡ true) → bit_of x (under d (count_trailing_zeros k (x / 2))) ≡ true
  go zero e h f = ap is_one (bit_at-suc x (count_trailing_zeros k (x / 2))) ∙ f (le_of_suc-le-suc h)
  go (suc d) e h f = let l : x % 2 < 2 = mod-lt x (lit< tt) in ap is_one (bit_at_lowest x) ∙ eq-eqb (x % 2) 1 (omega arith)

pub trailing_below : (k x : ℕ) → x < 2 ^ k → (x ≡ 0 → ⊥) → count_trailing_zeros k x < k
trailing_below k x h n = below-cases (count_trailing_zeros k x) k (λ l. l)
    (λ l. absurd (n (bits-ext k x 0 h (pow_pos k) (λ i b. trailing-clear k x i (omega arith) ∙ sym (bit-none i)))))
