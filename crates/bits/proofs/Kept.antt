-- A set of a policy laid into words is read back, and words are the ones that their set is laid into.
--   length-packed, words-packed   k words, each below 2 ^ 32
--   member-packed, member-kept    they hold what the set holds
--   set_in-packed, packed-set_in    there and back, back and there
--   full_at, member-fill          the set of all numbers below n, word by word and number by number
-- Word j is made of the 32 entries from 32 * j on (packed-at): the rest comes down to the bits of that number.
-- Assumes nothing.
use mathlib.Core.Path.{◌≡◌, refl, sym, ap, ◌∙◌}
use mathlib.Core.Bool.{true, false}
use mathlib.Core.List.{List}
use Prim.Native.Nat.{ℕ, zero, suc, ◌+◌, ◌-◌, ◌*◌, ◌/◌, ◌%◌, ◌<◌, ◌≤◌, min}
use native.Mathlib.Nat.{not-suc-le-zero, le_of_suc-le-suc, lt_of_lt_of_le, min-le_left}
use native.Mathlib.Omega.{arith}
use borrow.Author.Tests.{lt-ltb, le-ltb}
use lib.Dec.{ltb, lit<}
use lib.ListN.{length, get_or, take, drop, length-take, length-replicate, get_or-replicate, get_or-eq_default}
use lib.Pow.{pow_mono}
use lib.Seq.{get_or-take, get_or-drop, drop-drop, take_all}
use Rattle.std.proofs.lemmas.List.{take-replicate, drop-replicate}
use Rattle.meaning.specs.Policy.{Set, holds}
use Rattle.meaning.specs.Access.{number, bit_of}
use Rattle.bits.specs.Bits.{member, set_in, packed, full, Words, low_mask}
use Rattle.bits.proofs.Digits.{below-cases, number_bit, number-below, number-full}
use Rattle.bits.proofs.Members.{member-past, words-ext, length-set_in, holds-set_in, set_in-is}

pub length-packed : (k : ℕ) (x : Set) → length (packed k x) ≡ k
unfolding packed
length-packed zero x = refl
length-packed (suc k) x = ap suc (length-packed k _)

pub words-packed : (k : ℕ) (x : Set) → Words (packed k x)
unfolding packed
words-packed zero x j = lit< tt
words-packed (suc k) x zero =
    let l : length (take 32 x) ≤ 32 = simp length-take (min-le_left 32 (length x)) in
    lt_of_lt_of_le (number-below (take 32 x)) (pow_mono l)
words-packed (suc k) x (suc j) = words-packed k _ j

-- word j of them is made of the 32 entries from 32 * j on
pub packed-at : (k : ℕ) (x : Set) (j : ℕ) → j < k → get_or (packed k x) j 0 ≡ number (take 32 (drop (32 * j) x))
unfolding packed
packed-at zero x j h = absurd (not-suc-le-zero h)
packed-at (suc k) x zero h = refl
packed-at (suc k) x (suc j) h =
    let e : 32 + 32 * j ≡ 32 * suc j = omega arith in
    packed-at k (drop 32 x) j (le_of_suc-le-suc h)
    ∙ ap (λ (y : Set). number (take 32 y)) (drop-drop (32 * j) 32 x ∙ ap (λ (n : ℕ). drop n x) e)

-- ---- what they hold
pub member-packed : (k : ℕ) (x : Set) (i : ℕ) → i < 32 * k → member (packed k x) i ≡ holds x i
unfolding member
member-packed k x i h =
    let y = drop (32 * (i / 32)) x in
    let e : 32 * (i / 32) + i % 32 ≡ i = omega arith in
    ap (λ (w : ℕ). bit_of w (i % 32)) (packed-at k x (i / 32) (omega arith)) ∙ number_bit (take 32 y) (i % 32)
    ∙ get_or-take 32 y (i % 32) false (omega arith) ∙ get_or-drop (32 * (i / 32)) x (i % 32) false ∙ ap (holds x) e

-- where there is room for all of the set, past the words too
pub member-kept : (k : ℕ) (x : Set) → length x ≤ 32 * k → (i : ℕ) → member (packed k x) i ≡ holds x i
member-kept k x l i = below-cases i (32 * k) (member-packed k x i)
    (λ h. let p = length-packed k x in
    member-past (packed k x) i (omega arith) ∙ sym (get_or-eq_default x false (omega arith)))

-- ---- there and back
pub set_in-packed : (k : ℕ) (x : Set) → length x ≤ 32 * k → set_in (length x) (packed k x) ≡ x
set_in-packed k x l = set_in-is (length x) (packed k x) x refl (λ i h. member-kept k x l i)

pub packed-set_in : (n : ℕ) (ws : List ℕ) → Words ws → ((i : ℕ) → n ≤ i → member ws i ≡ false)
    → packed (length ws) (set_in n ws) ≡ ws
packed-set_in n ws w e =
    let p = length-packed (length ws) (set_in n ws) in
    words-ext (packed (length ws) (set_in n ws)) ws (words-packed (length ws) (set_in n ws)) w p
    (λ i h. member-packed (length ws) (set_in n ws) i (omega arith) ∙ below-cases i n (holds-set_in n ws i)
    (λ l. let s = length-set_in n ws in
    get_or-eq_default (set_in n ws) false (omega arith) ∙ sym (e i l)))

-- ---- all numbers below n
take-full : (m n : ℕ) → take m (full n) ≡ full (min n m)
take-full m n = below-cases n m
    (λ h. let l = length-replicate n true in let e : n ≡ min n m = omega arith in take_all m (full n) (omega arith) ∙ ap full e)
    (λ h. let e : m ≡ min n m = omega arith in take-replicate m n true h ∙ ap full e)

pub full_at : (k n j : ℕ) → j < k → get_or (packed k (full n)) j 0 ≡ low_mask (min (n - 32 * j) 32)
full_at k n j h =
    packed-at k (full n) j h ∙ ap (λ (x : Set). number (take 32 x)) (drop-replicate (32 * j) n true)
    ∙ ap number (take-full 32 (n - 32 * j)) ∙ number-full (min (n - 32 * j) 32)

pub member-fill : (k n i : ℕ) → n ≤ 32 * k → member (packed k (full n)) i ≡ ltb i n
member-fill k n i h =
    let l = length-replicate n true in
    member-kept k (full n) (omega arith) i ∙ below-cases i n
    (λ b. get_or-replicate n i true false b ∙ sym (lt-ltb i n b))
    (λ b. get_or-eq_default (full n) false (omega arith) ∙ sym (le-ltb i n b))

pub set_in-fill : (k n : ℕ) → n ≤ 32 * k → set_in n (packed k (full n)) ≡ full n
set_in-fill k n h = let l = length-replicate n true in rw l at (set_in-packed k (full n) (omega arith))
