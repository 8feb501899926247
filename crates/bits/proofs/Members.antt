-- The numbers that words hold, and what each operation does to them.
--   member-at       number 32 * k + j is bit j of word k: every law here comes down to bits by it
--   words-ext       words are known by their members
--   set_in-is        and a set of a policy by what it holds: so each law on members is one on sets
--   member-insert, member_union, member-less   the operations, and set_in-.. the same of sets
--   none_from_lem, from-none   none_from says that no number from n on is a member
-- Assumes nothing.
use mathlib.Core.Path.{◌≡◌, refl, sym, ap, ap₂, ◌∙◌}
use mathlib.Core.Bool.{Bool, true, false, not, ◌||◌, or-true, or-false, false≢true}
use mathlib.Core.List.{List, [], ◌∷◌, zip_with}
use Prim.Native.Nat.{ℕ, zero, suc, ◌+◌, ◌-◌, ◌*◌, ◌/◌, ◌%◌, ◌^◌, ◌<◌, ◌≤◌}
use native.Mathlib.Nat.{le_of_suc-le-suc, not-suc-le-zero, add-zero, zero-add}
use native.Mathlib.Omega.{arith}
use borrow.Author.Tests.{eq-eqb, ne_eqb, eqb-true, not-true}
use lib.Bits.{bit_or}
use lib.Dec.{eqb, eqb-zero-suc, eqb-suc-zero, eqb-suc-suc}
use lib.ListN.{length, get_or, set, length-set, get_or-eq_default}
use lib.Seq.{ext_get_or, get_or-set_same, get_or-set_other}
use Rattle.meaning.specs.Plain.{every, numbers, up_to}
use Rattle.meaning.specs.Policy.{Set, holds}
use Rattle.meaning.specs.Access.{bit_of}
use Rattle.meaning.proofs.Lists.{same_test, length-each, get_or-each, if-both}
use Rattle.bits.specs.Bits.{member, set_in, Words, insert, less, less_word, none_from}
use Rattle.bits.proofs.Digits.{below-cases, same_cases, bit-or, bit-less, bit-none, bit-pow, bits-ext}

-- ---- members
pub member-at : (ws : List ℕ) (k j : ℕ) → j < 32 → member ws (32 * k + j) ≡ bit_of (get_or ws k 0) j
unfolding member
member-at ws k j h =
    let d : (32 * k + j) / 32 ≡ k = omega arith in
    let m : (32 * k + j) % 32 ≡ j = omega arith in
    ap₂ (λ (x y : ℕ). bit_of (get_or ws x 0) y) d m

pub member-past : (ws : List ℕ) (i : ℕ) → 32 * length ws ≤ i → member ws i ≡ false
unfolding member
member-past ws i h = ap (λ (x : ℕ). bit_of x (i % 32)) (get_or-eq_default ws 0 (omega arith)) ∙ bit-none (i % 32)

pub member_below : (ws : List ℕ) (i : ℕ) → member ws i ≡ true → i < 32 * length ws
member_below ws i e = below-cases i (32 * length ws) (λ l. l) (λ l. absurd (false≢true (sym (member-past ws i l) ∙ e)))

pub words-ext : (a b : List ℕ) → Words a → Words b → length a ≡ length b
    → ((i : ℕ) → i < 32 * length a → member a i ≡ member b i) → a ≡ b
words-ext a b wa wb e h = ext_get_or 0 a b e (λ k l. bits-ext 32 (get_or a k 0) (get_or b k 0) (wa k) (wb k)
    (λ j m. sym (member-at a k j m) ∙ h (32 * k + j) (omega arith) ∙ member-at b k j m))

-- ---- the set of the numbers below n
length-numbers : (i n : ℕ) → length (numbers i n) ≡ n
length-numbers i zero = refl
length-numbers i (suc n) = ap suc (length-numbers (i + 1) n)

numbers-at : (i n k : ℕ) → k < n → get_or (numbers i n) k 0 ≡ i + k
numbers-at i zero k h = absurd (not-suc-le-zero h)
numbers-at i (suc n) zero h = sym (add-zero i)
numbers-at i (suc n) (suc k) h = let r = numbers-at (i + 1) n k (le_of_suc-le-suc h) in omega arith

pub length-set_in : (n : ℕ) (ws : List ℕ) → length (set_in n ws) ≡ n
unfolding set_in
length-set_in n ws = length-each (member ws) (up_to n) ∙ length-numbers 0 n

pub holds-set_in : (n : ℕ) (ws : List ℕ) (i : ℕ) → i < n → holds (set_in n ws) i ≡ member ws i
unfolding set_in
holds-set_in n ws i h =
    let l = length-numbers 0 n in
    get_or-each (member ws) (up_to n) i 0 false (omega arith) ∙ ap (member ws) (numbers-at 0 n i h ∙ zero-add i)

pub set_in-is : (n : ℕ) (ws : List ℕ) (x : Set) → length x ≡ n → ((i : ℕ) → i < n → member ws i ≡ holds x i) → set_in n ws ≡ x
set_in-is n ws x e h =
    let l = length-set_in n ws in
    ext_get_or false (set_in n ws) x (l ∙ sym e) (λ i b. holds-set_in n ws i (omega arith) ∙ h i (omega arith))

-- ---- one number put in
pub member-insert : (ws : List ℕ) (i j : ℕ) → i < 32 * length ws → member (insert ws i) j ≡ (member ws j || eqb i j)
unfolding member insert
member-insert ws i j h = same_cases (j / 32) (i / 32)
    (λ e. ap (λ (x : ℕ). bit_of x (j % 32)) (ap (λ (k : ℕ). get_or (set ws (i / 32) w) k 0) e ∙ get_or-set_same ws (i / 32) w 0 (omega arith))
    ∙ bit-or (get_or ws (i / 32) 0) (2 ^ (i % 32)) (j % 32)
    ∙ ap₂ ◌||◌ (ap (λ (k : ℕ). bit_of (get_or ws k 0) (j % 32)) (sym e)) (bit-pow (i % 32) (j % 32) ∙ same_number e))
    (λ n. ap (λ (x : ℕ). bit_of x (j % 32)) (get_or-set_other ws (i / 32) (j / 32) w 0 n)
    ∙ sym (or-false (member ws j)) ∙ ap (λ (b : Bool). member ws j || b) (sym (ne_eqb i j (λ q. n (omega arith)))))
  where
    w : ℕ
    w = bit_or (get_or ws (i / 32) 0) (2 ^ (i % 32))

    same_number : j / 32 ≡ i / 32 → eqb (i % 32) (j % 32) ≡ eqb i j
    same_number e = same_test (eqb (i % 32) (j % 32)) (eqb i j)
        (λ p. let q = eqb-true (i % 32) (j % 32) p in eq-eqb i j (omega arith))
        (λ p. let q = eqb-true i j p in eq-eqb (i % 32) (j % 32) (omega arith))

holds-set : (x : Set) (i j : ℕ) → j < length x → holds (set x i true) j ≡ (holds x j || eqb i j)
holds-set [] i j h = absurd (not-suc-le-zero h)
holds-set (b ∷ x) zero zero h = sym (or-true b)
holds-set (b ∷ x) zero (suc j) h = rw (eqb-zero-suc j) (sym (or-false (holds x j)))
holds-set (b ∷ x) (suc i) zero h = rw (eqb-suc-zero i) (sym (or-false b))
holds-set (b ∷ x) (suc i) (suc j) h = rw (eqb-suc-suc i j) (holds-set x i j (le_of_suc-le-suc h))

pub set_in-insert : (n : ℕ) (ws : List ℕ) (i : ℕ) → i < 32 * length ws → set_in n (insert ws i) ≡ set (set_in n ws) i true
set_in-insert n ws i h =
    let l = length-set_in n ws in
    set_in-is n (insert ws i) (set (set_in n ws) i true) (length-set (set_in n ws) i true ∙ l)
    (λ j b. member-insert ws i j h ∙ ap (λ (p : Bool). p || eqb i j) (sym (holds-set_in n ws j b))
    ∙ sym (holds-set (set_in n ws) i j (omega arith)))

-- ---- two sets
pub length-zip : {A : Type 0} (f : A → A → A) (a b : List A) → length a ≡ length b → length (zip_with f a b) ≡ length a
unfolding zip_with
length-zip f [] b e = refl
length-zip f (x ∷ a) [] e = absurd (omega arith)
length-zip f (x ∷ a) (y ∷ b) e = ap suc (length-zip f a b (omega arith))

pub zip-at : {A : Type 0} (f : A → A → A) (d : A) (a b : List A) (k : ℕ) → length a ≡ length b → k < length a
    → get_or (zip_with f a b) k d ≡ f (get_or a k d) (get_or b k d)
unfolding zip_with
zip-at f d [] b k e h = absurd (not-suc-le-zero h)
zip-at f d (x ∷ a) [] k e h = absurd (omega arith)
zip-at f d (x ∷ a) (y ∷ b) zero e h = refl
zip-at f d (x ∷ a) (y ∷ b) (suc k) e h = zip-at f d a b k (omega arith) (le_of_suc-le-suc h)

-- an operation on words that goes by bits goes by members, and entry by entry on sets
module _ (f : ℕ → ℕ → ℕ) (g : Bool → Bool → Bool) (none : g false false ≡ false)
    (bit : (a b i : ℕ) → bit_of (f a b) i ≡ g (bit_of a i) (bit_of b i)) (a b : List ℕ) (e : length a ≡ length b) where
  member-zip : (i : ℕ) → member (zip_with f a b) i ≡ g (member a i) (member b i)
  unfolding member
  member-zip i = below-cases (i / 32) (length a)
      (λ l. ap (λ (x : ℕ). bit_of x (i % 32)) (zip-at f 0 a b (i / 32) e l) ∙ bit (get_or a (i / 32) 0) (get_or b (i / 32) 0) (i % 32))
      (λ l. let z = length-zip f a b e in
      member-past (zip_with f a b) i (omega arith)
      ∙ sym (ap₂ g (member-past a i (omega arith)) (member-past b i (omega arith)) ∙ none))

  set_in-zip : (n : ℕ) → set_in n (zip_with f a b) ≡ zip_with g (set_in n a) (set_in n b)
  set_in-zip n =
      let la = length-set_in n a in
      let same : length (set_in n a) ≡ length (set_in n b) = la ∙ sym (length-set_in n b) in
      set_in-is n (zip_with f a b) (zip_with g (set_in n a) (set_in n b)) (length-zip g (set_in n a) (set_in n b) same ∙ la)
      (λ i h. member-zip i ∙ ap₂ g (sym (holds-set_in n a i h)) (sym (holds-set_in n b i h))
      ∙ sym (zip-at g false (set_in n a) (set_in n b) i same (omega arith)))

module _ (a b : List ℕ) (e : length a ≡ length b) where
  pub member_union : (i : ℕ) → member (zip_with bit_or a b) i ≡ (member a i || member b i)
  member_union = member-zip bit_or ◌||◌ refl bit-or a b e

  pub set_in-union : (n : ℕ) → set_in n (zip_with bit_or a b) ≡ zip_with ◌||◌ (set_in n a) (set_in n b)
  set_in-union = set_in-zip bit_or ◌||◌ refl bit-or a b e

  pub member-less : (i : ℕ) → member (zip_with less_word a b) i ≡ less (member a i) (member b i)
  member-less = member-zip less_word less refl bit-less a b e

  pub set_in-less : (n : ℕ) → set_in n (zip_with less_word a b) ≡ zip_with less (set_in n a) (set_in n b)
  set_in-less = set_in-zip less_word less refl bit-less a b e

-- ---- no number from n on
every-numbers : (p : ℕ → Bool) (i n : ℕ) → every p (numbers i n) ≡ true → (k : ℕ) → i ≤ k → k < i + n → p k ≡ true
every-numbers p i zero e k l h = absurd (omega arith)
every-numbers p i (suc n) e k l h =
    let b = if-both (p i) (every p (numbers (i + 1) n)) e in
    same_cases k i (λ q. ap p q ∙ b.0) (λ d. every-numbers p (i + 1) n b.1 k (omega arith) (omega arith))

numbers-every : (p : ℕ → Bool) (i n : ℕ) → ((k : ℕ) → i ≤ k → k < i + n → p k ≡ true) → every p (numbers i n) ≡ true
numbers-every p i zero h = refl
numbers-every p i (suc n) h =
    rw (h i (omega arith) (omega arith)) (numbers-every p (i + 1) n (λ k l b. h k (omega arith) (omega arith)))

pub none_from_lem : (n : ℕ) (ws : List ℕ) → none_from n ws ≡ true → (i : ℕ) → n ≤ i → member ws i ≡ false
unfolding none_from
none_from_lem n ws e i h = below-cases i (32 * length ws)
    (λ l. not-true (member ws i) (every-numbers (λ i. not (member ws i)) n (32 * length ws - n) e i h (omega arith)))
    (member-past ws i)

pub from-none : (n : ℕ) (ws : List ℕ) → ((i : ℕ) → n ≤ i → i < 32 * length ws → member ws i ≡ false) → none_from n ws ≡ true
unfolding none_from
from-none n ws h = numbers-every (λ i. not (member ws i)) n (32 * length ws - n) (λ k l b. ap not (h k l (omega arith)))
