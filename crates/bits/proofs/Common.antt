-- The lowest number in two sets, and whether there is one.
--   Apart, Lowest            no number below n is in both; r is the lowest that is, or 32 for each word where there is none
--   lowest-is, lowest-only   lowest_common is such a number, and there is no other
--   both_meet, meet-both     two sets of a policy meet where some number is in both, and only there
--   meets-is                 meets is `meet` of the two sets, taken as far as one of them goes
--   meets-lowest             and is known from the lowest number
--   lowest-back, meets-some  lowest_in_both is the lowest number where there is one, and there is one where the sets meet
--   shared_at, last_at       the digits that word i of both has, and the lowest; apart-turn, lowest-found, lowest-none: the search by words
--   lowest-some, lowest-nowhere, meets-shared   the answers of a search by pairs of words, which are Parted or Sharing
-- Assumes nothing.
use mathlib.Core.Path.{◌≡◌, refl, sym, ap, ap₂, ◌∙◌}
use mathlib.Core.Bool.{Bool, true, false, ◌&&◌, false≢true}
use mathlib.Core.List.{List, [], ◌∷◌}
use Prim.Native.Nat.{ℕ, zero, suc, ◌+◌, ◌-◌, ◌*◌, ◌^◌, ◌<◌, ◌≤◌}
use native.Mathlib.Numerals.{add-one}
use native.Mathlib.Omega.{arith}
use borrow.Author.Tests.{ltb-true, lt-ltb, le-ltb}
use lib.Bits.{bit_and}
use lib.Count.{count_trailing_zeros}
use lib.Dec.{ltb}
use lib.ListN.{length, get_or}
use Rattle.std.specs.Prelude.{if◌then◌else◌, zip, Some, None, is_some}
use Rattle.std.specs.Bool.{MatchBool}
use Rattle.std.specs.List.{AllWithin, HoldsAt}
use Rattle.std.specs.Option.{unwrap_or}
use Rattle.std.proofs.lemmas.Slice.Zip.{length-zip, get_or-zip}
use Rattle.meaning.specs.Policy.{Set, holds, meet}
use Rattle.meaning.specs.Access.{bit_of}
use Rattle.meaning.proofs.Lists.{bool_cases, same_test, and_both, both-and, holds-below}
use Rattle.bits.specs.Bits.{member, set_in, common, first_from, lowest_common, lowest_in_both, meets}
use Rattle.bits.proofs.Digits.{below-cases, same_cases, bit-and, bit-none, lowest-digit}
use Rattle.bits.proofs.Members.{member-at, member_below, length-set_in, holds-set_in}

abbrev pub shared_at : List ℕ → List ℕ → ℕ → ℕ
shared_at a b i = bit_and (get_or a i 0) (get_or b i 0)

abbrev pub last_at : List ℕ → List ℕ → ℕ → ℕ
last_at a b i = count_trailing_zeros 32 (shared_at a b i)

pub record Apart (a b : List ℕ) (n : ℕ) : Type 0 where
  pub clear : (k : ℕ) → k < n → common a b k ≡ false

pub record Lowest (a b : List ℕ) (r : ℕ) : Type 0 where
  pub within : r ≤ 32 * length a
  pub found : r < 32 * length a → common a b r ≡ true
  pub below : Apart a b r

-- ---- the first number of which a test holds
module _ (p : ℕ → Bool) where
  first-here : (i n : ℕ) → p i ≡ true → first_from p i (suc n) ≡ i
  first-here i n e = rw e

  first_next : (i n : ℕ) → p i ≡ false → first_from p i (suc n) ≡ first_from p (i + 1) n
  first_next i n e = rw e

  first-only : (i n r : ℕ) → i ≤ r → r ≤ i + n → (r < i + n → p r ≡ true) → ((k : ℕ) → k < r → p k ≡ false)
      → first_from p i n ≡ r
  first-only i zero r l h t c = omega arith
  first-only i (suc n) r l h t c = same_cases i r
      (λ q. first-here i n (ap p q ∙ t (omega arith)) ∙ q)
      (λ d. first_next i n (c i (omega arith)) ∙ first-only (i + 1) n r (omega arith) (omega arith) (λ b. t (omega arith)) c)

  first-is : (i n : ℕ) → ((k : ℕ) → k < i → p k ≡ false)
      → (first_from p i n ≤ i + n) × (first_from p i n < i + n → p (first_from p i n) ≡ true)
      × ((k : ℕ) → k < first_from p i n → p k ≡ false)
  first-is i zero c = (omega arith, λ h. absurd (omega arith), c)
  first-is i (suc n) c = bool_cases (p i)
      (λ e. rw (first-here i n e) (omega arith, λ h. e, c))
      (λ e. let r = first-is (i + 1) n (λ k l. same_cases k i (λ q. ap p q ∙ e) (λ d. c k (omega arith))) in
      rw (first_next i n e) (omega arith, λ h. r.1 (omega arith), r.2))

pub lowest-is : (a b : List ℕ) → Lowest a b (lowest_common a b)
unfolding lowest_common
lowest-is a b =
    let r = first-is (common a b) 0 (32 * length a) (λ k h. absurd (omega arith)) in
    record { within = omega arith; found = λ h. r.1 (omega arith); below = record { clear = r.2 } }

pub lowest-only : (a b : List ℕ) (r : ℕ) → Lowest a b r → lowest_common a b ≡ r
unfolding lowest_common
lowest-only a b r h =
    first-only (common a b) 0 (32 * length a) r (omega arith) (omega (arith, h.within)) (λ l. h.found (omega arith)) h.below.clear

-- ---- sets that meet
meet-step : (p q : Bool) (x y : Set) → (meet x y ≡ true → (i : ℕ) × (holds x i ≡ true) × (holds y i ≡ true))
    → (if p && q then true else meet x y) ≡ true → (i : ℕ) × (holds (p ∷ x) i ≡ true) × (holds (q ∷ y) i ≡ true)
meet-step true true x y f e = (0, refl, refl)
meet-step true false x y f e = let r = f e in (suc r.0, r.1, r.2)
meet-step false q x y f e = let r = f e in (suc r.0, r.1, r.2)

pub meet-both : (x y : Set) → meet x y ≡ true → (i : ℕ) × (holds x i ≡ true) × (holds y i ≡ true)
unfolding meet
meet-both [] y e = absurd (false≢true e)
meet-both (p ∷ x) [] e = absurd (false≢true e)
meet-both (p ∷ x) (q ∷ y) e = meet-step p q x y (meet-both x y) e

past-test : (t r : Bool) → r ≡ true → (if t then true else r) ≡ true
past-test true r e = refl
past-test false r e = e

pub both_meet : (x y : Set) (i : ℕ) → holds x i ≡ true → holds y i ≡ true → meet x y ≡ true
unfolding meet
both_meet [] y i p q = absurd (false≢true p)
both_meet (a ∷ x) [] i p q = absurd (false≢true q)
both_meet (a ∷ x) (b ∷ y) zero p q = rw (p, q)
both_meet (a ∷ x) (b ∷ y) (suc i) p q = past-test (a && b) (meet x y) (both_meet x y i p q)

-- the two sets may be taken as far as one likes
common-meet : (n m : ℕ) (a b : List ℕ) (i : ℕ) → i < n → i < m → common a b i ≡ true → meet (set_in n a) (set_in m b) ≡ true
common-meet n m a b i h l e =
    let p = and_both (member a i) (member b i) e in
    both_meet (set_in n a) (set_in m b) i (holds-set_in n a i h ∙ p.0) (holds-set_in m b i l ∙ p.1)

holds-member : (n : ℕ) (ws : List ℕ) (i : ℕ) → holds (set_in n ws) i ≡ true → member ws i ≡ true
holds-member n ws i e =
    let l = holds-below (set_in n ws) i e in let s = length-set_in n ws in sym (holds-set_in n ws i (omega arith)) ∙ e

meet-common : (n m : ℕ) (a b : List ℕ) → meet (set_in n a) (set_in m b) ≡ true → (i : ℕ) × (common a b i ≡ true)
meet-common n m a b e =
    let r = meet-both (set_in n a) (set_in m b) e in
    (r.0, both-and (member a r.0) (member b r.0) (holds-member n a r.0 r.1) (holds-member m b r.0 r.2))

pub meets-both : (a b : List ℕ) → meets a b ≡ true → (i : ℕ) × (common a b i ≡ true)
unfolding meets
meets-both a b e = meet-common (32 * length a) (32 * length b) a b e

pub both-meets : (a b : List ℕ) (i : ℕ) → common a b i ≡ true → meets a b ≡ true
unfolding meets
both-meets a b i e =
    let p = and_both (member a i) (member b i) e in
    common-meet (32 * length a) (32 * length b) a b i (member_below a i p.0) (member_below b i p.1) e

pub meets-is : (n : ℕ) (a b : List ℕ) → ((i : ℕ) → n ≤ i → member a i ≡ false) → meets a b ≡ meet (set_in n a) (set_in n b)
meets-is n a b h = same_test (meets a b) (meet (set_in n a) (set_in n b))
    (λ e. let r = meets-both a b e in let l = in-range r.0 r.1 in common-meet n n a b r.0 l l r.1)
    (λ e. let r = meet-common n n a b e in both-meets a b r.0 r.1)
  where
    in-range : (i : ℕ) → common a b i ≡ true → i < n
    in-range i e = below-cases i n (λ l. l) (λ l. absurd (false≢true (sym (h i l) ∙ (and_both (member a i) (member b i) e).0)))

pub meets-lowest : (a b : List ℕ) → meets a b ≡ ltb (lowest_common a b) (32 * length a)
meets-lowest a b =
    let w = lowest-is a b in
    same_test (meets a b) (ltb (lowest_common a b) (32 * length a))
    (λ e. let r = meets-both a b e in
    let l = member_below a r.0 (and_both (member a r.0) (member b r.0) r.1).0 in
    below-cases r.0 (lowest_common a b)
    (λ g. absurd (false≢true (sym (w.below.clear r.0 g) ∙ r.1)))
    (λ g. lt-ltb (lowest_common a b) (32 * length a) (omega arith)))
    (λ e. both-meets a b (lowest_common a b) (w.found (ltb-true (lowest_common a b) (32 * length a) e)))

-- ---- the lowest number as an answer
pub lowest-back : (a b : List ℕ) → unwrap_or (lowest_in_both a b) (32 * length a) ≡ lowest_common a b
unfolding lowest_in_both
lowest-back a b =
    let w = lowest-is a b in let r = lowest_common a b in let n = 32 * length a in
    below-cases r n (λ l. rw (lt-ltb r n l)) (λ l. rw (le-ltb r n l) (omega (arith, w.within)))

pub meets-some : (a b : List ℕ) → meets a b ≡ is_some (lowest_in_both a b)
unfolding lowest_in_both
meets-some a b = meets-lowest a b ∙ bool_cases (ltb (lowest_common a b) (32 * length a)) (λ e. rw e) (λ e. rw e)

-- ---- the search, word by word
module _ (a b : List ℕ) where
  pub apart-start : Apart a b 0
  apart-start = record { clear = λ k h. absurd (omega arith) }

  -- number 32 * i + j is in both where bit j of word i of both is set
  module _ (i : ℕ) where
    common-at : (j : ℕ) → j < 32 → common a b (32 * i + j) ≡ bit_of (shared_at a b i) j
    common-at j h = ap₂ ◌&&◌ (member-at a i j h) (member-at b i j h) ∙ sym (bit-and (get_or a i 0) (get_or b i 0) j)

    apart_more : Apart a b (32 * i) → (t : ℕ) → t ≤ 32 → ((j : ℕ) → j < t → bit_of (shared_at a b i) j ≡ false)
        → Apart a b (32 * i + t)
    apart_more h t l f =
        record {
          clear = λ k m. below-cases k (32 * i) (h.clear k)
              (λ g. let e : 32 * i + (k - 32 * i) ≡ k = omega arith in
              ap (common a b) (sym e) ∙ common-at (k - 32 * i) (omega arith) ∙ f (k - 32 * i) (omega arith));
        }

    pub apart-turn : Apart a b (32 * i) → shared_at a b i ≡ 0 → Apart a b (32 * (i + 1))
    apart-turn h z =
        let e : 32 * i + 32 ≡ 32 * (i + 1) = omega arith in
        rw e at (apart_more h 32 (omega arith) (λ j l. ap (λ (w : ℕ). bit_of w j) z ∙ bit-none j))

    digit_at : shared_at a b i < 2 ^ 32 → (shared_at a b i ≡ 0 → ⊥) → (last_at a b i < 32) × (common a b (32 * i + last_at a b i) ≡ true)
        × ((j : ℕ) → j < last_at a b i → bit_of (shared_at a b i) j ≡ false)
    digit_at f n = let d = lowest-digit (shared_at a b i) f n in (d.0, common-at (last_at a b i) d.0 ∙ d.1, d.2)

    pub lowest-found : Apart a b (32 * i) → i < length a → shared_at a b i < 2 ^ 32 → (shared_at a b i ≡ 0 → ⊥)
        → 32 * i + count_trailing_zeros 32 (shared_at a b i) ≡ lowest_common a b
    lowest-found h l f n =
        let d = digit_at f n in
        sym (lowest-only a b (32 * i + last_at a b i) (record {
          within = omega arith;
          found = λ _. d.1;
          below = apart_more h (last_at a b i) (omega arith) d.2;
        }))

    pub lowest-none : Apart a b (32 * i) → i ≡ length a → 32 * i ≡ lowest_common a b
    lowest-none h e = sym (lowest-only a b (32 * i) (record { within = omega arith; found = λ l. absurd (omega arith); below = h }))

-- ---- the search by pairs of words, as far as the shorter set goes
abbrev pub Parted : ℕ × ℕ → Type 0
Parted p = bit_and p.0 p.1 ≡ 0

abbrev pub Sharing : ℕ × ℕ → Type 0
Sharing p = bit_and p.0 p.1 ≡ 0 → ⊥

module _ (a b : List ℕ) where
  pair-at : (i : ℕ) → i < length (zip a b) → get_or (zip a b) i (0, 0) ≡ (get_or a i 0, get_or b i 0)
  pair-at i l = let m = length-zip a b in get_or-zip a b i (0, 0) (omega arith) (omega arith)

  passed : (n : ℕ) → n ≤ length (zip a b) → AllWithin Parted (zip a b) 0 n → Apart a b (32 * n)
  passed zero l f = apart-start a b
  passed (suc n) l f =
      let z : shared_at a b n ≡ 0 = rw (pair-at n l) at (f n (0, 0) (omega arith) (omega arith)) in
      rw add-one at (apart-turn a b n (passed n (omega arith) (λ k d h g. f k d h (omega arith))) z)

  none_shared : AllWithin Parted (zip a b) 0 (length (zip a b)) → (k : ℕ) → common a b k ≡ false
  none_shared f k = bool_cases (common a b k)
      (λ e. let p = and_both (member a k) (member b k) e in
      let la = member_below a k p.0 in let lb = member_below b k p.1 in let m = length-zip a b in
      (passed (length (zip a b)) (omega arith) f).clear k (omega arith))
      (λ e. e)

  pub lowest-nowhere : AllWithin Parted (zip a b) 0 (length (zip a b)) → None ≡ lowest_in_both a b
  unfolding lowest_in_both
  lowest-nowhere f =
      let e = lowest-none a b (length a) (record { clear = λ k _. none_shared f k }) refl in
      rw (le-ltb (lowest_common a b) (32 * length a) (omega arith))

  module _ (i : ℕ) (l : i < length (zip a b)) (s : HoldsAt Sharing (zip a b) i) (w : shared_at a b i < 2 ^ 32) where
    digit-here : (last_at a b i < 32) × (common a b (32 * i + last_at a b i) ≡ true)
        × ((j : ℕ) → j < last_at a b i → bit_of (shared_at a b i) j ≡ false)
    digit-here = digit_at a b i w (rw (pair-at i l) at (s (0, 0)))

    pub lowest-some : AllWithin Parted (zip a b) 0 i → Some (32 * i + last_at a b i) ≡ lowest_in_both a b
    unfolding lowest_in_both
    lowest-some f =
        let m = length-zip a b in let t = digit-here.0 in
        let e = lowest-found a b i (passed i (omega arith) f) (omega arith) w (rw (pair-at i l) at (s (0, 0))) in
        rw (lt-ltb (lowest_common a b) (32 * length a) (omega arith)) (ap Some e)

  pub meets-shared : (r : Bool) → MatchBool r ((i : ℕ) × (i < length (zip a b)) × HoldsAt Sharing (zip a b) i)
      (AllWithin Parted (zip a b) 0 (length (zip a b))) → ((i : ℕ) → shared_at a b i < 2 ^ 32) → r ≡ meets a b
  meets-shared true (i, l, s) w = sym (both-meets a b (32 * i + last_at a b i) (digit-here i l s (w i)).1)
  meets-shared false f w = bool_cases (meets a b)
      (λ e. let r = meets-both a b e in absurd (false≢true (sym (none_shared f r.0) ∙ r.1))) sym
