-- Lists in order: `Sorted R l` says that R holds of every element and each that stands behind it. The words of Plain keep order, and
-- lists joined in order are in order where R tells apart what they come from.
--   Below xs ys    xs stands before ys as words do in a dictionary, number by number
-- Assumes nothing.
use mathlib.Core.Path.{◌≡◌, refl, sym, subst}
use mathlib.Core.Bool.{Bool}
use mathlib.Core.List.{List, [], ◌∷◌, ◌++◌}
use Prim.Native.Nat.{ℕ, zero, suc, ◌+◌, ◌≤◌, ◌<◌}
use native.Mathlib.Omega.{arith}
use Rattle.meaning.specs.Plain.{keep, each, joined, numbers, up_to}
use Rattle.meaning.proofs.Lists.{Among, here, there, bool_cases, append-among, keep-among, each-among, joined-among, numbers-among}

abbrev pub Sorted : {A : Type 0} → (A → A → Type 0) → List A → Type 0
Sorted R [] = Unit {0}
Sorted R (x ∷ l) = ((y : _) → Among y l → R x y) × Sorted R l

pub sorted-keep : {A : Type 0} (R : A → A → Type 0) (p : A → Bool) (l : List A) → Sorted R l → Sorted R (keep p l)
sorted-keep R p [] r = tt
sorted-keep R p (x ∷ l) r =
    bool_cases (p x) (λ e. rw (e, Sorted) (λ y m. r.0 y (keep-among p l m).0, sorted-keep R p l r.1))
    (λ e. rw (e, Sorted) (sorted-keep R p l r.1))

sorted-append : {A : Type 0} (R : A → A → Type 0) (l k : List A) → Sorted R l → Sorted R k → ((x y : A) → Among x l → Among y k → R x y)
    → Sorted R (l ++ k)
sorted-append R [] k r q h = q
sorted-append R (x ∷ l) k r q h =
    (λ y m. append-among l m (r.0 y) (h x y (here refl)), sorted-append R l k r.1 q (λ a b m. h a b (there m)))

pub sorted-each : {A B : Type 0} (R : A → A → Type 0) (S : B → B → Type 0) (f : A → B) → ((x y : A) → R x y → S (f x) (f y))
    → (l : List A) → Sorted R l → Sorted S (each f l)
sorted-each R S f h [] r = tt
sorted-each R S f h (x ∷ l) r =
    (λ y m. let k = each-among f l m in subst (S (f x)) (sym k.2) (h x k.0 (r.0 k.0 k.1)), sorted-each R S f h l r.1)

pub sorted-joined : {A B : Type 0} (R : A → A → Type 0) (S : B → B → Type 0) (f : A → List B)
    → ((x y : A) → R x y → (u v : B) → Among u (f x) → Among v (f y) → S u v) → ((x : A) → Sorted S (f x))
    → (l : List A) → Sorted R l → Sorted S (joined f l)
sorted-joined R S f h g [] r = tt
sorted-joined R S f h g (x ∷ l) r =
    sorted-append S (f x) (joined f l) (g x) (sorted-joined R S f h g l r.1)
    (λ u v m k. let j = joined-among f l k in h x j.0 (r.0 j.0 j.1) u v m j.2)

sorted-numbers : (i n : ℕ) → Sorted ◌<◌ (numbers i n)
sorted-numbers i zero = tt
sorted-numbers i (suc n) = (λ y m. let r = numbers-among (i + 1) n m in omega arith, sorted-numbers (i + 1) n)

pub sorted-up_to : (n : ℕ) → Sorted ◌<◌ (up_to n)
sorted-up_to n = sorted-numbers 0 n

-- ---- the order of a dictionary: the first number that differs decides
abbrev pub Below : List ℕ → List ℕ → Type 0
Below [] ys = ⊥
Below (x ∷ xs) [] = ⊥
Below (x ∷ xs) (y ∷ ys) = (x ≤ y) × (x ≡ y → Below xs ys)

-- one step of it: equal numbers in front change nothing, a smaller one decides
pub below-behind : {P : Type 0} (x : ℕ) → P → (x ≤ x) × (x ≡ x → P)
below-behind x h = (omega arith, λ e. h)

pub below-first : {P : Type 0} (x y : ℕ) → x < y → (x ≤ y) × (x ≡ y → P)
below-first x y h = (omega arith, λ e. absurd (omega arith))
