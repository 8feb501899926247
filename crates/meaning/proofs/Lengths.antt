-- Laws on lengths, for lists that the words of Plain make, and on facts that hold of every element.
--   one_if b       1 where b holds, else 0
--   sum f l       the numbers f x over the list, added up: the length of what is joined or kept
--   All P l       P holds of every element of l
-- Each is by induction on the list; a step on `if` is taken by cases on the test's value.
-- Assumes nothing.
use mathlib.Core.Path.{◌≡◌, refl, ap}
use mathlib.Core.Bool.{Bool, true, false, ◌&&◌}
use mathlib.Core.List.{List, [], ◌∷◌, ◌++◌}
use Prim.Native.Nat.{ℕ, ◌+◌, ◌≤◌}
use native.Mathlib.Omega.{arith}
use lib.ListN.{length, length-append}
use Rattle.std.specs.Prelude.{if◌then◌else◌}
use Rattle.meaning.specs.Plain.{keep, each, joined}
use Rattle.meaning.proofs.Lists.{bool_cases}

-- ---- truth values
-- what holds of both holds of either, and the test may be used
pub if-all : {A : Type 0} (P : A → Type 0) (b : Bool) {x y : A} → (b ≡ true → P x) → (b ≡ false → P y) → P (if b then x else y)
if-all P true p q = p refl
if-all P false p q = q refl

-- ---- ones and sums
unfoldable pub one_if : Bool → ℕ
one_if b = if b then 1 else 0

pub one-le : (a b : Bool) → (a ≡ true → b ≡ true) → one_if a ≤ one_if b
unfolding one_if
one-le true b f = rw (f refl) (omega arith)
one-le false b f = omega arith

-- of two that each bring about a third not both hold
pub one-two : (a b c : Bool) → (a ≡ true → c ≡ true) → (b ≡ true → c ≡ true) → (a ≡ true → b ≡ false) → one_if a + one_if b ≤ one_if c
unfolding one_if
one-two true b c f g h = rw (h refl, f refl) (omega arith)
one-two false b c f g h = let o = one-le b c g in omega arith

unfoldable pub sum : {A : Type 0} → (A → ℕ) → List A → ℕ
sum f [] = 0
sum f (x ∷ l) = f x + sum f l

-- ---- every element
pub data All {A : Type 0} (P : A → Type 0) : List A → Type 0 where
  empty : All P []
  more : {x : A} {l : List A} → P x → All P l → All P (x ∷ l)

pub all_of : {A : Type 0} {P : A → Type 0} → ((x : A) → P x) → (l : List A) → All P l
all_of f [] = empty
all_of f (x ∷ l) = more (f x) (all_of f l)

pub all_map : {A : Type 0} {P Q : A → Type 0} {l : List A} → ((x : A) → P x → Q x) → All P l → All Q l
all_map f empty = empty
all_map f (more {x = x} h r) = more (f x h) (all_map f r)

pub all_both : {A : Type 0} {P Q : A → Type 0} (l : List A) → All P l → All Q l → All (λ x. P x × Q x) l
all_both [] h k = empty
all_both (x ∷ l) (more h r) (more k s) = more (h, k) (all_both l r s)

pub all_keep : {A : Type 0} {P Q : A → Type 0} (p : A → Bool) {l : List A} → ((x : A) → p x ≡ true → P x → Q x) → All P l → All Q (keep p l)
all_keep p f empty = empty
all_keep p f (more {x = x} h r) = bool_cases (p x) (λ e. rw e (more (f x e h) (all_keep p f r))) (λ e. rw e (all_keep p f r))

pub all-each : {A B : Type 0} {Q : B → Type 0} (f : A → B) {l : List A} → All (λ x. Q (f x)) l → All Q (each f l)
all-each f empty = empty
all-each f (more h r) = more h (all-each f r)

pub all_append : {A : Type 0} {P : A → Type 0} {s t : List A} → All P s → All P t → All P (s ++ t)
all_append empty k = k
all_append (more h r) k = more h (all_append r k)

pub all-joined : {A B : Type 0} {Q : B → Type 0} (f : A → List B) {l : List A} → All (λ x. All Q (f x)) l → All Q (joined f l)
all-joined f empty = empty
all-joined f (more h r) = all_append h (all-joined f r)

-- ---- lengths
-- one more is kept, where the tests hold of it
pub keep-if : {A : Type 0} (p : A → Bool) (b : Bool) (x : A) (l : List A)
    → length (keep p (if b then x ∷ l else l)) ≡ one_if (b && p x) + length (keep p l)
unfolding one_if
keep-if p true x l = bool_cases (p x) (λ e. rw e (omega arith)) (λ e. rw e (omega arith))
keep-if p false x l = omega arith

pub keep-le : {A : Type 0} (p q : A → Bool) → ((x : A) → p x ≡ true → q x ≡ true) → (l : List A) → length (keep p l) ≤ length (keep q l)
keep-le p q f [] = omega arith
keep-le p q f (x ∷ l) = let r = keep-le p q f l in let o = one-le (p x) (q x) (f x) in omega (arith, keep-if p true x l, keep-if q true x l)

-- what is kept, and what is joined, is no longer than a sum that bounds it element by element
pub keep-sum : {A : Type 0} (p : A → Bool) (f : A → ℕ) {l : List A} → All (λ x. one_if (p x) ≤ f x) l → length (keep p l) ≤ sum f l
unfolding sum
keep-sum p f empty = omega arith
keep-sum p f (more {x = x} {l = l} h r) = let i = keep-sum p f r in omega (arith, keep-if p true x l)

pub joined-sum : {A B : Type 0} (g : A → List B) (f : A → ℕ) {l : List A} → All (λ x. length (g x) ≤ f x) l → length (joined g l) ≤ sum f l
unfolding sum
joined-sum g f empty = omega arith
joined-sum g f (more {x = x} {l = l} h r) = let i = joined-sum g f r in omega (arith, length-append (g x) (joined g l))

pub joined-keep : {A B : Type 0} (f : A → List B) (p : A → Bool) (l : List A) → joined f (keep p l) ≡ joined (λ x. if p x then f x else []) l
joined-keep f p [] = refl
joined-keep f p (x ∷ l) = bool_cases (p x) (λ e. rw e (ap (λ r. f x ++ r) (joined-keep f p l))) (λ e. rw e (joined-keep f p l))

pub joined-each : {A B C : Type 0} (f : B → List C) (g : A → B) (l : List A) → joined f (each g l) ≡ joined (λ x. f (g x)) l
joined-each f g [] = refl
joined-each f g (x ∷ l) = ap (λ r. f (g x) ++ r) (joined-each f g l)

-- two tests of which not both hold, and a third that each brings about
pub keep_two : {A : Type 0} (p q r : A → Bool) → ((x : A) → p x ≡ true → r x ≡ true) → ((x : A) → q x ≡ true → r x ≡ true)
    → ((x : A) → p x ≡ true → q x ≡ false) → (l : List A) → length (keep p l) + length (keep q l) ≤ length (keep r l)
keep_two p q r f g h [] = omega arith
keep_two p q r f g h (x ∷ l) =
    let i = keep_two p q r f g h l in
    let o = one-two (p x) (q x) (r x) (f x) (g x) (h x) in
    omega (arith, keep-if p true x l, keep-if q true x l, keep-if r true x l)
