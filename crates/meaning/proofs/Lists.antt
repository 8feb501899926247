-- Laws on truth values and on the list words of Plain that several pages here use.
--   Among x l      x is an element of l; each word on lists has its law both ways (among-.. into the list, ..-among out of it)
--   at-among, among-at    an element is what stands at some number below the length
--   index-found, index_reads    what stands at the number that `index_from` finds
--   first-nowhere    of places: where `first_at` finds none, no element has one
-- Each is by induction on the list; a step on `if` is taken by cases on the test's value.
-- Assumes nothing.
use mathlib.Core.Path.{◌≡◌, refl, sym, ap, ◌∙◌, subst}
use mathlib.Core.Bool.{Bool, true, false, ◌&&◌, ◌||◌, false≢true}
use mathlib.Core.List.{List, [], ◌∷◌, ◌++◌}
use Prim.Native.Nat.{ℕ, zero, suc, ◌+◌, ◌≤◌, ◌<◌}
use native.Mathlib.Nat.{not-suc-le-zero, le_of_suc-le-suc}
use native.Mathlib.Omega.{arith}
use borrow.Author.Tests.{eqb-true, eqb-false, eq-eqb}
use lib.Dec.{eqb}
use lib.ListN.{length, get_or}
use Rattle.std.specs.Prelude.{if◌then◌else◌}
use Rattle.std.specs.Str.{bytes_eq}
use Rattle.meaning.specs.Plain.{any, keep, each, joined, index_from, numbers, up_to, same_bytes, Spot, nowhere, at, or_else, first_at}

-- ---- truth values
pub bool_cases : {P : Type 0} (b : Bool) → (b ≡ true → P) → (b ≡ false → P) → P
bool_cases true f g = f refl
bool_cases false f g = g refl

pub and_both : (a b : Bool) → (a && b) ≡ true → (a ≡ true) × (b ≡ true)
and_both true b e = (refl, e)
and_both false b e = absurd (false≢true e)

pub both-and : (a b : Bool) → a ≡ true → b ≡ true → (a && b) ≡ true
both-and a b p q = rw (p, q)

pub if-both : (b r : Bool) → (if b then r else false) ≡ true → (b ≡ true) × (r ≡ true)
if-both true r e = (refl, e)
if-both false r e = absurd (false≢true e)

pub or_cases : {P : Type 0} (a b : Bool) → (a || b) ≡ true → (a ≡ true → P) → (b ≡ true → P) → P
or_cases true b e f g = f refl
or_cases false b e f g = g e

pub either-right : (a b : Bool) → b ≡ true → (a || b) ≡ true
either-right true b e = refl
either-right false b e = e

pub or-neither : (a b : Bool) → (a || b) ≡ false → (a ≡ false) × (b ≡ false)
or-neither true b e = absurd (false≢true (sym e))
or-neither false b e = (refl, e)

-- two tests that each follow from the other are one
pub same_test : (a b : Bool) → (a ≡ true → b ≡ true) → (b ≡ true → a ≡ true) → a ≡ b
same_test true b f g = sym (f refl)
same_test false true f g = g refl
same_test false false f g = refl

-- ---- bytes
pub same_bytes_lem : (x y : List ℕ) → same_bytes x y ≡ true → x ≡ y
same_bytes_lem [] [] e = refl
same_bytes_lem [] (b ∷ y) e = absurd (false≢true e)
same_bytes_lem (a ∷ x) [] e = absurd (false≢true e)
same_bytes_lem (a ∷ x) (b ∷ y) e =
    let h = if-both (eqb a b) (same_bytes x y) e in
    λ i. eqb-true a b h.0 i ∷ same_bytes_lem x y h.1 i

pub bytes_same : (x : List ℕ) → same_bytes x x ≡ true
bytes_same [] = refl
bytes_same (a ∷ x) = rw (eq-eqb a a refl) (bytes_same x)

-- what `==` of two slices says
pub bytes_eq-same : (x y : List ℕ) → bytes_eq x y ≡ same_bytes x y
bytes_eq-same [] [] = refl
bytes_eq-same [] (b ∷ y) = refl
bytes_eq-same (a ∷ x) [] = refl
bytes_eq-same (a ∷ x) (b ∷ y) = rw (bytes_eq-same x y) (bool_cases (eqb a b) (λ t. rw t) (λ t. rw t))

-- ---- elements
pub data Among {A : Type 0} (a : A) : List A → Type 0 where
  here : {x : A} {xs : List A} → a ≡ x → Among a (x ∷ xs)
  there : {x : A} {xs : List A} → Among a xs → Among a (x ∷ xs)

pub none-among : {A P : Type 0} {a : A} → Among a [] → P
none-among m = elim m [ ]

pub if-among : {A : Type 0} {x : A} (b : Bool) (l : List A) → Among x (if b then l else []) → (b ≡ true) × Among x l
if-among true l m = (refl, m)
if-among false l m = none-among m

pub among-left : {A : Type 0} {a : A} {l : List A} (r : List A) → Among a l → Among a (l ++ r)
among-left r (here e) = here e
among-left r (there m) = there (among-left r m)

pub among-right : {A : Type 0} {a : A} (l : List A) {r : List A} → Among a r → Among a (l ++ r)
among-right [] m = m
among-right (x ∷ l) m = there (among-right l m)

pub append-among : {A P : Type 0} {a : A} (l : List A) {r : List A} → Among a (l ++ r) → (Among a l → P) → (Among a r → P) → P
append-among [] m f g = g m
append-among (x ∷ l) (here e) f g = f (here e)
append-among (x ∷ l) (there m) f g = append-among l m (λ k. f (there k)) g

-- ---- keep
keep-step : {A : Type 0} (p : A → Bool) (y : A) (l : List A) {x : A} (b : Bool) → p y ≡ b → (Among x (keep p l) → Among x l × (p x ≡ true))
    → Among x (if b then y ∷ keep p l else keep p l) → Among x (y ∷ l) × (p x ≡ true)
keep-step p y l true q f (here e) = (here e, ap p e ∙ q)
keep-step p y l true q f (there m) = (there (f m).0, (f m).1)
keep-step p y l false q f m = (there (f m).0, (f m).1)

pub keep-among : {A : Type 0} (p : A → Bool) (l : List A) {x : A} → Among x (keep p l) → Among x l × (p x ≡ true)
keep-among p [] m = none-among m
keep-among p (y ∷ l) m = keep-step p y l (p y) refl (keep-among p l) m

pub among-keep : {A : Type 0} (p : A → Bool) {x : A} {l : List A} → Among x l → p x ≡ true → Among x (keep p l)
among-keep p (here e) q = rw (sym (ap p e) ∙ q) (here e)
among-keep p (there {x = y} m) q = bool_cases (p y) (λ e. rw e (there (among-keep p m q))) (λ e. rw e (among-keep p m q))

-- ---- each, joined
pub among-each : {A B : Type 0} (f : A → B) {x : A} {l : List A} → Among x l → Among (f x) (each f l)
among-each f (here e) = here (ap f e)
among-each f (there m) = there (among-each f m)

pub each-among : {A B : Type 0} (f : A → B) (l : List A) {y : B} → Among y (each f l) → (x : A) × Among x l × (y ≡ f x)
each-among f [] m = none-among m
each-among f (x ∷ l) (here e) = (x, here refl, e)
each-among f (x ∷ l) (there m) = let r = each-among f l m in (r.0, there r.1, r.2)

pub among-joined : {A B : Type 0} (f : A → List B) {x : A} {l : List A} {y : B} → Among x l → Among y (f x) → Among y (joined f l)
among-joined f {y = y} (here {xs = l} e) k = among-left (joined f l) (subst (λ z. Among y (f z)) e k)
among-joined f (there {x = z} m) k = among-right (f z) (among-joined f m k)

pub joined-among : {A B : Type 0} (f : A → List B) (l : List A) {y : B} → Among y (joined f l) → (x : A) × Among x l × Among y (f x)
joined-among f [] m = none-among m
joined-among f (x ∷ l) m =
    append-among (f x) m (λ k. (x, here refl, k)) (λ k. let r = joined-among f l k in (r.0, there r.1, r.2))

-- ---- numbers
among-numbers : (i n k : ℕ) → i ≤ k → k < i + n → Among k (numbers i n)
among-numbers i zero k l h = absurd (omega arith)
among-numbers i (suc n) k l h = bool_cases (eqb k i) (λ e. here (eqb-true k i e))
    (λ e. let d : k ≡ i → ⊥ = eqb-false k i e in there (among-numbers (i + 1) n k (omega arith) (omega arith)))

pub numbers-among : (i n : ℕ) {k : ℕ} → Among k (numbers i n) → (i ≤ k) × (k < i + n)
numbers-among i zero m = none-among m
numbers-among i (suc n) (here e) = (omega arith, omega arith)
numbers-among i (suc n) (there m) = let r = numbers-among (i + 1) n m in (omega arith, omega arith)

pub among-up_to : (n k : ℕ) → k < n → Among k (up_to n)
among-up_to n k h = among-numbers 0 n k (omega arith) (omega arith)

pub up_to-among : (n : ℕ) {k : ℕ} → Among k (up_to n) → k < n
up_to-among n m = let r = numbers-among 0 n m in omega arith

-- ---- any
pub among-any : {A : Type 0} (p : A → Bool) {x : A} {l : List A} → Among x l → p x ≡ true → any p l ≡ true
among-any p (here e) q = rw (sym (ap p e) ∙ q)
among-any p (there {x = y} m) q = bool_cases (p y) (λ e. rw e) (λ e. rw e (among-any p m q))

pub any-among : {A : Type 0} (p : A → Bool) (l : List A) → any p l ≡ true → (x : A) × Among x l × (p x ≡ true)
any-among p [] e = absurd (false≢true e)
any-among p (y ∷ l) e =
    bool_cases (p y) (λ q. (y, here refl, q)) (λ q. let r = any-among p l (rw q at e) in (r.0, there r.1, r.2))

-- ---- what stands at a number
pub at-among : {A : Type 0} (l : List A) (i : ℕ) (d : A) → i < length l → Among (get_or l i d) l
at-among [] i d h = absurd (not-suc-le-zero h)
at-among (x ∷ l) zero d h = here refl
at-among (x ∷ l) (suc i) d h = there (at-among l i d (le_of_suc-le-suc h))

pub among-at : {A : Type 0} (d : A) {x : A} {l : List A} → Among x l → (i : ℕ) × (i < length l) × (get_or l i d ≡ x)
among-at d (here e) = (0, omega arith, sym e)
among-at d (there m) = let r = among-at d m in (suc r.0, omega arith, r.2)

pub length-each : {A B : Type 0} (f : A → B) (l : List A) → length (each f l) ≡ length l
length-each f [] = refl
length-each f (x ∷ l) = ap suc (length-each f l)

pub get_or-each : {A B : Type 0} (f : A → B) (l : List A) (i : ℕ) (d : A) (e : B) → i < length l → get_or (each f l) i e ≡ f (get_or l i d)
get_or-each f [] i d e h = absurd (not-suc-le-zero h)
get_or-each f (x ∷ l) zero d e h = refl
get_or-each f (x ∷ l) (suc i) d e h = get_or-each f l i d e (le_of_suc-le-suc h)

-- what a test tells from the default stands below the length; a set holds no number past its own
pub get_or-below : {A : Type 0} (p : A → Bool) (l : List A) (i : ℕ) (d : A) → p d ≡ false → p (get_or l i d) ≡ true → i < length l
get_or-below p [] i d n e = absurd (false≢true (sym n ∙ e))
get_or-below p (x ∷ l) zero d n e = omega arith
get_or-below p (x ∷ l) (suc i) d n e = let r = get_or-below p l i d n e in omega arith

pub holds-below : (l : List Bool) (i : ℕ) → get_or l i false ≡ true → i < length l
holds-below l i e = get_or-below (λ b. b) l i false refl e

-- ---- the first of which a test holds
pub index-found : {A : Type 0} (p : A → Bool) (l : List A) (d : A) (i : ℕ) → any p l ≡ true
    → (j : ℕ) × (j < length l) × (index_from p i l ≡ i + j) × (p (get_or l j d) ≡ true)
index-found p [] d i e = absurd (false≢true e)
index-found p (x ∷ l) d i e =
    bool_cases (p x) (λ q. (0, omega arith, rw q (omega arith), q))
    (λ q. let r = index-found p l d (i + 1) (rw q at e) in (suc r.0, omega arith, rw q (omega (arith, r.2)), r.3))

index-any : {A : Type 0} (p : A → Bool) (l : List A) (i : ℕ) → index_from p i l < i + length l → any p l ≡ true
index-any p [] i h = absurd (omega arith)
index-any p (x ∷ l) i h = bool_cases (p x) (λ q. rw q) (λ q. rw q (let k = rw q at h in index-any p l (i + 1) (omega arith)))

-- where a name is found it reads so
pub index_reads : {A : Type 0} (text : A → List ℕ) (k : List ℕ) (l : List A) (d : A) (m : ℕ) → index_from (λ a. same_bytes k (text a)) 0 l ≡ m → m < length l
    → text (get_or l m d) ≡ k
index_reads {A = A} text k l d m q h =
    let f : A → Bool = λ a. same_bytes k (text a) in
    let r = index-found f l d 0 (index-any f l 0 (omega arith)) in
    let e : m ≡ r.0 = omega (arith, r.2) in
    rw e (sym (same_bytes_lem k (text (get_or l r.0 d)) r.3))

-- ---- places
pub if-nowhere : (b : Bool) (p : ℕ) (r : Spot) → (if b then at p else r) ≡ nowhere → (b ≡ false) × (r ≡ nowhere)
if-nowhere true p r e = absurd (false≢true (cc))
if-nowhere false p r e = (refl, e)

else-nowhere : (x y : Spot) → or_else x y ≡ nowhere → (x ≡ nowhere) × (y ≡ nowhere)
else-nowhere nowhere y e = (refl, e)
else-nowhere (at p) y e = absurd (false≢true (cc))

-- what is nowhere along a list is nowhere at an element
pub first-nowhere : {A : Type 0} (f : A → Spot) {x : A} {l : List A} → first_at f l ≡ nowhere → Among x l → f x ≡ nowhere
first-nowhere f e (here {x = y} {xs = l} q) = ap f q ∙ (else-nowhere (f y) (first_at f l) e).0
first-nowhere f e (there {x = y} {xs = l} m) = first-nowhere f (else-nowhere (f y) (first_at f l) e).1 m
