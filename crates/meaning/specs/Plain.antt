-- Words on truth values, lists and places that the other pages use. Nothing here is about policies.
--
--   xor a b               just one of the two holds
--   within lo hi k        k is one of lo, lo + 1, .., hi
--   any p l, every p l    p holds of some element, of every element
--   keep p l              the elements of which p holds, in order
--   each f l              f of every element, in order
--   joined f l            the lists f x, one after the other
--   index_from p i l       the place, counted from i, of the first element of which p holds; i + the length where none is
--   up_to n                0, 1, .., n - 1
--   same_bytes x y         x and y read the same
--   Spot                  a place in the text, or none: `or_else` the first of two that is one, `earlier` the smaller
--   first_at f l           the first place that f gives on the list
use Rattle.std.specs.Prelude.{ℕ, zero, suc, ◌+◌, Bool, true, false, not, ◌&&◌, List, [], ◌∷◌, ◌++◌, eqb, leb, cond, if◌then◌else◌}

abbrev pub xor : Bool → Bool → Bool
xor true b = not b
xor false b = b

abbrev pub within : ℕ → ℕ → ℕ → Bool
within lo hi k = leb lo k && leb k hi

abbrev pub any {ℓ} : {A : Type ℓ} → (A → Bool) → List A → Bool
any p [] = false
any p (x ∷ xs) = let r = any p xs in if p x then true else r

abbrev pub every {ℓ} : {A : Type ℓ} → (A → Bool) → List A → Bool
every p [] = true
every p (x ∷ xs) = let r = every p xs in if p x then r else false

abbrev pub keep {ℓ} : {A : Type ℓ} → (A → Bool) → List A → List A
keep p [] = []
keep p (x ∷ xs) = cond (p x) (x ∷ keep p xs) (keep p xs)

abbrev pub each {ℓ κ} : {A : Type ℓ} {B : Type κ} → (A → B) → List A → List B
each f [] = []
each f (x ∷ xs) = f x ∷ each f xs

abbrev pub joined {ℓ κ} : {A : Type ℓ} {B : Type κ} → (A → List B) → List A → List B
joined f [] = []
joined f (x ∷ xs) = f x ++ joined f xs

abbrev pub index_from {ℓ} : {A : Type ℓ} → (A → Bool) → ℕ → List A → ℕ
index_from p i [] = i
index_from p i (x ∷ xs) = let r = index_from p (i + 1) xs in if p x then i else r

-- the n numbers from i on
abbrev pub numbers : ℕ → ℕ → List ℕ
numbers i zero = []
numbers i (suc n) = i ∷ numbers (i + 1) n

abbrev pub up_to : ℕ → List ℕ
up_to n = numbers 0 n

abbrev pub same_bytes : List ℕ → List ℕ → Bool
same_bytes [] [] = true
same_bytes [] (y ∷ ys) = false
same_bytes (x ∷ xs) [] = false
same_bytes (x ∷ xs) (y ∷ ys) = let r = same_bytes xs ys in if eqb x y then r else false

pub data Spot : Type 0 where
  nowhere : Spot
  at : ℕ → Spot

abbrev pub or_else : Spot → Spot → Spot
or_else nowhere b = b
or_else (at p) b = at p

abbrev pub first_at {ℓ} : {A : Type ℓ} → (A → Spot) → List A → Spot
first_at f [] = nowhere
first_at f (x ∷ xs) = let r = first_at f xs in or_else (f x) r

abbrev pub earlier : Spot → Spot → Spot
earlier nowhere b = b
earlier (at p) nowhere = at p
earlier (at p) (at q) = at (if leb p q then p else q)
