-- The parents of a type come to an end.
--   Grounded f x d    x has d ancestors by the parents f, and the last has no parent; there is one such d (`one-height`)
--   height-below      d is below n where x and all parents are
--   bounds-end        where the bounds hold no refusal 8, each number is grounded
--   parents-end       so is each type of a text with no earlier refusal, with fewer ancestors than there are types
--   asks-all          the count of parents left is never what stops the question
--   no-parent, has-parent, parent-asked    what the question comes to
-- The bounds are gone through in text order. One more leaves a chain as it is that does not come to its child, as its parent's does
-- not: `comes_to` follows n parents, and a chain of numbers below n is shorter (Pigeons). Any other chain now goes on from the child
-- to the parent, and ends. Those gone through stand last first; the bounds of one child agree, so their order does not matter.
-- Assumes nothing.
use Prim.Native.Nat.{ℕ, zero, suc, ◌+◌, ◌≤◌, ◌<◌}
use native.Mathlib.Nat.{not-suc-le-zero}
use native.Mathlib.Omega.{arith}
use mathlib.Core.Path.{◌≡◌, refl, sym, ap, ◌∙◌, subst}
use mathlib.Core.Bool.{Bool, true, false, ◌&&◌, false≢true}
use mathlib.Core.List.{List, [], ◌∷◌, ◌++◌, append-nil}
use lib.Dec.{eqb, ltb}
use lib.ListN.{get_or, length}
use borrow.Author.Tests.{eqb-true, eqb-false, eq-eqb, ne_eqb, ltb-true, ltb-false, not-false}
use Rattle.std.specs.Prelude.{if◌then◌else◌}
use Rattle.meaning.specs.Plain.{nowhere}
use Rattle.meaning.specs.Statements.{Item, Statement}
use Rattle.meaning.specs.Permissions.{Name}
use Rattle.meaning.specs.Sets.{Names, names_of}
use Rattle.meaning.specs.Policy.{Parent, no_parent, parent, TypeEntry, Policy}
use Rattle.meaning.specs.Rules.{Bound, bounds_of, parent_in, type_entries, types_in, policy_of}
use Rattle.meaning.specs.Contradictions.{first_against, comes_to, other_parent, bound_clash}
use Rattle.meaning.specs.Contexts.{Context, type_at}
use Rattle.meaning.specs.Access.{own_allows, with_type, allows}
use Rattle.meaning.proofs.Lists.{bool_cases, Among, here, there}
use Rattle.meaning.proofs.Accepted.{statements_in, names_in, policy_in, NoEarlier}
use Rattle.meaning.proofs.Listed.{types-counted}
use Rattle.meaning.proofs.Agreed.{parts-agree, clear_step}
use Rattle.meaning.proofs.Pigeons.{pigeons}

-- ---- a chain of parents that ends
pub data Grounded (f : ℕ → Parent) : ℕ → ℕ → Type 0 where
  top : {x : ℕ} → f x ≡ no_parent → Grounded f x 0
  under : {x y d : ℕ} → f x ≡ parent y → Grounded f y d → Grounded f x (suc d)

not-both : {p : Parent} {y : ℕ} → p ≡ no_parent → p ≡ parent y → ⊥
not-both e q = false≢true (cc)

one_parent : {p : Parent} {y z : ℕ} → p ≡ parent y → p ≡ parent z → y ≡ z
one_parent e q = cc

-- A number has one height.
pub one-height : {f : ℕ → Parent} {x d e : ℕ} → Grounded f x d → Grounded f x e → d ≡ e
one-height (top p) (top q) = refl
one-height (top p) (under q h) = absurd (not-both p q)
one-height (under p g) (top q) = absurd (not-both q p)
one-height {f = f} (under p g) (under {d = e} q h) = ap suc (one-height g (subst (λ y. Grounded f y e) (one_parent q p) h))

-- it is one by other parents too that are the same where the chain comes
like : {f g : ℕ → Parent} (P : ℕ → Type 0) → ((y z : ℕ) → P y → f y ≡ parent z → P z) → ((y : ℕ) → P y → g y ≡ f y)
    → {x d : ℕ} → Grounded f x d → P x → Grounded g x d
like P up same (top {x = x} p) h = top (same x h ∙ p)
like P up same (under {x = x} {y = y} p g) h = under (same x h ∙ p) (like P up same g (up x y h p))

-- ---- its height
-- no parent is n or more
abbrev pub Below : ℕ → (ℕ → Parent) → Type 0
Below n f = (y z : ℕ) → f y ≡ parent z → z < n

-- the ancestor that is i parents up, or the last
upper : (ℕ → Parent) → ℕ → ℕ → ℕ
upper f zero x = x
upper f (suc i) x = elim (f x) [ no_parent ↦ x | parent y ↦ upper f i y ]

upper-below : (f : ℕ → Parent) (n : ℕ) → Below n f → (i x : ℕ) → x < n → upper f i x < n
unfolding upper
upper-below f n w zero x l = l
upper-below f n w (suc i) x l = go (f x) refl (upper-below f n w i)
  where
    go : (p : Parent) → f x ≡ p → ((y : ℕ) → y < n → upper f i y < n) → (elim p as (λ q. ℕ) [ no_parent ↦ x | parent y ↦ upper f i y ]) < n
    go no_parent e r = l
    go (parent y) e r = r y (w x y e)

upper-height : {f : ℕ → Parent} {x d : ℕ} → Grounded f x d → (i : ℕ) → i ≤ d → (e : ℕ) × (e + i ≡ d) × Grounded f (upper f i x) e
unfolding upper
upper-height (top p) zero l = (0, omega arith, top p)
upper-height (top p) (suc i) l = absurd (not-suc-le-zero l)
upper-height (under {d = d} p g) zero l = (suc d, omega arith, under p g)
upper-height (under p g) (suc i) l = let r = upper-height g i (omega arith) in (r.0, omega arith, rw (p, upper) r.2)

-- Where a number and all parents are below n, so is its height.
pub height-below : {f : ℕ → Parent} (n : ℕ) → Below n f → {x d : ℕ} → Grounded f x d → x < n → d < n
height-below {f = f} n w {x = x} {d = d} g l = bool_cases (ltb d n) (ltb-true d n) (λ e. absurd (long (ltb-false d n e)))
  where
    apart : n ≤ d → (i j : ℕ) → i ≤ n → j ≤ n → upper f i x ≡ upper f j x → i ≡ j
    apart h i j k m q =
        let a = upper-height g i (omega arith) in
        let b = upper-height g j (omega arith) in
        let s : a.0 ≡ b.0 = one-height a.2 (subst (λ y. Grounded f y b.0) (sym q) b.2) in
        omega arith

    long : n ≤ d → ⊥
    long h = pigeons n (λ i. upper f i x) (λ i k. upper-below f n w i x l) (apart h)

-- ---- one bound more
same_or : {P : Type 0} (a b : ℕ) → (a ≡ b → P) → ((a ≡ b → ⊥) → P) → P
same_or a b f g = bool_cases (eqb a b) (λ t. f (eqb-true a b t)) (λ t. g (eqb-false a b t))

own-child : (b : Bound) (bs : List Bound) (x : ℕ) → b.child ≡ x → parent_in (b ∷ bs) x ≡ parent b.parent
unfolding parent_in
own-child b bs x e = rw (eq-eqb b.child x e)

other-child : (b : Bound) (bs : List Bound) (x : ℕ) → (b.child ≡ x → ⊥) → parent_in (b ∷ bs) x ≡ parent_in bs x
unfolding parent_in
other-child b bs x h = rw (ne_eqb b.child x h)

below_more : (n : ℕ) (b : Bound) (bs : List Bound) → b.parent < n → Below n (parent_in bs) → Below n (parent_in (b ∷ bs))
below_more n b bs l w y z e = same_or b.child y
    (λ q. let r = one_parent e (own-child b bs y q) in omega arith)
    (λ h. w y z (sym (other-child b bs y h) ∙ e))

-- a chain that does not come to the child stays as it is
unmet : (bs : List Bound) (c k x : ℕ) → comes_to bs c k x ≡ false → c ≡ x → ⊥
unfolding comes_to
unmet bs c zero x e q = false≢true (sym (rw (eq-eqb x c (sym q)) at e))
unmet bs c (suc k) x e q = false≢true (sym (rw (eq-eqb x c (sym q)) at e))

unmet-up : (bs : List Bound) (c k x y : ℕ) → comes_to bs c (suc k) x ≡ false → parent_in bs x ≡ parent y → comes_to bs c k y ≡ false
unfolding comes_to
unmet-up bs c k x y e p = rw (p, ne_eqb x c (λ q. unmet bs c (suc k) x e (sym q))) at e

stays : (b : Bound) (bs : List Bound) {x d : ℕ} → Grounded (parent_in bs) x d → (k : ℕ) → d ≤ k → comes_to bs b.child k x ≡ false
    → Grounded (parent_in (b ∷ bs)) x d
stays b bs (top {x = x} p) k l e = top (other-child b bs x (unmet bs b.child k x e) ∙ p)
stays b bs (under p h) zero l e = absurd (not-suc-le-zero l)
stays b bs (under {x = x} {y = y} p h) (suc k) l e =
    under (other-child b bs x (unmet bs b.child (suc k) x e) ∙ p) (stays b bs h k (omega arith) (unmet-up bs b.child k x y e p))

-- any other goes on from the child to the parent
module _ (b : Bound) (bs : List Bound) {c : ℕ} (g : Grounded (parent_in (b ∷ bs)) b.parent c) where
  by-child : (x : ℕ) → ((b.child ≡ x → ⊥) → (d : ℕ) × Grounded (parent_in (b ∷ bs)) x d) → (d : ℕ) × Grounded (parent_in (b ∷ bs)) x d
  by-child x r = same_or b.child x (λ q. (suc c, under (own-child b bs x q) g)) r

  goes_on_lem : {x d : ℕ} → Grounded (parent_in bs) x d → (e : ℕ) × Grounded (parent_in (b ∷ bs)) x e
  goes_on_lem (top {x = x} p) = by-child x (λ h. (0, top (other-child b bs x h ∙ p)))
  goes_on_lem (under {x = x} p k) = let r = goes_on_lem k in by-child x (λ h. (suc r.0, under (other-child b bs x h ∙ p) r.1))

-- so all end
abbrev Ends : (ℕ → Parent) → Type 0
Ends f = (x : ℕ) → (d : ℕ) × Grounded f x d

neither : (a b : Bool) → (if a then true else b) ≡ false → (a ≡ false) × (b ≡ false)
neither true b e = absurd (false≢true (sym e))
neither false b e = (refl, e)

module _ (n : ℕ) (b : Bound) (bs : List Bound) (e : bound_clash n bs b ≡ false) where
  no_other : (p : ℕ) → parent_in bs b.child ≡ parent p → p ≡ b.parent
  unfolding bound_clash other_parent
  no_other p q = eqb-true p b.parent (not-false _ (rw (q, other_parent) at (neither (other_parent b (parent_in bs b.child)) _ e).0))

  no-cycle : comes_to bs b.child n b.parent ≡ false
  unfolding bound_clash
  no-cycle = (neither (other_parent b (parent_in bs b.child)) _ e).1

  one_more : b.parent < n → Below n (parent_in bs) → Ends (parent_in bs) → Ends (parent_in (b ∷ bs))
  one_more l w g x =
      let r = g b.parent in
      let h : r.0 < n = height-below n w r.1 l in
      goes_on_lem b bs (stays b bs r.1 n (omega arith) no-cycle) (g x).1

-- ---- all the bounds
-- the parents of the bounds are below n; nothing is asked of the children
abbrev pub BoundsBelow : ℕ → List Bound → Type 0
BoundsBelow n bs = (b : Bound) → Among b bs → b.parent < n

below_all : (n : ℕ) (bs : List Bound) → BoundsBelow n bs → Below n (parent_in bs)
unfolding parent_in
below_all n [] l y z e = absurd (not-both refl e)
below_all n (b ∷ bs) l y z e = below_more n b bs (l b (here refl)) (below_all n bs (λ a m. l a (there m))) y z e

-- a bound further behind is nothing to a number that is not its child
further : (b : Bound) (l r : List Bound) (x : ℕ) → (b.child ≡ x → ⊥) → parent_in (l ++ (b ∷ r)) x ≡ parent_in (l ++ r) x
unfolding parent_in
further b [] r x h = other-child b r x h
further b (a ∷ l) r x h = ap (λ p. if eqb a.child x then parent a.parent else p) (further b l r x h)

module _ (n : ℕ) (place : Bound → ℕ) where
  -- a parent once given stays
  given_stays : (before bs : List Bound) → first_against (bound_clash n) place before bs ≡ nowhere → (x p : ℕ) → parent_in before x ≡ parent p
      → parent_in (bs ++ before) x ≡ parent p
  given_stays before [] e x p q = q
  given_stays before (b ∷ bs) e x p q =
      let c = clear_step (bound_clash n) place before b bs e in
      same_or b.child x
      (λ s. own-child b (bs ++ before) x s ∙ ap parent (sym (no_other n b before c.0 p (ap (parent_in before) s ∙ q))))
      (λ h.
      other-child b (bs ++ before) x h ∙ sym (further b bs before x h)
      ∙ given_stays (b ∷ before) bs c.1 x p (other-child b before x h ∙ q))

  -- so it does not matter where a bound stands
  in-front : (before : List Bound) (b : Bound) (bs : List Bound) → first_against (bound_clash n) place (b ∷ before) bs ≡ nowhere
      → (x : ℕ) → parent_in (b ∷ (bs ++ before)) x ≡ parent_in (bs ++ (b ∷ before)) x
  in-front before b bs e x = same_or b.child x
      (λ q. own-child b (bs ++ before) x q ∙ sym (given_stays (b ∷ before) bs e x b.parent (own-child b before x q)))
      (λ h. other-child b (bs ++ before) x h ∙ sym (further b bs before x h))

  go-through : (before bs : List Bound) → first_against (bound_clash n) place before bs ≡ nowhere → BoundsBelow n bs
      → Below n (parent_in before) → Ends (parent_in before) → Ends (parent_in (bs ++ before))
  go-through before [] e l w g x = g x
  go-through before (b ∷ bs) e l w g x =
      let c = clear_step (bound_clash n) place before b bs e in
      let k = l b (here refl) in
      let r = go-through (b ∷ before) bs c.1 (λ a m. l a (there m)) (below_more n b before k w) (one_more n b before c.0 k w g) x in
      (r.0, like (λ y. Unit {0}) (λ y z h q. tt) (λ y h. in-front before b bs c.1 y) r.1 tt)

-- Where the bounds hold no refusal 8 and their parents are below n, each number is grounded, and one below n at a height below n.
pub bounds-end : (n : ℕ) (place : Bound → ℕ) (bs : List Bound) → first_against (bound_clash n) place [] bs ≡ nowhere → BoundsBelow n bs
    → (x : ℕ) → (d : ℕ) × Grounded (parent_in bs) x d × (x < n → d < n)
unfolding parent_in
bounds-end n place bs e l x =
    let r = go-through n place [] bs e l (λ y z q. absurd (not-both refl q)) (λ y. (0, top refl)) x in
    let g : Grounded (parent_in bs) x r.0 = rw append-nil at r.1 in
    (r.0, g, height-below n (below_all n bs l) g)

-- ---- the types of a policy
abbrev pub parent_of : Policy → ℕ → Parent
parent_of p x = (type_at p x).parent

entry-parent : (n : Names) (bs : List Bound) (perm : List Item) (i : ℕ) (xs : List Name) (k : ℕ) (d : TypeEntry) (y : ℕ) → y ≡ i + k
    → k < length xs → (get_or (type_entries n bs perm i xs) k d).parent ≡ parent_in bs y
unfolding type_entries
entry-parent n bs perm i [] k d y e l = absurd (not-suc-le-zero l)
entry-parent n bs perm i (x ∷ xs) zero d y e l = ap (parent_in bs) (omega arith)
entry-parent n bs perm i (x ∷ xs) (suc k) d y e l = entry-parent n bs perm (i + 1) xs k d y (omega arith) (omega arith)

-- A type's parent is the one that the bounds give it.
pub parent_is : (ss : List Statement) (x : ℕ) → x < length (names_of ss).types
    → parent_of (policy_of (names_of ss) ss) x ≡ parent_in (bounds_of (names_of ss) ss) x
unfolding policy_of types_in type_at
parent_is ss x l = entry-parent (names_of ss) _ _ 0 (names_of ss).types x _ x (omega arith) l

-- Each type of a text with no earlier refusal is grounded, with fewer ancestors than there are types.
pub parents-end : (s : List ℕ) → NoEarlier s → (in-range : BoundsBelow (length (names_in s).types) (bounds_of (names_in s) (statements_in s)))
    → (x : ℕ) → x < length (policy_in s).types → (d : ℕ) × Grounded (parent_of (policy_in s)) x d × (d < length (policy_in s).types)
parents-end s c in-range x l =
    let n = names_in s in
    let ss = statements_in s in
    let k = length n.types in
    let m = types-counted ss in
    let h : x < k = omega arith in
    let r = bounds-end k (λ b. b.at) (bounds_of n ss) (parts-agree n ss (policy_in s) c.agrees).2 in-range x in
    let small = r.2 h in
    let g = like (λ y. y < k) (λ y z q. below_all k (bounds_of n ss) in-range y z) (parent_is ss) r.1 h in
    (r.0, g, omega arith)

-- ---- the question asked again
-- With no parent the source's own type decides.
pub no-parent : (p : Policy) (k : ℕ) (s t : Context) (c i : ℕ) → parent_of p s.type ≡ no_parent → allows p k s t c i ≡ own_allows p s t c i
unfolding allows
no-parent p zero s t c i e = refl
no-parent p (suc k) s t c i e = rw e (bool_cases (own_allows p s t c i) (λ q. rw q) (λ q. rw q))

-- With a parent both must allow it.
pub has-parent : (p : Policy) (k : ℕ) (s t : Context) (c i y : ℕ) → parent_of p s.type ≡ parent y
    → allows p (suc k) s t c i ≡ (own_allows p s t c i && allows p k (with_type s y) t c i)
unfolding allows
has-parent p k s t c i y e = rw e (bool_cases (own_allows p s t c i) (λ q. rw q) (λ q. rw q))

asks-from : (p : Policy) (t : Context) (c i : ℕ) {x d : ℕ} → Grounded (parent_of p) x d → (k m : ℕ) → d ≤ k → d ≤ m
    → (s : Context) → s.type ≡ x → allows p k s t c i ≡ allows p m s t c i
unfolding with_type
asks-from p t c i (top q) k m l h s e =
    let q' = ap (parent_of p) e ∙ q in no-parent p k s t c i q' ∙ sym (no-parent p m s t c i q')
asks-from p t c i (under q g) zero m l h s e = absurd (not-suc-le-zero l)
asks-from p t c i (under q g) (suc k) zero l h s e = absurd (not-suc-le-zero h)
asks-from p t c i (under {y = y} q g) (suc k) (suc m) l h s e =
    let q' = ap (parent_of p) e ∙ q in
    has-parent p k s t c i y q'
    ∙ ap (λ r. own_allows p s t c i && r) (asks-from p t c i g k m (omega arith) (omega arith) (with_type s y) refl)
    ∙ sym (has-parent p m s t c i y q')

-- The count of parents left is never what stops the question: any count from the height on gives the same.
pub asks-all : (p : Policy) (s t : Context) (c i : ℕ) {d : ℕ} → Grounded (parent_of p) s.type d → (k m : ℕ) → d ≤ k → d ≤ m
    → allows p k s t c i ≡ allows p m s t c i
asks-all p s t c i g k m l h = asks-from p t c i g k m l h s refl

-- So, of a text, a source whose type has a parent is allowed what its own type is and what the question asked again with the parent is.
pub parent-asked : (s : List ℕ) → NoEarlier s → (in-range : BoundsBelow (length (names_in s).types) (bounds_of (names_in s) (statements_in s)))
    → (a t : Context) (c i y : ℕ) → a.type < length (policy_in s).types → parent_of (policy_in s) a.type ≡ parent y
    → let p = policy_in s in allows p (length p.types) a t c i ≡ (own_allows p a t c i && allows p (length p.types) (with_type a y) t c i)
parent-asked s e in-range a t c i y l q =
    let p = policy_in s in
    let n = length p.types in
    let r = parents-end s e in-range a.type l in
    let small = r.2 in
    asks-all p a t c i r.1 n (suc n) (omega arith) (omega arith) ∙ has-parent p n a t c i y q
