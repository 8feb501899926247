-- Sizes by form and position: what is made of the items at a position that counts (`at-within`, `kept-within`), the statements of
-- forms that count (`forms-within`), the names of a statement that has one (`first-within`); and from these the names of each kind,
-- as they are declared (`names-within`, `single-within`). Each is the statement's share, and the shares are within the limit.
-- Assumes nothing.
use mathlib.Core.Path.{◌≡◌, refl, ap, ◌∙◌}
use mathlib.Core.Bool.{Bool, true, false}
use mathlib.Core.List.{List, []}
use Prim.Native.Nat.{ℕ, ◌+◌, ◌≤◌, ◌<◌}
use native.Mathlib.Omega.{arith}
use borrow.Author.Tests.{eqb-true, eq-eqb}
use lib.Dec.{eqb}
use lib.ListN.{length}
use Rattle.std.specs.Prelude.{if◌then◌else◌}
use Rattle.meaning.specs.Plain.{keep, each, joined}
use Rattle.meaning.specs.Statements.{outside, Statement, Gathered, part, names_at, of_form, p_first}
use Rattle.meaning.specs.Sizes.{name_count, no_counts, c_none}
use Rattle.meaning.specs.Keywords.{k_name}
use Rattle.meaning.specs.Names.{object_r, declared_by, declared, d_role}
use Rattle.meaning.specs.Permissions.{item_name}
use Rattle.meaning.specs.Sets.{name_of}
use Rattle.meaning.proofs.Lists.{and_both, length-each}
use Rattle.meaning.proofs.Lengths.{one_if, one-le, all_of, all_map, keep-if, keep-le, keep-sum, joined-sum, joined-keep}
use Rattle.meaning.proofs.Declared.{first_names, AtFirst}
use Rattle.meaning.proofs.Passed.{Passed}
use Rattle.meaning.proofs.Single.{single, all-single}
use Rattle.meaning.proofs.Counted.{limit, counts, whole_count, share, shares-within}

-- a statement's items at a position that counts for j
part-le : (j q : ℕ) (s : Statement) → name_count s.form q ≡ j → length (part q s) ≤ length (keep (counts j s.form) s.items)
unfolding part counts
part-le j q s h = keep-le (λ i. eqb i.pos q) (counts j s.form) (λ i e. rw (eqb-true i.pos q e) (eq-eqb _ j h)) s.items

pub names-le : (q : ℕ) (s : Statement) → length (names_at q s) ≤ length (part q s)
unfolding part names_at
names-le q s = keep-le _ _ (λ i e. (and_both (eqb i.pos q) (eqb i.kind k_name) e).0) s.items

if-le : {B : Type 0} (b : Bool) (x : List B) (n : ℕ) → (b ≡ true → length x ≤ n) → length (if b then x else []) ≤ n
if-le true x n h = h refl
if-le false x n h = omega arith

module _ {g : Gathered} (p : Passed outside no_counts g) (j : ℕ) (some : j < c_none) where
  -- what is made of the statements of some forms, an element for each item at a position that counts for j
  pub at-within : {B : Type 0} (K : ℕ → Bool) (q : ℕ) (f : Statement → List B) → ((k : ℕ) → K k ≡ true → name_count k q ≡ j)
      → ((s : Statement) → K s.form ≡ true → length (f s) ≤ length (part q s))
      → length (joined (λ s. if K s.form then f s else []) g.rest) ≤ limit j
  unfolding share
  at-within K q f n h =
      let t = shares-within j some p in
      let u = joined-sum (λ s. if K s.form then f s else []) (share j) (all_of (λ s. if-le (K s.form) (f s) _
      (λ e. let a = h s e in let b = part-le j q s (n s.form e) in omega arith)) g.rest) in
      omega arith

  pub kept-within : {B : Type 0} (K : ℕ → Bool) (q : ℕ) (f : Statement → List B) → ((k : ℕ) → K k ≡ true → name_count k q ≡ j)
      → ((s : Statement) → K s.form ≡ true → length (f s) ≤ length (part q s))
      → length (joined f (keep (λ s. K s.form) g.rest)) ≤ limit j
  kept-within K q f n h = rw (joined-keep f (λ s. K s.form) g.rest) (at-within K q f n h)

  -- statements of some forms that count for j
  pub forms-within : (K : ℕ → Bool) → ((k : ℕ) → K k ≡ true → whole_count k ≡ j) → length (keep (λ s. K s.form) g.rest) ≤ limit j
  unfolding share
  forms-within K n =
      let t = shares-within j some p in
      let u = keep-sum (λ s. K s.form) (share j)
      (all_of (λ s. let o = one-le (K s.form) _ (λ e. eq-eqb _ j (n s.form e)) in omega arith) g.rest) in
      omega arith

  -- names at the first position, where a statement of the form has one
  first-within : (m : ℕ) → single m ≡ true → whole_count m ≡ j → length (first_names m g.rest) ≤ limit j
  unfolding share of_form
  first-within m o n =
      let t = shares-within j some p in
      let c = ap length (joined-keep (λ s. each item_name (names_at p_first s)) (λ s. eqb s.form m) g.rest) in
      let u = joined-sum (λ s. if eqb s.form m then each item_name (names_at p_first s) else []) (share j)
      (all_map (λ s h. if-le (eqb s.form m) (each item_name (names_at p_first s)) _
      (λ e. let z = eqb-true s.form m e in let a = h (rw z o) in let b = one_of s.form (ap whole_count z ∙ n) in
      omega (arith, length-each item_name (names_at p_first s))))
      (all-single p)) in
      omega arith where
        one_of : (k : ℕ) → whole_count k ≡ j → one_if (eqb (whole_count k) j) ≡ 1
        one_of k e = ap one_if (eq-eqb (whole_count k) j e) ∙ (unfold one_if in refl)

-- ---- names by what they are declared as: those of the kind d stand at the first position of the form k (Declared), and the sizes
-- count each, or each such statement where it has one name; `object_r` is one more role
module _ {g : Gathered} (p : Passed outside no_counts g) (k d j : ℕ) (first : AtFirst k d) (some : j < c_none) where
  declared-within : {m : ℕ} → length (first_names k g.rest) ≤ limit j → one_if (eqb d_role d) + limit j ≤ m
      → length (keep (λ x. eqb x.kind d) (declared g.rest)) ≤ m
  unfolding declared object_r
  declared-within h l =
      let a = keep-if (λ x. eqb x.kind d) true object_r (joined declared_by g.rest) in
      let b = length-each name_of (keep (λ x. eqb x.kind d) (joined declared_by g.rest)) in
      let c = ap length (first g.rest) in
      omega arith

  pub names-within : {m : ℕ} → name_count k p_first ≡ j → one_if (eqb d_role d) + limit j ≤ m
      → length (keep (λ x. eqb x.kind d) (declared g.rest)) ≤ m
  unfolding of_form
  names-within n l =
      declared-within (kept-within p j some (λ x. eqb x k) p_first (λ s. each item_name (names_at p_first s)) (λ x e. rw (eqb-true x k e) n)
      (λ s e. rw length-each (names-le p_first s))) l

  pub single-within : {m : ℕ} → single k ≡ true → whole_count k ≡ j → one_if (eqb d_role d) + limit j ≤ m
      → length (keep (λ x. eqb x.kind d) (declared g.rest)) ≤ m
  single-within o n l = declared-within (first-within p j some k o n) l
