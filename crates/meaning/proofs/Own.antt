-- What a statement counts for itself bounds its items: the words of an expression, the permissions of a common and of a class. Each
-- word that is counted so is within the limit that holds for it, so what is left of a limit bounds the items still to come
-- (`own-left`); a statement begins at 0. Names of 63 bytes at most are seen word by word.
-- Assumes nothing.
use mathlib.Core.Path.{◌≡◌, refl}
use mathlib.Core.List.{List}
use mathlib.Core.Bool.{Bool, true, false, ◌&&◌, false≢true, and-false}
use Prim.Native.Nat.{ℕ, ◌+◌, ◌-◌, ◌≤◌, ◌<◌}
use native.Mathlib.Omega.{arith}
use borrow.Author.Tests.{eqb-true, eq-eqb, ne_eqb, lt-ltb}
use lib.Dec.{eqb}
use lib.ListN.{length}
use Rattle.meaning.specs.Plain.{within, keep}
use Rattle.meaning.specs.Words.{Word}
use Rattle.meaning.specs.Statements.{Seen, outside, in_e, of_e, Item, Statement, saying, says, item_of, Gathered, part, names_at, p_second, p_fourth, p_test, p_types}
use Rattle.meaning.specs.Sizes.{own_limit, Counts, no_counts, counted, longest_name, expression_words, common_permissions, own_permissions, own_beside_common}
use Rattle.meaning.specs.Rules.{constraint_words}
use Rattle.meaning.specs.Keywords.{starts, k_name, k_class, k_common, k_perms}
use Rattle.meaning.proofs.Lists.{bool_cases, and_both, or_cases}
use Rattle.meaning.proofs.Lengths.{one_if, All, empty, more, all_map, keep-if, keep-le}
use Rattle.meaning.proofs.Steps.{active-starts, left_behind, say-cases, stop-silent, says-what, Form, none, own, perms, types, roles, form-keyword}
use Rattle.meaning.proofs.Passed.{Fine, Passed, done, begins, goes, nothing_said, tail-cases, form_of, statements-all}

-- a word that counts adds one, and that stays within its limit
own-adds : (st : Seen) (w : Word) (c : Counts) (m : ℕ) (b : Bool) → 0 < m → (b ≡ true → own_limit st w.kind ≡ m)
    → starts w.kind ≡ false → Fine st w (counted st w.kind c)
    → (c.own + one_if b ≤ (counted st w.kind c).own) × (one_if b ≤ m - c.own)
unfolding counted one_if
own-adds st w c m true s h z f =
    let e : own_limit st w.kind ≡ m = h refl in
    let a : (counted st w.kind c).own ≡ c.own + 1 = rw (z, ne_eqb (own_limit st w.kind) 0 (λ y. omega arith)) in
    let t = f.own (lt-ltb 0 (own_limit st w.kind) (omega arith)) in
    (omega arith, omega arith)
own-adds st w c m false s h z f =
    let a : c.own ≤ (counted st w.kind c).own =
    rw z (bool_cases (eqb (own_limit st w.kind) 0) (λ e. rw e (omega arith)) (λ e. rw e (omega arith))) in
    (omega arith, omega arith)

module _ (K : ℕ → Bool) (q : Item → Bool) (m : ℕ) (some : 0 < m)
    (limit : (st : Seen) (w : Word) → says st w.kind ≡ true → K st.kw ≡ true → q (item_of st w) ≡ true → own_limit st w.kind ≡ m) where
  own-left : {st : Seen} {c : Counts} {g : Gathered} → Passed st c g → K st.kw ≡ true → length (keep q g.items) ≤ m - c.own
  own-left done h = omega arith
  own-left (begins w b a f p) h = omega arith
  own-left {st} {c} (goes {r = r} w a f p) h =
      let x = keep-if q (says st w.kind) (item_of st w) r.items in
      bool_cases (starts w.kind)
      (λ z. rw (stop-silent st w.kind (rw z), nothing_said p (left_behind st w.kind z a)) (omega arith))
      (λ z.
      let t : length (keep q r.items) ≤ m - (counted st w.kind c).own =
      tail-cases st w.kind a p (λ e. own-left p (rw e h)) (λ e. rw e (omega arith)) in
      let o = own-adds st w c m (says st w.kind && q (item_of st w)) some
      (λ y. let s = and_both (says st w.kind) (q (item_of st w)) y in limit st w s.0 h s.1) z f in
      omega arith)

  own-few : {g : Gathered} (F : ℕ → Bool) → ((k f : ℕ) → Form k f → starts k ≡ true → F f ≡ true → K k ≡ true)
      → Passed outside no_counts g → All (λ s. F s.form ≡ true → length (keep q s.items) ≤ m) g.rest
  own-few F f p =
      statements-all _ (λ k at b c r a z p h. let t = own-left p (f k r.form (form_of p) (active-starts k a) h) in omega arith) p

-- ---- the words of an expression
in-expression : (st : Seen) (k : ℕ) → in_e st ≡ true → saying k ≡ true → of_e st k ≡ true
unfolding of_e
in-expression st k i y =
    say-cases (λ x. of_e st x ≡ true) k y (rw i (simp and-false)) (rw i (simp and-false)) (rw i (simp and-false)) (rw i (simp and-false))
    (rw i (simp and-false))

expression-limit : (st : Seen) (k : ℕ) → says st k ≡ true → in_e st ≡ true → own_limit st k ≡ expression_words
unfolding own_limit
expression-limit st k s i =
    let o : of_e st k ≡ true = or_cases (of_e st k) (saying k) (says-what st k s) (λ z. z) (in-expression st k i) in
    rw o

pub few_words : {g : Gathered} → Passed outside no_counts g → All (λ s. length (constraint_words s) ≤ expression_words) g.rest
unfolding constraint_words
few_words p =
    all_map (λ s h. h refl) (own-few (λ k. true) (λ i. within p_test p_types i.pos) expression_words (omega arith)
    (λ st w s h e. expression-limit st w.kind s (unfold item_of in e)) (λ k. true) (λ k f o a h. refl) p)

-- those outside comparisons
pub test_words : (s : Statement) → length (part p_test s) ≤ length (constraint_words s)
unfolding part constraint_words
test_words s = keep-le (λ (i : Item). eqb i.pos p_test) (λ i. within p_test p_types i.pos) (λ i e. rw (eqb-true i.pos p_test e)) s.items

-- ---- permissions
-- at most m names at the position q of each statement of the form f
abbrev pub Few : ℕ → ℕ → ℕ → List Statement → Type 0
Few f q m ss = All (λ s. s.form ≡ f → length (names_at q s) ≤ m) ss

module _ (k q m : ℕ) (some : 0 < m) (limit : (st : Seen) → st.kw ≡ k → st.pos ≡ q → own_limit st k_name ≡ m)
    (f : ℕ) (keyword : (x : ℕ) → Form x f → starts x ≡ true → x ≡ k) where
  few-names : {g : Gathered} → Passed outside no_counts g → Few f q m g.rest
  unfolding names_at item_of
  few-names p =
      all_map (λ s h e. h (eq-eqb s.form f e)) (own-few (λ x. eqb x k) (λ i. eqb i.pos q && eqb i.kind k_name) m some
      (λ st w s h e. let b = and_both (eqb st.pos q) (eqb w.kind k_name) e in
      rw (eqb-true w.kind k_name b.1) (limit st (eqb-true st.kw k h) (eqb-true st.pos q b.0)))
      (λ x. eqb x f) (λ x y o a h. eq-eqb x k (keyword x (rw (eqb-true y f h) at o) a)) p)

class-perms : {k f : ℕ} → Form k f → f ≡ k_perms → starts k ≡ true → k ≡ k_class
class-perms none e s = absurd (omega arith)
class-perms own e s = absurd (false≢true (rw e at s))
class-perms (perms h) e s = h
class-perms (types h) e s = absurd (omega arith)
class-perms (roles h) e s = absurd (omega arith)

pub few-common : {g : Gathered} → Passed outside no_counts g → Few k_common p_second common_permissions g.rest
unfolding own_limit of_e
few-common = few-names k_common p_second common_permissions (omega arith) (λ st a b. rw (a, b)) k_common (λ x o a. form-keyword o k_common refl refl)

pub few-own : {g : Gathered} → Passed outside no_counts g → Few k_perms p_second own_permissions g.rest
unfolding own_limit of_e
few-own = few-names k_class p_second own_permissions (omega arith) (λ st a b. rw (a, b)) k_perms (λ x o a. class-perms o refl a)

pub few-beside : {g : Gathered} → Passed outside no_counts g → Few k_perms p_fourth own_beside_common g.rest
unfolding own_limit of_e
few-beside = few-names k_class p_fourth own_beside_common (omega arith) (λ st a b. rw (a, b)) k_perms (λ x o a. class-perms o refl a)

-- ---- names
abbrev pub Short : Item → Type 0
Short i = eqb i.kind k_name ≡ true → length i.text ≤ longest_name

short-items : {st : Seen} {c : Counts} {g : Gathered} → Passed st c g → All Short g.items
unfolding item_of
short-items done = empty
short-items (begins w b a f p) = empty
short-items {st} (goes w a f p) = bool_cases (says st w.kind) (λ e. rw e (more f.name (short-items p))) (λ e. rw e (short-items p))

pub short-names : {g : Gathered} → Passed outside no_counts g → All (λ s. All Short s.items) g.rest
short-names = statements-all _ (λ k at b c r a z p. short-items p)
