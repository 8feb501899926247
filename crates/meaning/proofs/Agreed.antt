-- What a text without refusal 8 rests on.
--   parts-agree    none of its three kinds is there: of type rules, of role transitions, of bounds
--   one_type       two type rows of one kind that cover one source, target and class have one result
--   one-role       likewise two role transitions
-- What is not met going through a list is met by no two of its elements, the later held against the earlier (`not-before`); that
-- results are equal holds both ways round and of an element with itself, so the order goes (`any-two`).
-- Assumes nothing.
use Prim.Native.Nat.{ℕ, zero, suc}
use mathlib.Core.Path.{◌≡◌, refl, sym, ap, ◌∙◌, subst}
use mathlib.Core.Bool.{Bool, true, false, ◌&&◌, false≢true}
use mathlib.Core.List.{List, [], ◌∷◌}
use lib.ListN.{length}
use borrow.Author.Tests.{eqb-true, eq-eqb, not-false}
use Rattle.std.specs.Prelude.{if◌then◌else◌}
use Rattle.meaning.specs.Plain.{any, Spot, nowhere, at, earlier}
use Rattle.meaning.specs.Statements.{Statement}
use Rattle.meaning.specs.Sets.{Names}
use Rattle.meaning.specs.Policy.{Set, holds, meet, TypeRow, RoleTransition, Policy}
use Rattle.meaning.specs.Rules.{bounds_of}
use Rattle.meaning.specs.Contradictions.{types_clash, roles_clash, first_against, with_any, bound_clash, contradiction}
use Rattle.meaning.proofs.Lists.{bool_cases, Among, here, there, among-any, if-nowhere}

-- ---- no place
earlier-nowhere : (a b : Spot) → earlier a b ≡ nowhere → (a ≡ nowhere) × (b ≡ nowhere)
earlier-nowhere nowhere b e = (refl, e)
earlier-nowhere (at p) nowhere e = absurd (false≢true (cc))
earlier-nowhere (at p) (at q) e = absurd (false≢true (cc))

-- Where there is no contradiction there is none of each of the three kinds.
pub parts-agree : (n : Names) (ss : List Statement) (p : Policy) → contradiction n ss p ≡ nowhere
    → (first_against (with_any types_clash) (λ r. r.at) [] p.type_rows ≡ nowhere)
    × (first_against (with_any roles_clash) (λ r. r.at) [] p.role_transitions ≡ nowhere)
    × (first_against (bound_clash (length n.types)) (λ b. b.at) [] (bounds_of n ss) ≡ nowhere)
unfolding contradiction
parts-agree n ss p e =
    let a = earlier-nowhere _ _ e in
    let b = earlier-nowhere _ _ a.1 in
    (a.0, b.0, b.1)

-- ---- going through a list
pub clear_step : {A : Type 0} (clash : List A → A → Bool) (place : A → ℕ) (before : List A) (x : A) (xs : List A)
    → first_against clash place before (x ∷ xs) ≡ nowhere
    → (clash before x ≡ false) × (first_against clash place (x ∷ before) xs ≡ nowhere)
unfolding first_against
clear_step clash place before x xs = if-nowhere (clash before x) (place x) _

none_of : {A : Type 0} (p : A → Bool) {x : A} {l : List A} → any p l ≡ false → Among x l → p x ≡ false
none_of p {x = x} e m = bool_cases (p x) (λ q. absurd (false≢true (sym e ∙ among-any p m q))) (λ q. q)

module _ {A : Type 0} (clash : A → A → Bool) (place : A → ℕ) where
  not-before : {a : A} {before l : List A} {b : A} → first_against (with_any clash) place before l ≡ nowhere
      → Among a l → Among b before → clash a b ≡ false
  unfolding with_any
  not-before {before = before} {b = b} e (here {x = x} {xs = l} q) k =
      ap (λ y. clash y b) q ∙ none_of (clash x) (clear_step (with_any clash) place before x l e).0 k
  not-before {before = before} e (there {x = x} {xs = l} m) k =
      not-before {before = x ∷ before} (clear_step (with_any clash) place before x l e).1 m (there k)

  any-two : (P : A → A → Type 0) → ((a b : A) → clash a b ≡ false → P a b) → ((a b : A) → P a b → P b a) → ((a : A) → P a a)
      → (before l : List A) → first_against (with_any clash) place before l ≡ nowhere → (a b : A) → Among a l → Among b l → P a b
  any-two P free turned self before [] e a b m _ = elim m [ ]
  any-two P free turned self before (x ∷ l) e a b (here p) (here q) = subst (P a) (p ∙ sym q) (self a)
  any-two P free turned self before (x ∷ l) e a b (here p) (there k) =
      turned b a (free b a (not-before (clear_step (with_any clash) place before x l e).1 k (here p)))
  any-two P free turned self before (x ∷ l) e a b (there m) (here q) =
      free a b (not-before (clear_step (with_any clash) place before x l e).1 m (here q))
  any-two P free turned self before (x ∷ l) e a b (there m) (there k) =
      any-two P free turned self (x ∷ before) l (clear_step (with_any clash) place before x l e).1 a b m k

-- ---- what a clash is
past-test : (c r : Bool) → r ≡ true → (if c then true else r) ≡ true
past-test true r e = refl
past-test false r e = e

both_meet : (a b : Set) (i : ℕ) → holds a i ≡ true → holds b i ≡ true → meet a b ≡ true
unfolding meet
both_meet [] b i p q = absurd (false≢true p)
both_meet (x ∷ a) [] i p q = absurd (false≢true q)
both_meet (x ∷ a) (y ∷ b) zero p q = rw (p, q)
both_meet (x ∷ a) (y ∷ b) (suc i) p q = past-test (x && y) (meet a b) (both_meet a b i p q)

abbrev pub OneType : TypeRow → TypeRow → Type 0
OneType a b =
    a.kind ≡ b.kind → a.class ≡ b.class → (s t : ℕ) → holds a.source s ≡ true → holds b.source s ≡ true
    → holds a.target t ≡ true → holds b.target t ≡ true → a.result ≡ b.result

types-free : (a b : TypeRow) → types_clash a b ≡ false → OneType a b
unfolding types_clash
types-free a b e k c s t p q u v =
    let m = both_meet a.source b.source s p q in
    let o = both_meet a.target b.target t u v in
    eqb-true a.result b.result (not-false _ (rw (eq-eqb _ _ k, eq-eqb _ _ c, m, o) at e))

abbrev pub OneRole : RoleTransition → RoleTransition → Type 0
OneRole a b =
    (r t c : ℕ) → holds a.roles r ≡ true → holds b.roles r ≡ true → holds a.types t ≡ true → holds b.types t ≡ true
    → holds a.classes c ≡ true → holds b.classes c ≡ true → a.result ≡ b.result

roles-free : (a b : RoleTransition) → roles_clash a b ≡ false → OneRole a b
unfolding roles_clash
roles-free a b e r t c p q u v x y =
    let m = both_meet a.roles b.roles r p q in
    let o = both_meet a.types b.types t u v in
    let w = both_meet a.classes b.classes c x y in
    eqb-true a.result b.result (not-false _ (rw (m, o, w) at e))

-- Where there is no contradiction, two type rows of one kind that cover one source, target and class have one result.
pub one_type : (n : Names) (ss : List Statement) (p : Policy) → contradiction n ss p ≡ nowhere
    → (a b : TypeRow) → Among a p.type_rows → Among b p.type_rows → OneType a b
one_type n ss p e =
    any-two types_clash (λ r. r.at) OneType types-free (λ a b f k c s t p q u v. sym (f (sym k) (sym c) s t q p v u)) (λ a k c s t p q u v. refl)
    [] p.type_rows (parts-agree n ss p e).0

-- Likewise two role transitions that cover one role, type and class.
pub one-role : (n : Names) (ss : List Statement) (p : Policy) → contradiction n ss p ≡ nowhere
    → (a b : RoleTransition) → Among a p.role_transitions → Among b p.role_transitions → OneRole a b
one-role n ss p e =
    any-two roles_clash (λ r. r.at) OneRole roles-free (λ a b f r t c p q u v x y. sym (f r t c q p v u y x)) (λ a r t c p q u v x y. refl)
    [] p.role_transitions (parts-agree n ss p e).1
