-- The comparisons of a constraint: each is of one of u1 .. t2, and the set that it is held against has as many entries as there are
-- users, roles or types, by which of the six it is; none where it is held against the other side's own (`test_fits`).
-- The words behind u1 .. t2 stand at the position of what they are compared with (`Told` of Shapes), and `read_tests` goes by that.
-- Assumes nothing.
use Prim.Native.Nat.{ℕ}
use mathlib.Core.Path.{◌≡◌, refl, sym, ap, ◌∙◌}
use mathlib.Core.Bool.{Bool, true, false, ◌||◌, false≢true}
use mathlib.Core.List.{List, [], ◌∷◌}
use borrow.Author.Tests.{eqb-true}
use lib.Dec.{eqb}
use lib.ListN.{length}
use Rattle.std.specs.Prelude.{if◌then◌else◌}
use Rattle.meaning.specs.Plain.{within}
use Rattle.meaning.specs.Keywords.{k_lparen, k_rparen, k_bang, k_not, k_u1, k_u2, k_r1, k_r2, is_term}
use Rattle.meaning.specs.Statements.{Item, compared, p_test, p_users, p_roles, p_types}
use Rattle.meaning.specs.Sets.{Names, named_in}
use Rattle.meaning.specs.Expressions.{Token, leaf, sign, negation, lpar, rpar}
use Rattle.meaning.specs.Policy.{Set, Test}
use Rattle.meaning.specs.Rules.{set_of, types_of, roles_of, two_sided, mark_token, compared_set, Read, behind_test, test_of, read_tests}
use Rattle.meaning.proofs.Lists.{bool_cases, Among, here, there}
use Rattle.meaning.proofs.Steps.{compared_is}
use Rattle.meaning.proofs.Shapes.{Heads, Told}
use Rattle.meaning.proofs.Listed.{set-sized, types-sized, roles-sized}

-- how many there are of what u1 .. t2 are
abbrev pub side_size : ℕ → ℕ → ℕ → ℕ → ℕ
side_size users roles types w = if within k_u1 k_u2 w then users else if within k_r1 k_r2 w then roles else types

pub record Fits (users roles types : ℕ) (e : Test) : Type 0 where
  pub who : is_term e.who ≡ true
  pub set : length e.set ≡ (if e.pair then 0 else side_size users roles types e.who)

-- a mark is no operand
is_leaf : {L : Type 0} → Token L → Bool
is_leaf (leaf x) = true
is_leaf (sign s) = false
is_leaf negation = false
is_leaf lpar = false
is_leaf rpar = false

pub mark-none : {L : Type 0} (k : ℕ) {x : L} → leaf x ≡ mark_token k → ⊥
unfolding mark_token is_leaf
mark-none {L = L} k e = false≢true (sym (by (eqb k k_lparen) (eqb k k_rparen) (eqb k k_bang || eqb k k_not)) ∙ sym (ap is_leaf e))
  where
    by : (a b c : Bool) → is_leaf {L = L} (if a then lpar else if b then rpar else if c then negation else sign (two_sided k)) ≡ false
    by true b c = refl
    by false true c = refl
    by false false true = refl
    by false false false = refl

-- ---- the set by the position of its names
set-fits : (n : Names) (k : ℕ) (is : List Item)
    → length (compared_set n (compared k) is) ≡ side_size (length n.users) (length n.roles) (length n.types) k
unfolding compared_set compared
set-fits n k is = by (within k_u1 k_u2 k) (within k_r1 k_r2 k)
  where
    at : ℕ → Set
    at p = if eqb p p_users then set_of (named_in is) n.users else if eqb p p_roles then roles_of n is else types_of n is

    by : (a b : Bool) → length (at (if a then p_users else if b then p_roles else p_types))
        ≡ (if a then length n.users else if b then length n.roles else length n.types)
    by true b = set-sized (named_in is) n.users
    by false true = roles-sized n is
    by false false = types-sized n is

-- ---- a comparison, from the words behind u1 .. t2
compared-past : (k : ℕ) → eqb (compared k) p_test ≡ false
compared-past k =
    bool_cases (eqb (compared k) p_test) (λ q. absurd (false≢true (rw (eqb-true (compared k) p_test q) at (compared_is k)))) (λ q. q)

heads-read : (n : Names) (k : ℕ) (is : List Item) → Heads (compared k) is → (read_tests n is).pos ≡ compared k
unfolding Heads read_tests
heads-read n k [] h = absurd h
heads-read n k (i ∷ is) h = let q : eqb i.pos p_test ≡ false = rw h (compared-past k) in rw q h

module _ (n : Names) where
  abbrev FitsHere : Test → Type 0
  FitsHere e = Fits (length n.users) (length n.roles) (length n.types) e

  test-of : (k : ℕ) (r : Read) → is_term k ≡ true → r.pos ≡ compared k → FitsHere (test_of n k r)
  unfolding test_of
  test-of k r t q = record { who = t; set = bool_cases r.pair (λ e. rw e) (λ e. rw (e, q) (set-fits n k r.names)) }

  one_more : {e : Test} (y : Token Test) (ts : List (Token Test)) → Among (leaf e) (y ∷ ts) → (leaf e ≡ y → FitsHere e)
      → (Among (leaf e) ts → FitsHere e) → FitsHere e
  one_more y ts (here q) f g = f q
  one_more y ts (there m) f g = g m

  -- Every comparison that is read fits.
  pub test_fits : (is : List Item) → Told is → {e : Test} → Among (leaf e) (read_tests n is).tokens → FitsHere e
  unfolding Told read_tests behind_test
  test_fits [] t m = elim m [ ]
  test_fits (i ∷ is) t {e = e} m =
      let r = read_tests n is in
      bool_cases (eqb i.pos p_test)
      (λ p. bool_cases (is_term i.kind)
      (λ k. one_more (leaf (test_of n i.kind r)) r.tokens (rw (p, k, read_tests) at m)
      (λ q. let z : e ≡ test_of n i.kind r = cc in rw z (test-of i.kind r k (heads-read n i.kind is (t.0 p k))))
      (λ m. test_fits is t.1 m))
      (λ k. one_more (mark_token i.kind) r.tokens (rw (p, k, read_tests) at m) (λ q. absurd (mark-none i.kind q))
      (λ m. test_fits is t.1 m)))
      (λ p. test_fits is t.1 (rw (p, read_tests) at m))
