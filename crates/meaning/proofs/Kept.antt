-- What is kept of an expression is no longer than its words: each word is put out at most once, at once or when it no longer waits.
-- Assumes nothing.
use mathlib.Core.List.{List, [], ◌∷◌}
use Prim.Native.Nat.{ℕ, ◌+◌, ◌≤◌}
use native.Mathlib.Omega.{arith}
use lib.Dec.{eqb, leb}
use lib.ListN.{length, length-append}
use Rattle.meaning.specs.Statements.{Item, p_test}
use Rattle.meaning.specs.Sets.{Names}
use Rattle.meaning.specs.Expressions.{Token, leaf, sign, negation, lpar, rpar, Waiting, wait, wait_not, paren, below, binds, binds_not, loosest, popped, postfix}
use Rattle.meaning.specs.Rules.{read_tests, behind_test}
use Rattle.meaning.proofs.Lists.{bool_cases}

popped-le : (L : Type 0) (b : ℕ) (ks : List Waiting) → length (popped {L = L} b ks).out + length (popped {L = L} b ks).rest ≤ length ks
unfolding popped
popped-le L b [] = omega arith
popped-le L b (paren ∷ ks) = omega arith
popped-le L b (wait s ∷ ks) = let h = popped-le L b ks in bool_cases (leb b (binds s)) (λ e. rw e (omega arith)) (λ e. rw e (omega arith))
popped-le L b (wait_not ∷ ks) = let h = popped-le L b ks in bool_cases (leb b binds_not) (λ e. rw e (omega arith)) (λ e. rw e (omega arith))

below-le : (ks : List Waiting) → length (below ks) ≤ length ks
below-le [] = omega arith
below-le (k ∷ ks) = omega arith

pub postfix-le : {L : Type 0} (ks : List Waiting) (ts : List (Token L)) → length (postfix ks ts) ≤ length ks + length ts
unfolding postfix
postfix-le {L} ks [] = let h = popped-le L loosest ks in omega arith
postfix-le ks (leaf x ∷ ts) = let h = postfix-le ks ts in omega arith
postfix-le ks (negation ∷ ts) = let h = postfix-le (wait_not ∷ ks) ts in omega arith
postfix-le {L} ks (sign s ∷ ts) =
    let q = popped {L = L} (binds s) ks in
    let h = postfix-le (wait s ∷ q.rest) ts in
    omega (arith, popped-le L (binds s) ks, length-append q.out (postfix (wait s ∷ q.rest) ts))
postfix-le ks (lpar ∷ ts) = let h = postfix-le (paren ∷ ks) ts in omega arith
postfix-le {L} ks (rpar ∷ ts) =
    let q = popped {L = L} loosest ks in
    let h = postfix-le (below q.rest) ts in
    omega (arith, popped-le L loosest ks, below-le q.rest, length-append q.out (postfix (below q.rest) ts))

pub tests-le : (n : Names) (is : List Item) → length (read_tests n is).tokens ≤ length is
unfolding read_tests behind_test
tests-le n [] = omega arith
tests-le n (i ∷ is) = let h = tests-le n is in bool_cases (eqb i.pos p_test) (λ e. rw e (omega arith)) (λ e. rw e (omega arith))
