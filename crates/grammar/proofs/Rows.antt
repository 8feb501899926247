-- The rows against the grammar: tests that antt computes, over all states and over all entries of the table, and what each says of
-- a state and of an entry.
-- Assumes nothing.
use Prim.Native.Nat.{ℕ, ◌+◌, ◌*◌, ◌/◌, ◌%◌, ◌≤◌, ◌<◌}
use native.Mathlib.Omega.{arith}
use native.Mathlib.Decide.{ℕ_discrete}
use mathlib.Core.Path.{◌≡◌, refl}
use mathlib.Core.Bool.{Bool, true, false, not, ◌&&◌, ◌||◌, Bool-discrete, decide, decide_iff}
use mathlib.Core.List.{List}
use borrow.Author.Tests.{le-leb, lt-leb, eq-eqb, ne_eqb, eqb-true, ltb-true, not-true}
use lib.Dec.{eqb, leb, ltb}
use lib.ListN.{length, get_or}
use Rattle.std.specs.Prelude.{if◌then◌else◌}
use Rattle.meaning.specs.Keywords.{k_lparen, k_rparen}
use Rattle.meaning.specs.Grammar.{G, G-discrete, none, nullable, is_none, left}
use Rattle.meaning.proofs.Opened.{opened}
use Rattle.meaning.proofs.Lists.{and_both}
use Rattle.meaning.proofs.Viable.{lefts}
use Rattle.grammar.specs.Table.{hole, state_count, kind_count, table_size, last_inside, had, accepting, rows}
use Rattle.grammar.specs.States.{fill, way_from, grown, states, left_at, edges_of, edges, entries, next_table, next, after, regex}
use Rattle.grammar.proofs.Entries.{passes, at}
use Rattle.grammar.proofs.Fill.{guarded, known}

-- ---- the states
states-length : length states ≡ state_count
unfolding rows grown states
states-length = refl

module _ (f : ℕ → G → Bool) where
  each-state : passes f 0 states ≡ true → (s : ℕ) → s < state_count → f s (left_at s) ≡ true
  unfolding left_at
  each-state t s h = at f none states t s (rw states-length h)

  -- the test is made within parentheses only
  within : ℕ → G → Bool
  within s g = not (leb s last_inside) || f s g

  each_within : passes within 0 states ≡ true → (s : ℕ) → s ≤ last_inside → f s (left_at s) ≡ true
  unfolding left_at within
  each_within t s h = rw (le-leb s last_inside h) at (at within none states t s (rw states-length (omega arith)))

agree : (f : G → Bool) (b : ℕ → Bool) → passes (λ s g. decide (Bool-discrete (f g) (b s))) 0 states ≡ true
    → (s : ℕ) → s < state_count → f (left_at s) ≡ b s
agree f b t s h =
    (decide_iff (Bool-discrete (f (left_at s)) (b s))).0 (each-state (λ s g. decide (Bool-discrete (f g) (b s))) t s h)

-- 0 is the dead state, and the only one
pub none-at : (s : ℕ) → s < state_count → is_none (left_at s) ≡ eqb s 0
unfolding opened lefts decide rows way_from grown states
none-at s h = agree is_none (λ s. eqb s 0) refl s h

-- a text may end just in the accepting ones
pub ends_at : (s : ℕ) → s < state_count → nullable (left_at s) ≡ accepting s
unfolding opened lefts decide rows way_from grown states
ends_at s h = agree nullable accepting refl s h

pub known_at : (s : ℕ) → s < state_count → known (left_at s) ≡ true
unfolding opened lefts known rows way_from grown states
known_at s h = each-state (λ s g. known g) refl s h

-- within parentheses no word reaches the hole, and something is left behind an operand and behind the last `)`
pub guarded-at : (s : ℕ) → s ≤ last_inside → guarded (left_at s) ≡ true
unfolding opened lefts within guarded rows way_from grown states
guarded-at s h = each_within (λ s g. guarded g) refl s h

goes_on : ℕ → G → Bool
goes_on s g = not (is_none (left_at (had s))) && not (is_none (left_at (next (had s) k_rparen)))

go_on : passes (within goes_on) 0 states ≡ true
unfolding opened lefts within goes_on had rows way_from grown states left_at edges_of edges entries next_table
go_on = refl

module _ (s : ℕ) (h : s ≤ last_inside) where
  pub had-at : is_none (left_at (had s)) ≡ false
  unfolding goes_on
  had-at = not-true _ (and_both (not (is_none (left_at (had s)))) _ (each_within goes_on go_on s h)).0

  pub last-at : is_none (left_at (next (had s) k_rparen)) ≡ false
  unfolding goes_on
  last-at = not-true _ (and_both (not (is_none (left_at (had s)))) _ (each_within goes_on go_on s h)).1

-- ---- the entries
-- what has to be left where a word of kind k leads to state x: from within parentheses, h being the state behind an operand
inside : List G → ℕ → ℕ → ℕ → G
inside all h k x =
    if eqb k k_lparen then fill (get_or all h none) (get_or all x none) else if leb x last_inside then get_or all x none else hole

-- from outside
outside : List G → ℕ → G
outside all x = if leb x last_inside then fill (get_or all (next (had x) k_rparen) none) (get_or all x none) else get_or all x none

leads : List G → ℕ → ℕ → ℕ → Bool
leads all s k x =
    decide (G-discrete ℕ_discrete (left (get_or all s none) k) (if leb s last_inside then inside all (had s) k x else outside all x))

-- within parentheses a word leads to nothing or stays in the expression, or it is the closing one, behind an operand
unfoldable pub stays : ℕ → ℕ → Bool
stays s x = leb x last_inside && (eqb x 0 || eqb (had x) (had s))

closes : ℕ → ℕ → Bool
closes s x = eqb s (had s) && eqb x (next (had s) k_rparen)

turns : ℕ → ℕ → ℕ → Bool
turns s k x = not (leb s last_inside) || (if eqb k k_lparen || leb x last_inside then stays s x else closes s x)

table-length : length next_table ≡ table_size
unfolding next_table entries edges edges_of rows
table-length = refl

each-entry : (f : ℕ → ℕ → ℕ → Bool) → passes (λ i x. f (i / kind_count) (i % kind_count) x) 0 next_table ≡ true →
    (s k : ℕ) → s < state_count → k < kind_count → f s k (next s k) ≡ true
each-entry f t s k hs hk =
    let q : (s * kind_count + k) / kind_count ≡ s = omega arith in
    let r : (s * kind_count + k) % kind_count ≡ k = omega arith in
    rw (q, r) at (at (λ i x. f (i / kind_count) (i % kind_count) x) 0 next_table t (s * kind_count + k) (rw table-length (omega arith)))

pub next_small : (s k : ℕ) → s < state_count → k < kind_count → next s k < state_count
unfolding next_table entries edges edges_of rows
next_small s k hs hk = ltb-true _ _ (each-entry (λ s k x. ltb x state_count) refl s k hs hk)

all-lead : passes (λ i x. leads states (i / kind_count) (i % kind_count) x) 0 next_table ≡ true
unfolding leads inside outside had opened lefts decide ℕ_discrete rows fill way_from grown states edges_of edges entries next_table
all-lead = refl

all-turn : passes (λ i x. turns (i / kind_count) (i % kind_count) x) 0 next_table ≡ true
unfolding turns stays closes had edges_of edges entries next_table rows
all-turn = refl

module _ (s k : ℕ) (hk : k < kind_count) where
  pub left-outside : last_inside < s → s < state_count → left (left_at s) k ≡ regex (next s k) 0
  unfolding leads outside left_at regex after
  left-outside o hs =
      (decide_iff (G-discrete ℕ_discrete (left (left_at s) k) (regex (next s k) 0))).0
      (rw (lt-leb s last_inside o) at (each-entry (leads states) all-lead s k hs hk))

  module _ (i : s ≤ last_inside) where
    left-inside : left (left_at s) k ≡ inside states (had s) k (next s k)
    unfolding leads left_at
    left-inside =
        (decide_iff (G-discrete ℕ_discrete (left (left_at s) k) (inside states (had s) k (next s k)))).0
        (rw (le-leb s last_inside i) at (each-entry (leads states) all-lead s k (omega arith) hk))

    turned : turns s k (next s k) ≡ true
    turned = each-entry turns all-turn s k (omega arith) hk

    -- an opening parenthesis
    module _ (e : k ≡ k_lparen) where
      pub left_open : left (left_at s) k ≡ fill (left_at (had s)) (left_at (next s k))
      unfolding inside left_at
      left_open = rw (eq-eqb k k_lparen e) at left-inside

      pub open_stays : stays s (next s k) ≡ true
      unfolding turns
      open_stays = rw (le-leb s last_inside i, eq-eqb k k_lparen e) at turned

    module _ (e : k ≡ k_lparen → ⊥) where
      -- a word that stays inside
      pub left_in_lem : next s k ≤ last_inside → left (left_at s) k ≡ left_at (next s k)
      unfolding inside left_at
      left_in_lem l = rw (ne_eqb k k_lparen e, le-leb (next s k) last_inside l) at left-inside

      pub in-stays : next s k ≤ last_inside → stays s (next s k) ≡ true
      unfolding turns
      in-stays l = rw (le-leb s last_inside i, ne_eqb k k_lparen e, le-leb (next s k) last_inside l) at turned

      -- the closing one
      pub left-close : last_inside < next s k → left (left_at s) k ≡ hole
      unfolding inside
      left-close l = rw (ne_eqb k k_lparen e, lt-leb (next s k) last_inside l) at left-inside

      pub close-leads : last_inside < next s k → (s ≡ had s) × (next s k ≡ next (had s) k_rparen)
      unfolding turns closes
      close-leads l =
          let t : closes s (next s k) ≡ true =
          rw (le-leb s last_inside i, ne_eqb k k_lparen e, lt-leb (next s k) last_inside l) at turned in
          let p = and_both (eqb s (had s)) (eqb (next s k) (next (had s) k_rparen)) t in
          (eqb-true s (had s) p.0, eqb-true (next s k) (next (had s) k_rparen) p.1)
