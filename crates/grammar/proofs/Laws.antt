-- What the states come to. For callers: a text begins where the whole grammar is left (`start`), nothing is left just in state 0
-- (`alive`), and a text may end just in the accepting states (`accepts`). What `step` does is in Turn.
-- Assumes nothing.
use Prim.Native.Nat.{ℕ, zero, suc, ◌≤◌, ◌<◌}
use mathlib.Core.Path.{◌≡◌, refl, ◌∙◌}
use mathlib.Core.Bool.{Bool, true, false}
use borrow.Author.Tests.{le-leb, lt-leb, leb-true, leb-false}
use lib.Dec.{eqb, leb}
use Rattle.meaning.specs.Grammar.{policy, nullable, is_none}
use Rattle.meaning.proofs.Opened.{opened}
use Rattle.meaning.proofs.Viable.{lefts}
use Rattle.grammar.specs.Table.{state_count, last_inside, had, start_state, accepting, rows}
use Rattle.grammar.specs.States.{fill, way_from, grown, states, left_at, after, regex}
use Rattle.grammar.proofs.Fill.{fill_none, nullable-fill}
use Rattle.grammar.proofs.Rows.{none-at, ends_at, guarded-at, had-at, last-at}

-- ---- within parentheses, and outside
pub regex-in : (s d : ℕ) → s ≤ last_inside → regex s d ≡ fill (after (had s) d) (left_at s)
unfolding regex
regex-in s d i = rw (le-leb s last_inside i)

pub regex-out : (s d : ℕ) → last_inside < s → regex s d ≡ left_at s
unfolding regex
regex-out s d o = rw (lt-leb s last_inside o)

pub by_side : (A : Type 0) (s : ℕ) → (s ≤ last_inside → A) → (last_inside < s → A) → A
by_side A s f g = by (leb s last_inside) refl
  where
    by : (b : Bool) → leb s last_inside ≡ b → A
    by true e = f (leb-true s last_inside e)
    by false e = g (leb-false s last_inside e)

-- something follows a closing parenthesis
pub live : (s d : ℕ) → s ≤ last_inside → is_none (after (had s) d) ≡ false
unfolding after
live s zero i = last-at s i
live s (suc d) i = fill_none (after (had s) d) (live s d i) (left_at (had s)) ∙ had-at s i

-- ---- for callers
pub start : regex start_state 0 ≡ policy
unfolding opened lefts regex left_at rows way_from grown states
start = refl

pub alive : (s d : ℕ) → s < state_count → is_none (regex s d) ≡ eqb s 0
alive s d h =
    by_side _ s (λ i. rw (regex-in s d i) (fill_none (after (had s) d) (live s d i) (left_at s) ∙ none-at s h))
    (λ o. rw (regex-out s d o) (none-at s h))

pub accepts : (s d : ℕ) → s < state_count → nullable (regex s d) ≡ accepting s
accepts s d h =
    by_side _ s (λ i. rw (regex-in s d i) (nullable-fill (after (had s) d) (left_at s) (guarded-at s i) ∙ ends_at s h))
    (λ o. rw (regex-out s d o) (ends_at s h))
