-- The turns of the reading, as `read_from` has them.
--
--   ahead end t ws      what the reading comes to from the turn t on, if the words ws follow
--   Begun t             before the first word
--   Taken t w r t'      t' is the turn behind the word w, or r is the refusal that the reading comes to
use Rattle.std.specs.Prelude.{ℕ, ◌+◌, ◌≤◌, ◌≡◌, List, ◌∷◌, Result, MatchResult, Err}
use Rattle.meaning.specs.Words.{Word}
use Rattle.meaning.specs.Grammar.{policy}
use Rattle.meaning.specs.Statements.{outside}
use Rattle.meaning.specs.Sizes.{Verdict, no_counts, read_from}
use Rattle.reading.specs.Counts.{Room}
use Rattle.grammar.specs.States.{regex}
use Rattle.recogniser.specs.declared.Reading.{Reading}
use Rattle.recogniser.specs.declared.Refusal.{Refusal}
use Rattle.recogniser.specs.Refusal.{of_verdict}

unfoldable pub ahead : ℕ → Reading → List Word → Verdict
ahead end t ws = read_from end (regex t.state.s t.state.depth) t.seen t.counts t.last ws

pub record Begun (t : Reading) : Type 0 where
  pub grammar : regex t.state.s t.state.depth ≡ policy
  pub seen : t.seen ≡ outside
  pub counts : t.counts ≡ no_counts
  pub last : t.last ≡ 0
  pub depth : t.state.depth ≡ 0

-- the turn r stands where `read_from` stands behind the word w
pub record Gone (t : Reading) (w : Word) (r : Reading) : Type 0 where
  pub same : (end : ℕ) (ws : List Word) → ahead end t (w ∷ ws) ≡ ahead end r ws
  pub depth : r.state.depth ≤ t.state.depth + 1
  pub room : (n : ℕ) → Room n t.counts → Room (n + 1) r.counts

abbrev pub Taken : Reading → Word → Result (Unit {0}) Refusal → Reading → Type 0
Taken t w r t' =
    MatchResult r (λ _. Gone t w t') (λ e. (end : ℕ) (ws : List Word) → Err e ≡ of_verdict (ahead end t (w ∷ ws)))
