-- Where a word leads: to a state behind which something is left, or to none, and then nothing is left.
use Rattle.std.specs.Prelude.{ℕ, ◌≡◌, false, Option, MatchOption}
use Rattle.meaning.specs.Grammar.{none, is_none, left}
use Rattle.grammar.specs.States.{regex, Stepped}
use Rattle.grammar.specs.declared.State.{State}

-- a word of kind k leads from st to r
abbrev pub Led : State → ℕ → Option State → Type 0
Led st k r =
    MatchOption r (left (regex st.s st.depth) k ≡ none)
    (λ t. Stepped st.s st.depth k t.s t.depth × (is_none (regex t.s t.depth) ≡ false))
