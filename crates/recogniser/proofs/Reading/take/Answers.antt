-- `Reading::take` meets its contract: at each return a law of Turns, with what the callees answer. Where the grammar has no state it is 3
-- at the word; a size exceeded is 7 at the place that `place_of` gives; else the turn is the one behind the word.
-- Assumes nothing.
use mathlib.Core.Path.{◌≡◌}
use Rattle.std.specs.Prelude.{Err}
use Rattle.std.proofs.Common.{rules}
use Rattle.recogniser.specs.declared.Refusal.TheVariants.{NotGrammar}
use Rattle.recogniser.proofs.Turns.{taken-three, taken-seven, taken-on}
use Rattle.recogniser.proofs.Reading.take.Goals as goal

pub returns-in_err-state : goal.returns-in_err-state
returns-in_err-state c =
    λ x e.
    let r : c.from_residual.result ≡ Err (NotGrammar c.args.w.start) = search rules in
    rw r (taken-three _ _ x e (search rules))

pub returns-then-exceeds : goal.returns-then-exceeds
returns-then-exceeds c =
    λ x e. taken-seven _ _ x e (search rules) _ c.count.ensures _ c.exceeds.ensures c.if-exceeds.true _ c.place_of-place.ensures

pub returns : goal.returns
returns c =
    λ x e. taken-on _ _ x e (search rules) _ c.count.ensures _ c.exceeds.ensures c.if-exceeds.false _ (search rules) _ c.step-self.ensures
