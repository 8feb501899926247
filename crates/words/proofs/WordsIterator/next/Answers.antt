-- `words::WordsIterator::next` meets its contract: the word at the place is the first of those left, or none is left. Assumes nothing.
use native.Mathlib.Omega.{arith}
use mathlib.Core.Path.{sym, ◌∙◌, ap}
use borrow.Author.Tests.{eqb-true, eqb-false}
use lib.ListN.{length}
use Rattle.words.proofs.Behind.{left-next, left-end}
use Rattle.words.proofs.WordsIterator.next.Goals as goal

pub returns-then-eq-clause-steps : goal.returns-then-eq-clause-steps
returns-then-eq-clause-steps c =
    let none = left-end c.args.self.now _ c.word_at-kind.ensures.value (eqb-true _ _ (sym c.eq.ensures ∙ c.if-eq.true)) in
    (none, none)

pub returns-clause-steps : goal.returns-clause-steps
returns-clause-steps c = left-next c.args.self.now _ c.word_at-kind.ensures.value (eqb-false _ _ (sym c.eq.ensures ∙ c.if-eq.false))

pub returns-clause-goes : goal.returns-clause-goes
returns-clause-goes c =
    let more = ap length (left-next c.args.self.now _ c.word_at-kind.ensures.value (eqb-false _ _ (sym c.eq.ensures ∙ c.if-eq.false))) in
    record { on = λ f. (tt, tt, omega (arith, more)); keeps = tt; rests = λ f. tt }
