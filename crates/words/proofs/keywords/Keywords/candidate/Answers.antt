-- `words::keywords::Keywords::candidate` meets its contract: each answer is one law of Recognised. Assumes nothing.
use native.Mathlib.Omega.{arith}
use mathlib.Core.Path.{sym, ◌∙◌}
use borrow.Author.Tests.{eqb-true}
use Rattle.words.proofs.Recognised.{slot-below, candidate-none, candidate-is}
use Rattle.words.proofs.keywords.Keywords.candidate.Goals as goal

pub returns-then-is_empty : goal.returns-then-is_empty
returns-then-is_empty c = candidate-none c.args.word.now (eqb-true _ _ (sym c.is_empty.ensures ∙ c.if-is_empty.true))

pub bounds-self-slot_of : goal.bounds-self-slot_of
bounds-self-slot_of c = omega (arith, c.slot_of.ensures, slot-below c.args.word.now)

pub returns : goal.returns
returns c =
    c.then_some.ensures
    ∙ rw c.from.ensures
    (candidate-is c.args.word.now c.args.self.now.table c.args.self.now.made c.slot_of.result c.slot_of.ensures
    (sym c.is_empty.ensures ∙ c.if-is_empty.false))
