-- `recogniser::recognise`: the words that the iterator has left, read on from the turn, come to what the whole text does (`Reached`).
-- Assumes nothing.
use Rattle.words.specs.Spans.{spans_left}
use Rattle.recogniser.proofs.Reached.{Reached}
use Rattle.recogniser.proofs.recognise.Given as goal

abbrev pub invariant-loop-w : goal.invariant-loop-w
invariant-loop-w l = Reached l.text (spans_left l.w-iterator) l.reading
