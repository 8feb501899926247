-- `listing::list_statements` meets its contract. The invariant is `Reading` of Turn. Assumes nothing.
use Rattle.words.specs.Spans.{spans_left}
use Rattle.listing.proofs.Turn.{Reading}
use Rattle.listing.proofs.list_statements.Given as goal

abbrev pub invariant-loop-w : goal.invariant-loop-w
invariant-loop-w l = Reading l.text l.items l.stmts (spans_left l.w-iterator) l.track l.rows
