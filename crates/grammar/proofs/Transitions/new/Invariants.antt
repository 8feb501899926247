-- The loop's invariant in `Transitions::new`: the entries that are left, laid into the table as it is, make it. Assumes nothing.
use mathlib.Core.Path.{◌≡◌}
use lib.ListN.{drop}
use Rattle.grammar.specs.States.{next_table, edges, laid}
use Rattle.grammar.proofs.Transitions.new.Given as goal

abbrev pub invariant-loop-e : goal.invariant-loop-e
invariant-loop-e l = laid (drop l.e-index edges) l.next ≡ next_table
