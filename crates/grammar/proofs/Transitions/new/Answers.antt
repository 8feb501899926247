-- `Transitions::new` makes the table: a turn of the loop lays the next entry, which has its place in the table; at the end none is left.
-- The entries are those of the definition, which is computed.
-- Assumes nothing.
use native.Mathlib.Omega.{arith}
use mathlib.Core.Path.{◌≡◌, refl, sym, ◌∙◌}
use Rattle.grammar.specs.Table.{edge_count, rows}
use Rattle.grammar.specs.States.{laid, edges_of, edges}
use Rattle.grammar.proofs.Edges.{laid-all, edge-place, laid_next, none_left}
use Rattle.grammar.proofs.Transitions.new.Goals as goal

pub loop-e-init : goal.loop-e-init
loop-e-init c = laid-all

pub bounds-next-e : goal.bounds-next-e
unfolding edges edges_of rows
bounds-next-e c = edge-place _ refl c.loop-e.e-index c.loop-e-test.true

pub loop-e-preserved : goal.loop-e-preserved
unfolding edges edges_of rows
loop-e-preserved c = sym (laid_next _ refl c.loop-e.e-index c.loop-e-test.true _) ∙ c.loop-e.invariant

pub invariant_of-result : goal.invariant_of-result
unfolding laid
invariant_of-result c =
    let done : c.loop-e.e-index ≡ edge_count = omega arith in
    record { laid = rw (done, none_left) at c.loop-e.invariant }
