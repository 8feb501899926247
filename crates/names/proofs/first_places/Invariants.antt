-- `names::first_places` meets its contract. The invariant: the first i numbers are right, and the chains are those of i rows.
-- Assumes nothing.
use Prim.Native.Nat.{ℕ, ◌<◌}
use mathlib.Core.Path.{◌≡◌}
use lib.ListN.{get_or}
use Rattle.names.specs.Names.{first_as}
use Rattle.names.specs.Chains.{Heads, Nexts}
use Rattle.names.proofs.first_places.Given as goal

abbrev pub invariant-loop-i : goal.invariant-loop-i
invariant-loop-i l = record {
  numbers : (k : ℕ) → k < l.i → get_or l.id-items k 0 ≡ first_as l.rows.text.now l.rows.items.now k;
  heads : Heads l.rows.text.now l.rows.items.now l.i l.heads;
  nexts : Nexts l.rows.text.now l.rows.items.now l.i l.nexts;
}
