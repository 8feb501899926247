-- `bits::minus_into` meets its contract. The invariant: the words passed are those of the result, and the others are as they were.
-- Assumes nothing.
use mathlib.Core.Path.{◌≡◌}
use Prim.Native.Nat.{ℕ, ◌<◌, ◌≤◌}
use lib.ListN.{get_or}
use Rattle.bits.specs.Bits.{less_word}
use Rattle.bits.proofs.minus_into.Given as goal

abbrev pub invariant-loop-i : goal.invariant-loop-i
invariant-loop-i l = ((k : ℕ) → k < l.i → get_or l.dst k 0 ≡ less_word (get_or l.initial.dst k 0) (get_or l.src k 0))
    × ((k : ℕ) → l.i ≤ k → get_or l.dst k 0 ≡ get_or l.initial.dst k 0)
