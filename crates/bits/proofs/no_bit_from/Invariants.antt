-- `bits::no_bit_from` meets its contract. The invariant: left is what is left of n behind the words passed, and none of these is above
-- the mask of what was left there. Assumes nothing.
use mathlib.Core.Path.{◌≡◌}
use Prim.Native.Nat.{ℕ, ◌-◌, ◌*◌, ◌<◌, ◌≤◌, min}
use lib.ListN.{get_or}
use Rattle.bits.specs.Bits.{low_mask}
use Rattle.bits.proofs.no_bit_from.Given as goal

abbrev pub invariant-loop-w : goal.invariant-loop-w
invariant-loop-w l = (l.left ≡ l.n - 32 * l.w-index)
    × ((k : ℕ) → k < l.w-index → get_or l.ws k 0 ≤ low_mask (min (l.n - 32 * k) 32))
