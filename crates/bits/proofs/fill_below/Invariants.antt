-- `bits::fill_below` meets its contract. The invariant: left is what is left of n behind the words passed, and these are what they are
-- to be. Assumes nothing.
use mathlib.Core.Path.{◌≡◌}
use Prim.Native.Nat.{ℕ, ◌-◌, ◌*◌, ◌<◌, min}
use lib.ListN.{get_or}
use Rattle.bits.specs.Bits.{low_mask}
use Rattle.bits.proofs.fill_below.Given as goal

abbrev pub invariant-loop-w : goal.invariant-loop-w
invariant-loop-w l = (l.left ≡ l.n - 32 * l.w-index)
    × ((k : ℕ) → k < l.w-index → get_or l.w-items k 0 ≡ low_mask (min (l.n - 32 * k) 32))
