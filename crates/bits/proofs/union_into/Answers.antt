use native.Mathlib.Omega.{arith}
use lib.Bits.{bit_or}
use Rattle.bits.proofs.Loops.{zipped}
use Rattle.bits.proofs.union_into.Goals as goal

pub returns : goal.returns
returns c = zipped bit_or _ _ _ c.requires (omega arith) (λ k h. c.loop-i.invariant.0 k (omega arith))
