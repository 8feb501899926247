use native.Mathlib.Omega.{arith}
use Rattle.bits.specs.Bits.{less_word}
use Rattle.bits.proofs.Loops.{zipped}
use Rattle.bits.proofs.minus_into.Goals as goal

pub returns : goal.returns
returns c = zipped less_word _ _ _ c.requires (omega arith) (λ k h. c.loop-i.invariant.0 k (omega arith))
