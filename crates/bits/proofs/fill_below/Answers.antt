use native.Mathlib.Omega.{arith}
use Rattle.bits.proofs.Loops.{filled}
use Rattle.bits.proofs.fill_below.Goals as goal

pub returns : goal.returns
returns c = filled _ _ _ (omega arith) (λ k h. c.loop-w.invariant.1 k (omega arith))
