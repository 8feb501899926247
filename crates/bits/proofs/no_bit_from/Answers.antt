use mathlib.Core.Path.{sym}
use native.Mathlib.Omega.{arith}
use Rattle.bits.proofs.Loops.{none-past, none-fails}
use Rattle.bits.proofs.no_bit_from.Goals as goal

pub returns-then-word_below-w : goal.returns-then-word_below-w
returns-then-word_below-w c = let i = c.loop-w.w-index in let m = c.word_below.ensures in
    sym (none-fails _ _ i (c.type_inv.ws i).fits (rw (← c.loop-w.invariant.0) (omega arith)))

pub returns : goal.returns
returns c = sym (none-past _ _ (λ k h. c.loop-w.invariant.1 k (omega arith)))
