-- `bits::meets` meets its contract: it answers whether some two words at one place share a digit (meets-shared). Assumes nothing.
use Rattle.std.proofs.Common.{rules, tests}
use Rattle.std.proofs.lemmas.Iterator.{cases_from_any, YieldsList-from_slice, YieldsList-from_zip}
use lib.Bits.{and_lt}
use Rattle.bits.proofs.Common.{Parted, Sharing, meets-shared}
use Rattle.bits.proofs.meets.Goals as goal

pub returns : goal.returns
returns c = meets-shared _ _ _
    (cases_from_any c.any.new.self _ _ Sharing Parted c.any.ensures.ran
    (YieldsList-from_zip (YieldsList-from_slice c.args.a.now (rw c.zip.ensures.first c.iter.ensures.rest))
    (YieldsList-from_slice c.args.b.now cc))
    (λ x q k. search (rules, tests)) (λ x q k. search (rules, tests)))
    (λ i. and_lt 32 _ _ (c.type_inv.a i).fits (c.type_inv.b i).fits)
