-- `bits::lowest_common` meets its contract: the first two words that share a digit have the lowest number in both (lowest-some), and
-- where no two do no number is in both (lowest-nowhere). The words gone over are all those of a: of a part of them the check would have
-- to find that it is the whole. Assumes nothing.
use Rattle.std.proofs.Common.{rules, tests, ap, ◌∙◌, Some, ℕ, ◌+◌, ◌*◌}
use Rattle.std.proofs.lemmas.List.{take_all}
use Rattle.std.proofs.lemmas.Iterator.{IsFirst-from_position, YieldsList-from_slice, YieldsList-from_zip}
use lib.Bits.{and_lt}
use Rattle.std.proofs.option.Match.{if_none, if_some}
use Rattle.bits.proofs.Common.{Parted, Sharing, lowest-nowhere, lowest-some}
use Rattle.bits.proofs.lowest_common.Goals as goal

pub returns-in_err-i : goal.returns-in_err-i
returns-in_err-i c =
    c.from_residual.ensures ∙ lowest-nowhere _ _ (if_none _ _ c.in_err-i.was
    (IsFirst-from_position c.position.new.self _ c.position.result Sharing Parted c.position.ensures.ran
    (YieldsList-from_zip (YieldsList-from_slice c.args.a.now (rw c.zip.ensures.first (c.iter.ensures.rest ∙ search (rules, take_all))))
    (YieldsList-from_slice c.args.b.now cc))
    (λ x q k. search (rules, tests)) (λ x q k. search (rules, tests))))

pub returns : goal.returns
returns c =
    let i = c.in_ok-i.i in
    let f = if_some _ _ _ c.in_ok-i.was
    (IsFirst-from_position c.position.new.self _ c.position.result Sharing Parted c.position.ensures.ran
    (YieldsList-from_zip (YieldsList-from_slice c.args.a.now (rw c.zip.ensures.first (c.iter.ensures.rest ∙ search (rules, take_all))))
    (YieldsList-from_slice c.args.b.now cc))
    (λ x q k. search (rules, tests)) (λ x q k. search (rules, tests))) in
    ap (λ (t : ℕ). Some (32 * i + t)) c.lowest_bit.ensures.is
    ∙ lowest-some _ _ i f.0 f.1 (and_lt 32 _ _ (c.type_inv.a i).fits (c.type_inv.b i).fits) f.2
