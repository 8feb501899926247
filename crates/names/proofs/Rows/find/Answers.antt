use Prim.Native.Nat.{◌+◌}
use native.Mathlib.Omega.{arith}
use mathlib.Core.Path.{◌∙◌, ap, sym}
use Rattle.names.proofs.Links.{link_to, link_to-row, walk_start, walk_turn, walk-found, walk_none, nexts-fall}
use Rattle.names.proofs.Rows.find.Goals as goal

pub loop-next-init : goal.loop-next-init
loop-next-init c = walk_start _ _ c.args.i _ _ c.row-next.ensures (c.requires.chained.1.at c.args.i (omega arith))

pub returns-then-reads : goal.returns-then-reads
returns-then-reads c =
    walk-found _ _ c.args.i _ c.in-Some.j c.in-Some.is c.loop-next.invariant _ c.requires.chained.0 (sym c.reads.ensures ∙ c.if-reads.true)

pub loop-next-smaller : goal.loop-next-smaller
loop-next-smaller c =
    let o = c.loop-next in
    let m = ap link_to c.in-Some.is in
    let l = nexts-fall _ _ (c.args.i + 1) _ c.in-Some.j (omega (arith, o.invariant.low)) c.requires.chained.1 in
    omega (arith, link_to-row _ _ c.row-next-in-Some.ensures)

pub loop-next-preserved : goal.loop-next-preserved
loop-next-preserved c =
    let o = c.loop-next in
    let m = ap link_to c.in-Some.is in
    walk_turn _ _ c.args.i _ _ c.row-next-in-Some.ensures _ c.in-Some.j c.in-Some.is o.invariant _ c.requires.chained.0
    (sym c.reads.ensures ∙ c.if-reads.false) (c.requires.chained.1.at c.in-Some.j (omega (arith, o.invariant.low)))

pub returns : goal.returns
returns c = walk_none _ _ c.args.i _ c.in_default.is c.loop-next.invariant
