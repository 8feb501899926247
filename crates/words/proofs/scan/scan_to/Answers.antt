use native.Mathlib.Omega.{arith}
use mathlib.Core.Path.{◌≡◌, sym, ◌∙◌}
use lib.ListN.{length}
use Rattle.std.proofs.Math.Nat.{sub-add-eq-max}
use Rattle.meaning.specs.Words.{stopped}
use Rattle.kinds.proofs.Unless.{unless-none, unless-some}
use Rattle.words.proofs.Scanned.{scan-stops, scan-goes, scan-ends}
use Rattle.words.proofs.scan.scan_to.Goals as goal

pub returns-in-None : goal.returns-in-None
returns-in-None c = let o = c.loop-i in
    sym (o.invariant.0 ∙ scan-stops o.s o.i _ (omega arith) (unless-none stopped _ (sym c.in-None.is ∙ c.after.ensures)))

pub loop-i-preserved : goal.loop-i-preserved
loop-i-preserved c = let o = c.loop-i in
    let s = unless-some stopped _ _ (sym c.in-Some.is ∙ c.after.ensures) in
    (o.invariant.0 ∙ scan-goes o.s o.i _ (omega arith) _ s.0 s.1, omega arith)

pub returns : goal.returns
returns c = let o = c.loop-i in
    let end : c.max.result ≡ o.i = omega (arith, sub-add-eq-max c.args.at (length c.args.text.now)) in
    sym (o.invariant.0 ∙ scan-ends o.s o.i _ (omega arith) ∙ sym end)
