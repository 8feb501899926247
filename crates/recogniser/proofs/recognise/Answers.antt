-- `recogniser::recognise` meets its contract: a text that is too long is refused, and any other is read word by word (`Reached`).
-- Assumes nothing.
use native.Mathlib.Omega.{arith}
use mathlib.Core.Path.{◌≡◌, sym, ◌∙◌, ap}
use Rattle.std.proofs.Common.{rules}
use Rattle.recogniser.specs.Refusal.{of_verdict}
use Rattle.recogniser.proofs.Laws.{refusal-long, refusal-read}
use Rattle.recogniser.proofs.Reached.{reached-first, reached-asks, reached-stop, reached-next, reached-end}
use Rattle.recogniser.proofs.recognise.Goals as goal

pub returns-then-text-gt-TEXT_SIZE : goal.returns-then-text-gt-TEXT_SIZE
returns-then-text-gt-TEXT_SIZE c = sym (refusal-long _ (omega arith))

pub loop-w-init : goal.loop-w-init
loop-w-init c = rw (c.into_iter-w-iterator.ensures.into_iter_gives, c.new-w-items.ensures) (reached-first _ _ c.new-reading.ensures)

pub take-requires : goal.take-requires
take-requires c = reached-asks _ _ _ _ _ c.in-Some.ensures.steps c.loop-w.invariant (omega arith)

pub loop-w-preserved : goal.loop-w-preserved
loop-w-preserved c = reached-next _ _ _ _ _ c.in-Some.ensures.steps c.loop-w.invariant _ _ c.take.ensures _ c.in_ok-take.was

pub returns-in_err-take : goal.returns-in_err-take
returns-in_err-take c =
    let stop = reached-stop _ _ _ _ _ c.in-Some.ensures.steps c.loop-w.invariant _ _ c.take.ensures _ c.in_err-take.was in
    let r : c.from_residual.result ≡ c.take.result = search rules in
    r ∙ stop ∙ sym (refusal-read _ (omega arith))

pub returns : goal.returns
returns c =
    c.finish.ensures
    ∙ ap of_verdict (reached-end _ _ _ c.in-None.ensures.steps.0 c.loop-w.invariant)
    ∙ sym (refusal-read _ (omega arith))
