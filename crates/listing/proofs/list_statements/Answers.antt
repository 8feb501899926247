use mathlib.Core.Path.{◌∙◌, ap}
use Rattle.words.specs.Spans.{spans_left}
use Rattle.words.proofs.Behind.{spans-first}
use Rattle.listing.proofs.Turn.{turn-start, turn_end, turn-room, turn-next}
use Rattle.listing.proofs.list_statements.Goals as goal

pub loop-w-init : goal.loop-w-init
loop-w-init c =
    let all = ap spans_left c.into_iter-w-iterator.ensures.into_iter_gives ∙ c.new-w-items.ensures in
    let t = c.new-track.ensures in
    turn-start _ _ _ _ _ all t.0 t.1 t.2

pub put_word-requires : goal.put_word-requires
put_word-requires c =
    let now = c.loop-w.invariant in
    let x = spans-first now.words _ _ (now.spans ∙ c.in-Some.ensures.steps) in
    turn-room _ _ _ _ _ _ now _ x.word x.others x.are x.span c.requires

pub loop-w-preserved : goal.loop-w-preserved
loop-w-preserved c =
    let now = c.loop-w.invariant in
    let x = spans-first now.words _ _ (now.spans ∙ c.in-Some.ensures.steps) in
    turn-next _ _ _ _ _ _ now _ x.word x.others x.are x.span _ x.spans _ _ _ _ c.put_word.ensures c.next-in-loop-w.ensures

pub returns : goal.returns
returns c = turn_end _ _ _ _ _ _ c.loop-w.invariant c.in-None.ensures.steps.0 c.requires _ c.put_form.ensures
