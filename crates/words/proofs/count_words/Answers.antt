-- `words::count_words` meets its contract: the iterator gives all words, and there are no more of these than bytes. Assumes nothing.
use native.Mathlib.Omega.{arith}
use mathlib.Core.Path.{◌∙◌, ap}
use lib.ListN.{length}
use Rattle.std.proofs.Common.{inl}
use Rattle.meaning.specs.Words.{words_of}
use Rattle.meaning.proofs.Lists.{length-each}
use Rattle.words.specs.Spans.{span_of, spans_left}
use Rattle.words.proofs.Behind.{few-words, drained}
use Rattle.words.proofs.count_words.Goals as goal

pub count-requires-clause-fits : goal.count-requires-clause-fits
count-requires-clause-fits c =
    let s = c.args.text.now in
    let all = ap length c.new.ensures ∙ length-each span_of (words_of s) in
    inl (omega (arith, all, few-words s))

pub returns : goal.returns
returns c =
    let r = c.count.ensures.ran in
    r.2 ∙ ap length (drained spans_left c.new.result r.0 r.1) ∙ ap length c.new.ensures ∙ length-each span_of (words_of c.args.text.now)
