-- `words::keywords::Keywords::kind_of` meets its contract: the word is the one keyword that it can be, or it is a name. Assumes nothing.
use native.Mathlib.Omega.{arith}
use mathlib.Core.Path.{◌≡◌, sym, ◌∙◌}
use Rattle.meaning.proofs.Lists.{bytes_eq-same}
use Rattle.words.proofs.Recognised.{candidate-below, kind-found, kind-other}
use Rattle.words.proofs.keywords.Keywords.kind_of.Goals as goal
use Rattle.words.proofs.keywords.Keywords.kind_of.Goals.{in_default-via-in-Some+else-eq, in_default-via-in_default}

pub keyword-requires : goal.keyword-requires
keyword-requires c = candidate-below c.args.word.now c.in-Some.k (sym c.in-Some.is ∙ c.candidate.ensures)

pub overflow_add-k : goal.overflow_add-k
overflow_add-k c = omega (arith, candidate-below c.args.word.now c.in-Some.k (sym c.in-Some.is ∙ c.candidate.ensures))

pub returns-in-Some : goal.returns-in-Some
returns-in-Some c =
    let w = c.args.word.now in
    let k = c.in-Some.k in
    let same = sym (bytes_eq-same c.keyword.result.now w) ∙ sym c.eq.ensures ∙ c.if-eq.true in
    sym (kind-found w k (candidate-below w k (sym c.in-Some.is ∙ c.candidate.ensures)) (rw c.keyword.ensures at same))

pub returns-in_default : goal.returns-in_default
returns-in_default c =
    let w = c.args.word.now in
    sym (kind-other w (λ k e.
    elim c.in_default.branch [
      | in_default-via-in-Some+else-eq o ↦
          let this : k ≡ o.in-Some.k = cc (e ∙ sym c.candidate.ensures ∙ o.in-Some.is) in
          let other = sym (bytes_eq-same o.keyword.result.now w) ∙ sym o.eq.ensures ∙ o.if-eq.false in
          rw this (rw o.keyword.ensures at other)
      | in_default-via-in_default o ↦ absurd (o.in_default.not-Some k (c.candidate.ensures ∙ sym e))
    ]))
