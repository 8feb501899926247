-- `words::word_at` meets its contract: each return is one law of Outcomes. Assumes nothing.
use native.Mathlib.Omega.{arith}
use mathlib.Core.Path.{sym, ◌∙◌}
use Rattle.words.proofs.Outcomes.{name-ends, at-end, at_name, at_mark}
use Rattle.words.proofs.word_at.Goals as goal

pub returns-then-text-start : goal.returns-then-text-start
returns-then-text-start c =
    let q = c.scan_to-start in
    let r = at-end _ _ q.result q.ensures c.if-text-start.true in
    record { value = r.0; placed = r.1 }

pub slice_bounds-kind_of-count : goal.slice_bounds-kind_of-count
slice_bounds-kind_of-count c = omega (arith, name-ends _ _ _ (omega arith) c.scan_to-end.ensures)

pub slice_bounds-kind_of-start : goal.slice_bounds-kind_of-start
slice_bounds-kind_of-start c = omega (arith, name-ends _ _ _ (omega arith) c.scan_to-end.ensures)

pub slice_bounds-kind_of-end : goal.slice_bounds-kind_of-end
slice_bounds-kind_of-end c = omega (arith, name-ends _ _ _ (omega arith) c.scan_to-end.ensures)

pub returns-then-is_letter : goal.returns-then-is_letter
returns-then-is_letter c =
    let q = c.scan_to-start in
    let r = at_name _ _ q.result q.ensures (omega arith)
    (sym c.is_letter.ensures ∙ c.if-is_letter.true)
    _ c.scan_to-end.ensures _ c.kind_of-kind.ensures
    in
    record { value = r.0; placed = r.1 }

pub returns : goal.returns
returns c =
    let q = c.scan_to-start in
    let r = at_mark _ _ q.result q.ensures (omega arith)
    (sym c.is_letter.ensures ∙ c.if-is_letter.false) _ c.mark_at.ensures
    in
    record { value = r.0; placed = r.1 }
