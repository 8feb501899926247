-- `words::scan::scan_to` meets its contract. The invariant: the whole scan stops where a scan from `i` in the state `s` stops, and `i` is
-- no further than the text's end, or `at` past that. Each turn is one law of Scanned. Assumes nothing.
use Rattle.std.proofs.Common.{◌≡◌, ◌+◌, ◌-◌, ◌≤◌, length, drop}
use Rattle.meaning.specs.Words.{scan_to}
use Rattle.words.proofs.scan.scan_to.Given as goal

abbrev pub invariant-loop-i : goal.invariant-loop-i
invariant-loop-i l =
    (scan_to l.fn.scan l.at (drop l.at l.text) ≡ scan_to l.s l.i (drop l.i l.text)) × (l.i ≤ l.at + (length l.text - l.at))
