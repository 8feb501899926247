-- `words::marks::mark_at` meets its contract: each return is one law of Marked. Assumes nothing.
use Rattle.std.proofs.Common.{rules, ◌≡◌, ◌<◌, ◌+◌, ◌≤◌, length, [], ◌∷◌, ◌⊎◌}
use lib.ListN.{get_or}
use Rattle.std.specs.Prelude.{Some, None}
use Rattle.meaning.specs.Keywords.{mark_of}
use Rattle.kinds.specs.Kinds.{unless_none}
use Rattle.words.proofs.Marked.{mark-pair, mark-single}
use Rattle.words.proofs.marks.mark_at.Goals as goal

pub returns-in-Some : goal.returns-in-Some
returns-in-Some c =
    let s = c.args.text.now in
    let p = c.args.start in
    let inside : p + 1 < length s = search rules in
    let pair : Some c.in-Some.kind ≡ unless_none (mark_of (get_or s p 0 ∷ get_or s (p + 1) 0 ∷ [])) = search rules in
    mark-pair s p c.in-Some.kind inside pair

pub returns-in-None : goal.returns-in-None
returns-in-None c =
    let s = c.args.text.now in
    let p = c.args.start in
    let single : (length s ≤ p + 1) ⊎ (None ≡ unless_none (mark_of (get_or s p 0 ∷ get_or s (p + 1) 0 ∷ []))) = search rules in
    rw (c.unwrap_or.ensures, c.mark_one.ensures) (mark-single s p single)
