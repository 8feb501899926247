-- `names::Rows::find` meets its contract. The invariant is Walk: `next` is a first row of the slot, and no first row from there on has the
-- name. Links only lead back: the measure is the link. Assumes nothing.
use Rattle.names.proofs.Links.{Walk, link_to}
use Rattle.names.proofs.Rows.find.Given as goal

abbrev pub invariant-loop-next : goal.invariant-loop-next
invariant-loop-next l = Walk l.self.text.now l.self.items.now l.i l.next

abbrev pub decreases-loop-next : goal.decreases-loop-next
decreases-loop-next l = link_to l.next
