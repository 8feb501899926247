-- `names::Rows::place` meets its contract. A name that is known leaves the heads right (heads-kept); else row i is the new head
-- (heads-hung). Assumes nothing.
use native.Mathlib.Omega.{arith}
use mathlib.Core.Path.{refl}
use Rattle.std.proofs.lemmas.Grind.{common_steps}
use Rattle.names.proofs.First.{first-least}
use Rattle.names.proofs.Links.{heads-kept, heads-hung}
use Rattle.names.proofs.Rows.place.Goals as goal

pub overflow_cast-result : goal.overflow_cast-result
overflow_cast-result c =
    let a = c.args in
    let f = first-least a.self.text.now a.self.items.now a.i a.i refl in
    grind (arith, common_steps)

pub returns-in-Some-clause-heads : goal.returns-in-Some-clause-heads
returns-in-Some-clause-heads c = heads-kept _ _ c.args.i _ c.requires.chained.0 (λ e. grind (arith, common_steps))

pub returns-in-None-clause-heads : goal.returns-in-None-clause-heads
returns-in-None-clause-heads c =
    heads-hung _ _ c.args.i _ c.requires.chained.0 (grind (arith, common_steps)) c.slot-h.result c.slot-h.ensures.1 (cc)
