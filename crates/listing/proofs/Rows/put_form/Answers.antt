-- `listing::Rows::put_form` meets its contract: each return is one law of Forms. Assumes nothing.
use native.Mathlib.Omega.{arith}
use mathlib.Core.Path.{◌≡◌, ◌∙◌}
use Rattle.std.specs.Option.{unwrap_or}
use Rattle.listing.proofs.Forms.{form-there, form-none, form-new}
use Rattle.listing.proofs.Rows.put_form.Goals as goal
use Rattle.listing.proofs.Rows.put_form.Goals.{then-self-via-then-self, then-self-via-else-self+then-self-eq0}

pub returns-then-self : goal.returns-then-self
returns-then-self c =
    elim c.then-self.branch [
      | then-self-via-then-self w ↦ form-there _ _ _ w.if-self.true
      | then-self-via-else-self+then-self-eq0 w ↦ form-none _ _ _ w.if-self-eq0.true
    ]

pub returns : goal.returns
returns c =
    let l = c.put_form.ensures in
    let form : c.from.result ≡ unwrap_or c.args.form 0 = c.from.ensures ∙ c.form.view_is ∙ c.unwrap_or-form.ensures in
    rw (← form, l.put) (form-new _ _ _ c.if-self.false c.if-self-eq0.false l.size c.requires (omega arith))
