-- `listing::Rows::put_word` meets its contract: each return is one law of Steps. Assumes nothing.
use mathlib.Core.Path.{sym, ◌∙◌}
use Rattle.listing.proofs.Steps.{begin-word, item-word, other_word}
use Rattle.listing.proofs.Rows.put_word.Goals as goal

pub returns-then-begins : goal.returns-then-begins
returns-then-begins c =
    begin-word _ _ _ _ _ _ _ c.requires c.put_end.ensures _ _ _ c.put_stmt.ensures (sym c.begins.ensures ∙ c.if-begins.true)

pub returns-then-says : goal.returns-then-says
returns-then-says c =
    item-word _ _ _ _ _ _ _ c.requires c.put_end.ensures _ _ c.put_item.ensures _
    (sym c.begins.ensures ∙ c.if-begins.false) (sym c.says.ensures ∙ c.if-says.true)

pub returns-else-says : goal.returns-else-says
returns-else-says c =
    other_word _ _ _ _ _ _ _ c.requires c.put_end.ensures _
    (sym c.begins.ensures ∙ c.if-begins.false) (sym c.says.ensures ∙ c.if-says.false)
