-- The statements of a text and their items as rows of numbers, four to a row: `items` has a row for each item, in the order of the
-- text, and `stmts` one for each statement.
--
--   items    start, length in bytes, kind + 256 * sign, position
--   stmts    form, place of the first word, branch, number of the first item
--
--   entry l i q                    number q of row i of l
--   item_at s items i               the item of row i, for the text s
--   behind_items stmts m n j        the number behind the last item of statement j, of m statements with n items
--   stmt_at s items stmts m n j     statement j
--   listed s items stmts m n       all statements
--
-- A kind, a position and a form are bytes: the readers take them so from any rows.
use Rattle.std.specs.Prelude.{ℕ, ◌+◌, ◌-◌, ◌*◌, ◌/◌, ◌%◌, List, ltb, take, drop, get_or, if◌then◌else◌}
use Rattle.meaning.specs.Plain.{each, numbers, up_to}
use Rattle.meaning.specs.Statements.{Item, Statement}
use Rattle.listing.specs.Branches.{branch_of}

abbrev pub entry : List ℕ → ℕ → ℕ → ℕ
entry l i q = get_or l (4 * i + q) 0

unfoldable pub item_at : List ℕ → List ℕ → ℕ → Item
item_at s items i =
    record {
      kind = entry items i 2 % 256;
      at = entry items i 0;
      text = take (entry items i 1) (drop (entry items i 0) s);
      pos = entry items i 3 % 256;
      sign = entry items i 2 / 256;
    }

-- the items from one number up to another
unfoldable pub items_from : List ℕ → List ℕ → ℕ → ℕ → List Item
items_from s items a z = each (item_at s items) (numbers a (z - a))

unfoldable pub behind_items : List ℕ → ℕ → ℕ → ℕ → ℕ
behind_items stmts m n j = if ltb (j + 1) m then entry stmts (j + 1) 3 else n

unfoldable pub stmt_at : List ℕ → List ℕ → List ℕ → ℕ → ℕ → ℕ → Statement
stmt_at s items stmts m n j =
    record {
      form = entry stmts j 0 % 256;
      at = entry stmts j 1;
      branch = branch_of (entry stmts j 2);
      items = items_from s items (entry stmts j 3) (behind_items stmts m n j);
    }

unfoldable pub listed : List ℕ → List ℕ → List ℕ → ℕ → ℕ → List Statement
listed s items stmts m n = each (stmt_at s items stmts m n) (up_to m)
