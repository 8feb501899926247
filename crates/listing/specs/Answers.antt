-- What the functions ask and answer. l and l' are an array before and after, r and r' the counts of the rows.
--
--   RowPut                      a row is put in
--   FormPut, Ended              the form of the open statement is put in; the same at a word that may end it
--   StmtPut, ItemPut            the row of a statement that begins; that of an item
--   RoomFor, WordPut            a word is put in, if there is room for it
--   Passed                      the reading behind a word
--   AllListed                   the statements of a text stand in the rows
--   ItemRead, StmtRead          an item and a statement are read
use Rattle.std.specs.Prelude.{ℕ, ◌+◌, ◌-◌, ◌*◌, ◌≤◌, ◌<◌, ◌≡◌, true, false, List, length, take, drop, get_or}
use Rattle.meaning.specs.Words.{Word, words_of}
use Rattle.meaning.specs.Statements.{Seen, Item, Branch, Statement, Gathered, ends, form_at, step, branch_at, statements_of}
use Rattle.words.specs.declared.Span.{Span}
use Rattle.words.specs.Spans.{span_of}
use Rattle.listing.specs.declared.Listed.{Listed}
use Rattle.listing.specs.declared.Rows.{Rows}
use Rattle.listing.specs.declared.carry.Track.{Track}
use Rattle.listing.specs.declared.row.ItemRow.{ItemRow}
use Rattle.listing.specs.declared.row.StmtRow.{StmtRow}
use Rattle.listing.specs.Branches.{most, branch_number}
use Rattle.listing.specs.Listed.{entry, item_at, items_from, stmt_at, listed}
use Rattle.listing.specs.Joined.{onto, ifs_behind, joined_with, joined_rows, Firsts, Inside}

-- ---- writing
-- row i has the four numbers, and the rows before it have theirs
pub record RowPut (l l' : List ℕ) (i a b c d : ℕ) : Type 0 where
  pub zeroth : entry l' i 0 ≡ a
  pub first : entry l' i 1 ≡ b
  pub second : entry l' i 2 ≡ c
  pub third : entry l' i 3 ≡ d
  pub before : (p : ℕ) → p < 4 * i → get_or l' p 0 ≡ get_or l p 0

-- the rows say the form that was to come, and with it the whole is the same
pub record FormPut (l l' : List ℕ) (r : Rows) (form : ℕ) : Type 0 where
  pub joins : (s items : List ℕ) (g : Gathered) → g.form ≡ form
      → joined_rows s items l r g ≡ joined_with s items l' r.statements r.items true g
  pub firsts : (j : ℕ) → entry l' j 3 ≡ entry l j 3

-- k is the kind of the word
pub record Ended (l l' : List ℕ) (r r' : Rows) (st : Seen) (k : ℕ) : Type 0 where
  pub joins : (s items : List ℕ) (g : Gathered) → (ends st k ≡ true → g.form ≡ form_at st k)
      → joined_rows s items l r g ≡ joined_rows s items l' r' g
  pub known : ends st k ≡ true → r'.known ≡ true
  pub statements : r'.statements ≡ r.statements
  pub items : r'.items ≡ r.items
  pub firsts : (j : ℕ) → entry l' j 3 ≡ entry l j 3

-- the statement begins at the place p, in the branch b
pub record StmtPut (l l' : List ℕ) (r r' : Rows) (p : ℕ) (b : Branch) : Type 0 where
  pub rows : r' ≡ record { statements = r.statements + 1; items = r.items; known = false }
  pub row : RowPut l l' r.statements 0 p (branch_number b) r.items

-- the item is the word w: its kind and its position are bytes
pub record ItemPut (l l' : List ℕ) (r r' : Rows) (st : Seen) (w : Span) : Type 0 where
  pub rows : r' ≡ record { statements = r.statements; items = r.items + 1; known = r.known }
  pub row : RowPut l l' r.items w.start (w.end - w.start) (w.kind + 256 * st.sign) st.pos
  pub kind : w.kind < 256
  pub pos : st.pos < 256

pub record RoomFor (stmts : List ℕ) (r : Rows) (w : Span) : Type 0 where
  pub row_items : r.items < most
  pub row_stmts : r.statements < most
  pub ordered : w.start ≤ w.end
  pub inside : w.end ≤ most
  pub firsts : Firsts stmts r.statements r.items

-- x is the word, as the definitions have it
pub record WordPut (items stmts items' stmts' : List ℕ) (r r' : Rows) (st : Seen) (b : Branch) (w : Span) : Type 0 where
  pub joins : (s : List ℕ) (x : Word) (g : Gathered) → w ≡ span_of x → x.text ≡ take (w.end - w.start) (drop w.start s)
      → joined_rows s items stmts r (onto st b x g) ≡ joined_rows s items' stmts' r' g
  pub firsts : Firsts stmts' r'.statements r'.items
  pub inside : (size : ℕ) → w.end ≤ size → Inside size items r.items → Inside size items' r'.items
  pub more_statements : r'.statements ≤ r.statements + 1
  pub more_items : r'.items ≤ r.items + 1

pub record Passed (t t' : Track) (k : ℕ) : Type 0 where
  pub seen : t'.seen ≡ step t.seen k
  pub ifs : t'.ifs ≡ ifs_behind t.ifs k
  pub branch : t'.branch ≡ branch_at t.seen t.ifs t.branch k

pub record AllListed (s items stmts : List ℕ) (r : Listed) : Type 0 where
  pub same : statements_of (words_of s) ≡ listed s items stmts r.statements r.items
  pub few_statements : r.statements ≤ most
  pub few_items : r.items ≤ most
  pub firsts : Firsts stmts r.statements r.items
  pub inside : Inside (length s) items r.items

-- ---- reading
unfoldable pub item_of_row : List ℕ → ItemRow → Item
item_of_row s r = record { kind = r.kind; at = r.start; text = take (r.end - r.start) (drop r.start s); pos = r.pos; sign = r.sign }

unfoldable pub stmt_of_row : List ℕ → List ℕ → StmtRow → Statement
stmt_of_row s items r = record { form = r.form; at = r.at; branch = r.branch; items = items_from s items r.first r.end }

-- for any text; one of n items inside a text of that size lies inside it
pub record ItemRead (items : List ℕ) (i : ℕ) (r : ItemRow) : Type 0 where
  pub item : (s : List ℕ) → item_of_row s r ≡ item_at s items i
  pub ordered : r.start ≤ r.end
  pub inside : (size n : ℕ) → Inside size items n → i < n → r.end ≤ size

-- for any text and items; its items are among the n
pub record StmtRead (stmts : List ℕ) (m n j : ℕ) (r : StmtRow) : Type 0 where
  pub statement : (s items : List ℕ) → stmt_of_row s items r ≡ stmt_at s items stmts m n j
  pub within : Firsts stmts m n → (r.first ≤ n) × (r.end ≤ n)
