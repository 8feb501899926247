-- What is written so far, put together with what the words behind give: the whole does not change from word to word.
--
--   onto st b w g           `gather` at the word w, in the state st and the branch b, where the words behind it give g
--   ifs_behind n k           the ifs begun behind a word of kind k
--   completed st known g    the open statement st: g has its other items, and its form if that is not known yet
--   joined_with s items stmts m n known g
--                           m statements and n items stand in the rows, the last statement is open; behind them comes g
--   Firsts stmts m n        no statement's first item is past the n items
--   Inside size items n     the n items lie inside a text of that size
use Rattle.std.specs.Prelude.{ℕ, zero, suc, ◌+◌, ◌≤◌, ◌<◌, Bool, not, ◌&&◌, List, [], ◌∷◌, ◌++◌, eqb, if◌then◌else◌}
use Rattle.meaning.specs.Plain.{each, up_to}
use Rattle.meaning.specs.Keywords.{starts, k_if, k_else}
use Rattle.meaning.specs.Words.{Word}
use Rattle.meaning.specs.Statements.{Seen, Branch, Statement, Gathered, says, item_of, ends, form_at}
use Rattle.listing.specs.declared.Rows.{Rows}
use Rattle.listing.specs.Listed.{entry, stmt_at}

unfoldable pub onto : Seen → Branch → Word → Gathered → Gathered
onto st b w g =
    let k = w.kind in
    let f = if ends st k then form_at st k else g.form in
    if starts k && not (eqb k k_else)
    then record { items = []; form = f; rest = record { form = g.form; at = w.at; branch = b; items = g.items } ∷ g.rest }
    else record { items = if says st k then item_of st w ∷ g.items else g.items; form = f; rest = g.rest }

abbrev pub ifs_behind : ℕ → ℕ → ℕ
ifs_behind n k = if eqb k k_if then n + 1 else n

unfoldable pub completed : Statement → Bool → Gathered → Statement
completed st known g = record { form = if known then st.form else g.form; at = st.at; branch = st.branch; items = st.items ++ g.items }

unfoldable pub joined_with : List ℕ → List ℕ → List ℕ → ℕ → ℕ → Bool → Gathered → List Statement
joined_with s items stmts zero n known g = g.rest
joined_with s items stmts (suc m) n known g =
    each (stmt_at s items stmts (suc m) n) (up_to m) ++ completed (stmt_at s items stmts (suc m) n m) known g ∷ g.rest

abbrev pub joined_rows : List ℕ → List ℕ → List ℕ → Rows → Gathered → List Statement
joined_rows s items stmts r g = joined_with s items stmts r.statements r.items r.known g

pub record Firsts (stmts : List ℕ) (m n : ℕ) : Type 0 where
  pub first : (j : ℕ) → j < m → entry stmts j 3 ≤ n

pub record Inside (size : ℕ) (items : List ℕ) (n : ℕ) : Type 0 where
  pub end : (i : ℕ) → i < n → entry items i 0 + entry items i 1 ≤ size
