-- From words to statements. A statement is its form, its place ("A statement's place is its first word"), where it stands, and the
-- words that say something, each with its position in the statement. Positions:
--
--   allow .. neverallow   p_first source   p_second target   p_class classes   p_last permissions
--   type_transition ..    p_first source   p_second target   p_class classes   p_last result
--   role allow            p_first source   p_second target
--   role_transition       p_first roles    p_second types    p_class classes   p_third or, behind classes, p_last the new role
--   type, typealias       p_first type     p_third aliases   p_second attributes
--   typeattribute         p_first type     p_second attributes
--   typebounds            p_first parent   p_second children
--   attribute             p_first name     permissive       p_first type
--   bool                  p_first name     p_second `true` or `false`
--   role, user            p_first name     p_second types, roles
--   common                p_first name     p_second permissions
--   class                 p_first name     p_second permissions, or p_third the common and p_fourth permissions
--   constrain             p_first classes  p_second permissions   then an expression
--   if                    an expression
--   an expression         p_test; the rest of a comparison of users, roles, types: p_users, p_roles, p_types
--
-- A word's position is known from the words before it: `step` goes from word to word, and no word is looked at twice. What `class`,
-- `role` and `allow` say is known at the word that ends the statement (`form_at`).
-- Not here: whether the words are a text of the grammar (Grammar), and what a name means (Names).
use Rattle.std.specs.Prelude.{ℕ, ◌+◌, ◌-◌, Bool, true, false, not, ◌&&◌, ◌||◌, List, [], ◌∷◌, eqb, ltb, if◌then◌else◌}
use Rattle.meaning.specs.Plain.{within, keep}
use Rattle.meaning.specs.Words.{Word}
use Rattle.meaning.specs.Keywords.{k_name, k_open, k_close, k_lparen, k_rparen, k_semi, k_colon, k_comma, k_tilde, k_star, k_minus, k_class, k_common, k_role, k_allow, k_if, k_else, k_constrain, k_inherits, k_alias, k_true, k_false, k_self, k_u1, k_u2, k_r1, k_r2, k_perms, k_role_types, k_role_allow, starts, is_term}

-- ---- positions
abbrev pub p_first : ℕ
p_first = 0

abbrev pub p_second : ℕ
p_second = 1

abbrev pub p_third : ℕ
p_third = 2

abbrev pub p_fourth : ℕ
p_fourth = 3

abbrev pub p_class : ℕ
p_class = 4

abbrev pub p_last : ℕ
p_last = 5

-- further parts, which no text of the grammar has, are counted no further than this
abbrev pub p_over : ℕ
p_over = 9

abbrev pub p_test : ℕ
p_test = 10

abbrev pub p_users : ℕ
p_users = 11

abbrev pub p_roles : ℕ
p_roles = 12

abbrev pub p_types : ℕ
p_types = 13

-- behind the expression of an if
abbrev pub p_behind : ℕ
p_behind = 14

-- what a word stands behind
abbrev pub plain : ℕ
plain = 0

abbrev pub minus : ℕ
minus = 1

abbrev pub tilde : ℕ
tilde = 2

-- ---- the reading of a statement: its keyword (0 outside one), the position, what the next name stands behind, whether a braced
-- list is open, the open parentheses of an expression
pub record Seen : Type 0 where
  pub kw : ℕ
  pub pos : ℕ
  pub sign : ℕ
  pub inside : Bool
  pub depth : ℕ

abbrev pub begun : ℕ → Seen
begun k = record { kw = k; pos = p_first; sign = plain; inside = false; depth = 0 }

abbrev pub outside : Seen
outside = begun 0

-- at another position, of depth d
abbrev pub moved : Seen → ℕ → ℕ → Seen
moved st p d = record { kw = st.kw; pos = p; sign = plain; inside = false; depth = d }

-- behind `-` or `~`; in a braced list
abbrev pub signed : Seen → ℕ → Seen
signed st s = record { kw = st.kw; pos = st.pos; sign = s; inside = st.inside; depth = st.depth }

abbrev pub opened : Seen → Seen
opened st = record { kw = st.kw; pos = st.pos; sign = st.sign; inside = true; depth = st.depth }

-- one parenthesis deeper: no text within the sizes comes near 63
abbrev pub deeper : ℕ → ℕ
deeper d = if ltb d 63 then d + 1 else d

-- an expression is being read; the rest of a comparison is
abbrev pub in_e : Seen → Bool
in_e st = within p_test p_types st.pos

abbrev pub comparing : Seen → Bool
comparing st = within p_users p_types st.pos

-- the position behind a part: behind the permissions of a constrain its expression begins
unfoldable pub behind : Seen → ℕ
behind st =
    if eqb st.kw k_constrain && eqb st.pos p_second then p_test
    else if ltb st.pos p_over then st.pos + 1
    else st.pos

-- what u1 .. t2 compare
unfoldable pub compared : ℕ → ℕ
compared k = if within k_u1 k_u2 k then p_users else if within k_r1 k_r2 k then p_roles else p_types

-- after a word of kind k in an expression; a comparison ends with u1 .. t2, a name or the brace behind names
unfoldable pub step_e : Seen → ℕ → Seen
step_e st k =
    if comparing st
    then (if eqb k k_open then opened st
    else if is_term k || eqb k k_close || (eqb k k_name && not st.inside) then moved st p_test st.depth
    else st)
    else if is_term k then moved st (compared k) st.depth
    else if eqb k k_lparen then moved st p_test (deeper st.depth)
    else if eqb k k_rparen then (if eqb st.depth 0 then moved st p_behind 0 else moved st p_test (st.depth - 1))
    else st

-- after a word of kind k elsewhere
unfoldable pub step_s : Seen → ℕ → Seen
step_s st k =
    if eqb k k_open then (if eqb st.kw k_if || eqb st.kw k_else then outside else opened st)
    else if eqb k k_close then moved st (behind st) 0
    else if eqb k k_lparen && eqb st.kw k_if then moved st p_test 0
    else if eqb k k_colon then moved st p_class 0
    else if eqb k k_comma then moved st p_second 0
    else if eqb k k_alias || eqb k k_inherits then moved st p_third 0
    else if eqb k k_minus then signed st minus
    else if eqb k k_tilde then signed st tilde
    else if eqb k k_name || eqb k k_self || eqb k k_star
    then (if not st.inside then moved st (behind st) 0 else if eqb st.sign minus then signed st plain else st)
    else st

unfoldable pub step : Seen → ℕ → Seen
step st k =
    elim (starts k) [
      | true ↦ begun k
      | false ↦
          elim (eqb k k_semi) [
            | true ↦ outside
            | false ↦
                elim (in_e st) [ true ↦ step_e st k | false ↦ step_s st k ]
          ]
    ]

-- the word is one of an expression; an if's own pair of parentheses is not
unfoldable pub of_e : Seen → ℕ → Bool
of_e st k = in_e st && not (starts k) && not (eqb k k_semi) && not (eqb st.kw k_if && eqb st.pos p_test && eqb k k_rparen && eqb st.depth 0)

-- ---- statements
-- a word that says something
pub record Item : Type 0 where
  pub kind : ℕ
  pub at : ℕ
  pub text : List ℕ
  pub pos : ℕ
  pub sign : ℕ

-- where a statement stands: outside ifs, or in the first or the `else` branch of the if of that number, counted from 0
pub data Branch : Type 0 where
  always : Branch
  when_true : ℕ → Branch
  when_false : ℕ → Branch

-- `form` is the keyword's kind, or `k_perms`, `k_role_types` or `k_role_allow`; a statement that breaks off may have 0
pub record Statement : Type 0 where
  pub form : ℕ
  pub at : ℕ
  pub branch : Branch
  pub items : List Item

-- the words that say something outside expressions
abbrev pub saying : ℕ → Bool
saying k = eqb k k_name || eqb k k_self || eqb k k_star || eqb k k_true || eqb k k_false

-- `class` and `role` name one: a braced list there, which no text of the grammar has, says nothing
unfoldable pub idle : Seen → Bool
idle st = (eqb st.kw k_class || eqb st.kw k_role) && eqb st.pos p_first && st.inside

unfoldable pub says : Seen → ℕ → Bool
says st k = starts st.kw && not (eqb st.kw k_else) && not (idle st) && (of_e st k || saying k)

unfoldable pub item_of : Seen → Word → Item
item_of st w = record { kind = w.kind; at = w.at; text = w.text; pos = st.pos; sign = st.sign }

-- the word k ends the statement: the next one begins, `;`, or the brace behind an if's condition or `else`
unfoldable pub ends : Seen → ℕ → Bool
ends st k = starts k || eqb k k_semi || (eqb k k_open && (eqb st.kw k_if || eqb st.kw k_else))

-- the form of the statement that the word k ends. `class NAME` before another `class` or a `common`, and `role NAME;`, declare;
-- with more behind the name they do not. `allow` with two parts is role allow.
unfoldable pub form_at : Seen → ℕ → ℕ
form_at st k =
    if eqb st.kw k_class then (if eqb st.pos p_second && (eqb k k_class || eqb k k_common) then k_class else k_perms)
    else if eqb st.kw k_common || eqb st.kw k_if then st.kw
    else if not (eqb k k_semi) then 0
    else if eqb st.kw k_role then (if eqb st.pos p_second then k_role else k_role_types)
    else if eqb st.kw k_allow && eqb st.pos p_third then k_role_allow
    else st.kw

-- the branch behind the word k, which is before it in b, with n ifs begun; a brace that closes no list ends a branch
unfoldable pub branch_at : Seen → ℕ → Branch → ℕ → Branch
branch_at st n b k =
    if eqb k k_if then when_true n
    else if eqb k k_else then when_false (n - 1)
    else if eqb k k_close && not st.inside then always
    else b

-- the items up to the word that begins the next statement, the form of the statement that they are of, and the statements from there
pub record Gathered : Type 0 where
  pub items : List Item
  pub form : ℕ
  pub rest : List Statement

-- n ifs begun, in the branch b
unfoldable pub gather : Seen → ℕ → Branch → List Word → Gathered
gather st n b [] = record { items = []; form = 0; rest = [] }
gather st n b (w ∷ ws) =
    let k = w.kind in
    let r = gather (step st k) (if eqb k k_if then n + 1 else n) (branch_at st n b k) ws in
    let f = if ends st k then form_at st k else r.form in
    if starts k && not (eqb k k_else)
    then record { items = []; form = f; rest = record { form = r.form; at = w.at; branch = b; items = r.items } ∷ r.rest }
    else record { items = if says st k then item_of st w ∷ r.items else r.items; form = f; rest = r.rest }

unfoldable pub statements_of : List Word → List Statement
statements_of ws = (gather outside 0 always ws).rest

-- the words of a statement at a position
unfoldable pub part : ℕ → Statement → List Item
part p st = keep (λ i. eqb i.pos p) st.items

-- the names among them
unfoldable pub names_at : ℕ → Statement → List Item
names_at p st = keep (λ i. eqb i.pos p && eqb i.kind k_name) st.items

-- the statements of a form
unfoldable pub of_form : ℕ → List Statement → List Statement
of_form k ss = keep (λ st. eqb st.form k) ss
