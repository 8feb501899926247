-- Refusals 3 and 7: "3 or 7, whichever comes first in the text (3 at the same word)". The words are read one after the other with
-- what is left of the grammar, the reading of the statement, and the counts.
-- "Text 32,768 bytes; identifier 63; types 128, attributes 32, aliases 32, classes 32, commons 8, roles 32 with the predeclared
-- `object_r`, users 32, booleans 16. Common 16 permissions; class own list 32, or 16 when it inherits. AV rows 512 (one per class
-- word of each AV rule), type rows 128 (likewise), role allow and role_transition statements 64 together, ifs 32, constrains 32, 40
-- words and 16 nested parentheses per expression, an if's own pair in neither. The limit itself is accepted. Repeats count;
-- statements count at their `;`, an if at `if`."
-- Not here: the text's own size (Load).
use Rattle.std.specs.Prelude.{ℕ, ◌+◌, Bool, not, ◌&&◌, ◌||◌, List, [], ◌∷◌, eqb, ltb, get_or, set, length, replicate, if◌then◌else◌}
use Rattle.meaning.specs.Words.{Word}
use Rattle.meaning.specs.Grammar.{G, policy, left, is_none, nullable}
use Rattle.meaning.specs.Statements.{Seen, outside, step, of_e, saying, ends, form_at, p_first, p_second, p_third, p_fourth, p_class}
use Rattle.meaning.specs.Keywords.{k_name, k_lparen, k_class, k_common, k_attribute, k_type, k_typealias, k_bool, k_role, k_role_transition, k_if, k_user, k_constrain, k_role_allow, starts, is_type_rule, is_av}

-- ---- what is counted over the whole text
abbrev pub c_types : ℕ
c_types = 0

abbrev pub c_attributes : ℕ
c_attributes = 1

abbrev pub c_aliases : ℕ
c_aliases = 2

abbrev pub c_classes : ℕ
c_classes = 3

abbrev pub c_commons : ℕ
c_commons = 4

abbrev pub c_roles : ℕ
c_roles = 5

abbrev pub c_users : ℕ
c_users = 6

abbrev pub c_bools : ℕ
c_bools = 7

abbrev pub c_av_rows : ℕ
c_av_rows = 8

abbrev pub c_type_rows : ℕ
c_type_rows = 9

abbrev pub c_role_rules : ℕ
c_role_rules = 10

abbrev pub c_ifs : ℕ
c_ifs = 11

abbrev pub c_constrains : ℕ
c_constrains = 12

-- nothing
abbrev pub c_none : ℕ
c_none = 13

-- in that order; 31 roles beside `object_r`
unfoldable pub limits : List ℕ
limits = 128 ∷ 32 ∷ 32 ∷ 32 ∷ 8 ∷ 31 ∷ 32 ∷ 16 ∷ 512 ∷ 128 ∷ 64 ∷ 32 ∷ 32 ∷ []

abbrev pub longest_name : ℕ
longest_name = 63

abbrev pub expression_words : ℕ
expression_words = 40

abbrev pub nested_parentheses : ℕ
nested_parentheses = 16

abbrev pub common_permissions : ℕ
common_permissions = 16

abbrev pub own_permissions : ℕ
own_permissions = 32

abbrev pub own_beside_common : ℕ
own_beside_common = 16

-- what a word that says something counts for, by the statement's keyword and the position
unfoldable pub name_count : ℕ → ℕ → ℕ
name_count k p =
    if eqb k k_type && eqb p p_first then c_types
    else if eqb k k_attribute && eqb p p_first then c_attributes
    else if (eqb k k_type || eqb k k_typealias) && eqb p p_third then c_aliases
    else if eqb k k_common && eqb p p_first then c_commons
    else if eqb k k_user && eqb p p_first then c_users
    else if eqb k k_bool && eqb p p_first then c_bools
    else if is_av k && eqb p p_class then c_av_rows
    else if is_type_rule k && eqb p p_class then c_type_rows
    else c_none

-- what a whole statement of this form counts for
unfoldable pub form_count : ℕ → ℕ
form_count f =
    if eqb f k_class then c_classes
    else if eqb f k_role then c_roles
    else if eqb f k_role_allow || eqb f k_role_transition then c_role_rules
    else if eqb f k_constrain then c_constrains
    else c_none

-- what a word of kind k counts for; `class NAME` and `role NAME` at the word that shows that they declare
unfoldable pub count_of : Seen → ℕ → ℕ
count_of st k =
    if saying k then name_count st.kw st.pos
    else if eqb k k_if then c_ifs
    else if ends st k then form_count (form_at st k)
    else c_none

-- ---- what is counted in one statement: words of an expression, permissions. The limit for this word; 0 where it does not count.
unfoldable pub own_limit : Seen → ℕ → ℕ
own_limit st k =
    if of_e st k then expression_words
    else if not (eqb k k_name) then 0
    else if eqb st.kw k_common && eqb st.pos p_second then common_permissions
    else if eqb st.kw k_class && eqb st.pos p_second then own_permissions
    else if eqb st.kw k_class && eqb st.pos p_fourth then own_beside_common
    else 0

-- `totals` by what is counted, `own` of the statement that is being read
pub record Counts : Type 0 where
  pub totals : List ℕ
  pub own : ℕ

unfoldable pub no_counts : Counts
no_counts = record { totals = replicate 14 0; own = 0 }

unfoldable pub counted : Seen → ℕ → Counts → Counts
counted st k c =
    record {
      totals = set c.totals (count_of st k) (get_or c.totals (count_of st k) 0 + 1);
      own = if starts k then 0 else if eqb (own_limit st k) 0 then c.own else c.own + 1;
    }

-- the word goes past a size; c has it counted
unfoldable pub exceeds : Seen → Word → Counts → Bool
exceeds st w c =
    let k = w.kind in
    (eqb k k_name && ltb longest_name (length w.text))
    || (ltb (count_of st k) c_none && ltb (get_or limits (count_of st k) 0) (get_or c.totals (count_of st k) 0))
    || (ltb 0 (own_limit st k) && ltb (own_limit st k) c.own)
    || (of_e st k && eqb k k_lparen && eqb st.depth nested_parentheses)

-- "place is the word that exceeds it": where a class or a role is counted late, the name before
unfoldable pub place_of : Seen → Word → ℕ → ℕ
place_of st w last = if eqb (count_of st w.kind) c_classes || eqb (count_of st w.kind) c_roles then last else w.at

-- ---- the answer of the reading: the text stands, or 3 or 7 with the place
-- 3: "place is the first word (or bad byte) with which no text of the grammar begins, or the text's length"
pub data Verdict : Type 0 where
  fits : Verdict
  ungrammatical : ℕ → Verdict
  oversize : ℕ → Verdict

-- `end` is the text's length, `last` the place of the word before
unfoldable pub read_from : ℕ → G → Seen → Counts → ℕ → List Word → Verdict
read_from end g st c last [] = if nullable g then fits else ungrammatical end
read_from end g st c last (w ∷ ws) =
    let k = w.kind in
    let g' = left g k in
    let c' = counted st k c in
    let r = read_from end g' (step st k) c' w.at ws in
    let s = if exceeds st w c' then oversize (place_of st w last) else r in
    if is_none g' then ungrammatical w.at else s

unfoldable pub read_text : ℕ → List Word → Verdict
read_text end ws = read_from end policy outside no_counts 0 ws
