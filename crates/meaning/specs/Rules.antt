-- From statements to the policy: names to numbers, lists to sets, rules to rows. The text has passed 6, 4 and 5.
use Rattle.std.specs.Prelude.{ℕ, ◌+◌, Bool, false, ◌||◌, List, [], ◌∷◌, ◌++◌, eqb, get_or, if◌then◌else◌}
use Rattle.meaning.specs.Plain.{within, any, keep, each, joined, index_from, same_bytes}
use Rattle.meaning.specs.Statements.{Item, Statement, part, names_at, of_form, p_first, p_second, p_third, p_class, p_last, p_test, p_users, p_roles, p_types}
use Rattle.meaning.specs.Names.{object_r, first_text}
use Rattle.meaning.specs.Permissions.{Name, Class, class_part, perm_part, item_name}
use Rattle.meaning.specs.Sets.{Alias, Names, name_of, type_named, is_in, type_words, name_words, has_self, named_in}
use Rattle.meaning.specs.Expressions.{Sign, same, differ, both, odd, either, Token, leaf, sign, negation, lpar, rpar, Code, postfix}
use Rattle.meaning.specs.Policy.{Set, Parent, no_parent, parent, TypeEntry, AliasEntry, Role, User, Switch, Rule, Row, TypeRow, RoleAllow, RoleTransition, Test, Constrain, Policy}
use Rattle.meaning.specs.Keywords.{bytes, k_name, k_lparen, k_rparen, k_caret, k_bang, k_same, k_differ, k_both, k_bool, k_typebounds, k_permissive, k_role_transition, k_if, k_user, k_constrain, k_true, k_and, k_not, k_role_types, k_role_allow, is_type_rule, is_av, is_term}

-- ---- names to numbers
-- the number of a name; the count of the names where it is none of them
unfoldable pub number_of : List Name → List ℕ → ℕ
number_of ns x = index_from (λ n. same_bytes x n.text) 0 ns

unfoldable pub class_number : List Class → List ℕ → ℕ
class_number cs x = index_from (λ c. same_bytes x c.name.text) 0 cs

-- of a type's name or an alias
unfoldable pub type_number : Names → List ℕ → ℕ
type_number n x = number_of n.types (type_named n.aliases x)

unfoldable pub alias_entry : Names → Alias → AliasEntry
alias_entry n a = record { name = a.name; type = number_of n.types a.type }

-- ---- lists to sets
-- the set of those names of which p holds
unfoldable pub set_of : (List ℕ → Bool) → List Name → Set
set_of p ns = each (λ x. p x.text) ns

unfoldable pub types_of : Names → List Item → Set
types_of n is = let ms = type_words n is in set_of (is_in ms) n.types

unfoldable pub roles_of : Names → List Item → Set
roles_of n is = set_of (named_in is) n.roles

-- the permissions that the statement names for the class; empty where it does not name the class
unfoldable pub perms_for : Statement → Class → Set
perms_for st c =
    let ms = name_words (perm_part st) in
    let x = set_of (is_in ms) c.perms in
    if named_in (class_part st) c.name.text then x else []

-- by class number
unfoldable pub perm_sets : Names → Statement → List Set
perm_sets n st = each (perms_for st) n.classes

unfoldable pub class_numbers : Names → Statement → List ℕ
class_numbers n st = each (λ i. class_number n.classes i.text) (class_part st)

-- ---- AV rules
unfoldable pub rule_of : Names → Statement → Rule
rule_of n st =
    record {
      kind = st.form;
      at = st.at;
      branch = st.branch;
      source = types_of n (part p_first st);
      target = types_of n (part p_second st);
      self = has_self (part p_second st);
      classes = class_numbers n st;
      perms = perm_sets n st;
    }

unfoldable pub av_statements : List Statement → List Statement
av_statements ss = keep (λ st. is_av st.form) ss

unfoldable pub rules_of : Names → List Statement → List Rule
rules_of n ss = each (rule_of n) (av_statements ss)

unfoldable pub row_of : Rule → ℕ → Row
row_of r c =
    record {
      kind = r.kind;
      at = r.at;
      branch = r.branch;
      source = r.source;
      target = r.target;
      self = r.self;
      class = c;
      perms = get_or r.perms c [];
    }

unfoldable pub rows_of : Rule → List Row
rows_of r = each (row_of r) r.classes

-- ---- type rules
unfoldable pub type_rows_of : Names → Statement → List TypeRow
type_rows_of n st =
    let s = types_of n (part p_first st) in
    let t = types_of n (part p_second st) in
    let x = type_number n (first_text (part p_last st)) in
    each (λ c. record { kind = st.form; at = st.at; source = s; target = t; class = c; result = x }) (class_numbers n st)

-- ---- roles
unfoldable pub role_allow_of : Names → Statement → RoleAllow
role_allow_of n st = record { from = roles_of n (part p_first st); to = roles_of n (part p_second st) }

-- "(default `process`; without such a class that form covers nothing)"
unfoldable pub transition_classes : List Item → List ℕ → Bool
transition_classes [] x = same_bytes x (bytes "process")
transition_classes (i ∷ is) x = named_in (i ∷ is) x

unfoldable pub role_transition_of : Names → Statement → RoleTransition
role_transition_of n st =
    record {
      at = st.at;
      roles = roles_of n (part p_first st);
      types = types_of n (part p_second st);
      classes = each (λ c. transition_classes (part p_class st) c.name.text) n.classes;
      result = number_of n.roles (first_text (part p_third st ++ part p_last st));
    }

-- the types of all `role R types X;` of the role
unfoldable pub role_of : Names → List Statement → Name → Role
role_of n ss r =
    record { name = r; types = types_of n (joined (part p_second) (keep (λ st. named_in (part p_first st) r.text) (of_form k_role_types ss))) }

-- whatever types `object_r` is given, none is asked for
unfoldable pub object_role : Role
object_role = record { name = name_of object_r; types = [] }

-- `object_r` is the first of the roles
unfoldable pub roles_in : Names → List Statement → List Name → List Role
roles_in n ss [] = []
roles_in n ss (o ∷ rs) = object_role ∷ each (role_of n ss) rs

unfoldable pub user_of : Names → Statement → List User
user_of n st = each (λ i. record { name = item_name i; roles = roles_of n (part p_second st) }) (names_at p_first st)

unfoldable pub switch_of : Statement → List Switch
switch_of st = each (λ i. record { name = item_name i; on = any (λ j. eqb j.kind k_true) (part p_second st) }) (names_at p_first st)

-- ---- parents: a child and its parent for each child of a typebounds, with the statement's place, in text order
pub record Bound : Type 0 where
  pub at : ℕ
  pub child : ℕ
  pub parent : ℕ

unfoldable pub bounds_by : Names → Statement → List Bound
bounds_by n st =
    let p = type_number n (first_text (part p_first st)) in
    each (λ i. record { at = st.at; child = type_number n i.text; parent = p }) (part p_second st)

unfoldable pub bounds_of : Names → List Statement → List Bound
bounds_of n ss = joined (bounds_by n) (of_form k_typebounds ss)

unfoldable pub parent_in : List Bound → ℕ → Parent
parent_in [] x = no_parent
parent_in (b ∷ bs) x = let r = parent_in bs x in if eqb b.child x then parent b.parent else r

-- the types from number i on; `perm` are the words of all `permissive T;`
unfoldable pub type_entries : Names → List Bound → List Item → ℕ → List Name → List TypeEntry
type_entries n bs perm i [] = []
type_entries n bs perm i (x ∷ xs) =
    record { name = x; parent = parent_in bs i; permissive = any (λ j. same_bytes x.text (type_named n.aliases j.text)) perm }
    ∷ type_entries n bs perm (i + 1) xs

unfoldable pub types_in : Names → List Statement → List TypeEntry
types_in n ss = type_entries n (bounds_of n ss) (joined (part p_first) (of_form k_permissive ss)) 0 n.types

-- ---- expressions
unfoldable pub two_sided : ℕ → Sign
two_sided k =
    if eqb k k_same then same
    else if eqb k k_differ then differ
    else if eqb k k_both || eqb k k_and then both
    else if eqb k k_caret then odd
    else either

-- a word of an expression that is no operand
unfoldable pub mark_token : {L : Type 0} → ℕ → Token L
mark_token k =
    if eqb k k_lparen then lpar
    else if eqb k k_rparen then rpar
    else if eqb k k_bang || eqb k k_not then negation
    else sign (two_sided k)

unfoldable pub bool_token : Names → Item → Token ℕ
bool_token n i = if eqb i.kind k_name then leaf (number_of n.bools i.text) else mark_token i.kind

unfoldable pub if_of : Names → Statement → List (Code ℕ)
if_of n st = postfix [] (each (bool_token n) (part p_test st))

-- the set that u1 .. t2 are held against, by the position of its names; an attribute serves against t1 and t2
unfoldable pub compared_set : Names → ℕ → List Item → Set
compared_set n p is =
    let u = set_of (named_in is) n.users in
    let r = roles_of n is in
    let t = types_of n is in
    if eqb p p_users then u else if eqb p p_roles then r else t

-- the words of a constraint from some place on: what belongs to a comparison that began before, and the words behind it
pub record Read : Type 0 where
  pub pos : ℕ
  pub neg : Bool
  pub pair : Bool
  pub names : List Item
  pub tokens : List (Token Test)

unfoldable pub behind_test : List (Token Test) → Read
behind_test ts = record { pos = p_test; neg = false; pair = false; names = []; tokens = ts }

unfoldable pub test_of : Names → ℕ → Read → Test
test_of n who r = record { who = who; neg = r.neg; pair = r.pair; set = if r.pair then [] else compared_set n r.pos r.names }

-- at `p_test` u1 .. t2 begin a comparison; behind that it goes on with `==` or `!=`, and one of u1 .. t2, a name or names
unfoldable pub read_tests : Names → List Item → Read
read_tests n [] = behind_test []
read_tests n (i ∷ is) =
    let r = read_tests n is in
    let k = i.kind in
    if eqb i.pos p_test
    then behind_test ((if is_term k then leaf (test_of n k r) else mark_token k) ∷ r.tokens)
    else record {
      pos = i.pos;
      neg = eqb k k_differ || r.neg;
      pair = is_term k || r.pair;
      names = if eqb k k_name then i ∷ r.names else r.names;
      tokens = r.tokens;
    }

unfoldable pub constraint_words : Statement → List Item
constraint_words st = keep (λ i. within p_test p_types i.pos) st.items

unfoldable pub constrain_of : Names → Statement → Constrain
constrain_of n st = record { perms = perm_sets n st; test = postfix [] (read_tests n (constraint_words st)).tokens }

-- ---- the whole
unfoldable pub policy_of : Names → List Statement → Policy
policy_of n ss =
    record {
      classes = n.classes;
      types = types_in n ss;
      aliases = each (alias_entry n) n.aliases;
      roles = roles_in n ss n.roles;
      users = joined (user_of n) (of_form k_user ss);
      bools = joined switch_of (of_form k_bool ss);
      ifs = each (if_of n) (of_form k_if ss);
      rows = joined rows_of (rules_of n ss);
      type_rows = joined (type_rows_of n) (keep (λ st. is_type_rule st.form) ss);
      role_allows = each (role_allow_of n) (of_form k_role_allow ss);
      role_transitions = each (role_transition_of n) (of_form k_role_transition ss);
      constrains = each (constrain_of n) (of_form k_constrain ss);
    }
