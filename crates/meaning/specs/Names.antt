-- Refusals 6 and 4: what each name declares, and what every other name must be.
use Rattle.std.specs.Prelude.{ℕ, Bool, true, not, ◌&&◌, ◌||◌, List, [], ◌∷◌, ◌++◌, eqb, ltb, if◌then◌else◌}
use Rattle.meaning.specs.Plain.{within, any, keep, each, joined, same_bytes, Spot, nowhere, at, first_at}
use Rattle.meaning.specs.Statements.{Item, Statement, part, names_at, p_first, p_second, p_third, p_fourth, p_class, p_last, p_users, p_roles, p_types}
use Rattle.meaning.specs.Keywords.{bytes, k_name, k_class, k_common, k_attribute, k_type, k_typealias, k_typeattribute, k_bool, k_typebounds, k_permissive, k_role, k_role_transition, k_if, k_user, k_constrain, k_perms, k_role_types, k_role_allow, is_type_rule, is_av}

-- ---- what a name may be declared as
abbrev pub d_none : ℕ
d_none = 0

abbrev pub d_type : ℕ
d_type = 1

abbrev pub d_attribute : ℕ
d_attribute = 2

abbrev pub d_alias : ℕ
d_alias = 3

abbrev pub d_role : ℕ
d_role = 4

abbrev pub d_user : ℕ
d_user = 5

abbrev pub d_class : ℕ
d_class = 6

abbrev pub d_common : ℕ
d_common = 7

abbrev pub d_bool : ℕ
d_bool = 8

abbrev pub d_perm : ℕ
d_perm = 9

-- what a name declares, by the statement's form and the position
unfoldable pub declares_at : ℕ → ℕ → ℕ
declares_at k p =
    if eqb k k_type && eqb p p_first then d_type
    else if eqb k k_attribute && eqb p p_first then d_attribute
    else if (eqb k k_type || eqb k k_typealias) && eqb p p_third then d_alias
    else if eqb k k_role && eqb p p_first then d_role
    else if eqb k k_user && eqb p p_first then d_user
    else if eqb k k_class && eqb p p_first then d_class
    else if eqb k k_common && eqb p p_first then d_common
    else if eqb k k_bool && eqb p p_first then d_bool
    else if eqb k k_common && eqb p p_second then d_perm
    else if eqb k k_perms && (eqb p p_second || eqb p p_fourth) then d_perm
    else d_none

unfoldable pub declares : Statement → Item → ℕ
declares st i = if eqb i.kind k_name then declares_at st.form i.pos else d_none

-- "types, attributes and aliases share one name space; roles, users, classes, commons, booleans have one each"
unfoldable pub space : ℕ → ℕ
space d = if within d_type d_alias d then d_type else d

pub record Decl : Type 0 where
  pub kind : ℕ
  pub at : ℕ
  pub text : List ℕ

unfoldable pub decl_of : Statement → Item → Decl
decl_of st i = record { kind = declares st i; at = i.at; text = i.text }

-- "the predeclared `object_r`", before every name of the text; so "Declaring `object_r` .. is 6"
unfoldable pub object_r : Decl
object_r = record { kind = d_role; at = 0; text = bytes "object_r" }

-- all declarations but those of permissions
unfoldable pub declared_by : Statement → List Decl
declared_by st = each (decl_of st) (keep (λ i. within d_type d_bool (declares st i)) st.items)

unfoldable pub declared : List Statement → List Decl
declared ss = object_r ∷ joined declared_by ss

-- ---- permissions that a class takes over
unfoldable pub first_text : List Item → List ℕ
first_text [] = []
first_text (i ∷ is) = i.text

unfoldable pub is_perms_of : List ℕ → Statement → Bool
is_perms_of x st = eqb st.form k_perms && same_bytes x (first_text (part p_first st))

unfoldable pub is_common : List ℕ → Statement → Bool
is_common x st = eqb st.form k_common && same_bytes x (first_text (part p_first st))

-- the first of the lists: a second common of one name, and a second permission statement of one class, are refused with 6
unfoldable pub first_of : List (List Item) → List Item
first_of [] = []
first_of (x ∷ xs) = x

unfoldable pub common_perms : List ℕ → List Statement → List Item
common_perms x ss = first_of (each (names_at p_second) (keep (is_common x) ss))

-- the permissions of the common that a permission statement names; an undeclared common adds none
unfoldable pub inherited : List Statement → Statement → List Item
inherited ss st = if eqb st.form k_perms then common_perms (first_text (part p_third st)) ss else []

-- ---- 6, declared twice: a name is refused where it repeats one: the same name space, before it, and it reads the same
unfoldable pub repeats : Decl → Decl → Bool
repeats d e = ltb e.at d.at && eqb (space e.kind) (space d.kind) && same_bytes d.text e.text

-- "permissions one per common, and one per class with its common": those that a permission of the statement is held against
unfoldable pub perm_decl : Item → Decl
perm_decl i = record { kind = d_perm; at = i.at; text = i.text }

unfoldable pub perm_decls : List Statement → Statement → List Decl
perm_decls ss st = each perm_decl (inherited ss st ++ keep (λ i. eqb (declares st i) d_perm) st.items)

unfoldable pub twice_word : List Decl → List Decl → Statement → Item → Spot
twice_word ds ps st i =
    let d = decl_of st i in
    if not (eqb d.kind d_none) && any (repeats d) (if eqb d.kind d_perm then ps else ds) then at i.at else nowhere

-- "Declaring `object_r`, or a second permission statement for a class, is 6", at its first word
unfoldable pub second_perms : List Statement → Statement → Bool
second_perms ss st = eqb st.form k_perms && any (λ x. ltb x.at st.at && is_perms_of (first_text (part p_first st)) x) ss

unfoldable pub twice_in : List Statement → List Decl → Statement → Spot
twice_in ss ds st =
    let r = first_at (twice_word ds (perm_decls ss st) st) st.items in
    if second_perms ss st then at st.at else r

unfoldable pub declared_twice : List Statement → Spot
declared_twice ss = let ds = declared ss in first_at (twice_in ss ds) ss

-- ---- 4, "name not declared, or of another kind". "Use may stand before declaration": no place is compared.
-- "attributes serve in X and against `t1` or `t2` only"
abbrev pub an_x : List ℕ
an_x = d_type ∷ d_attribute ∷ d_alias ∷ []

-- "an alias serves wherever a type does, except as the T of `typealias`"
abbrev pub a_type : List ℕ
a_type = d_type ∷ d_alias ∷ []

-- what a name may be declared as, by the statement's form and the position; [] where nothing is asked of it
unfoldable pub uses_at : ℕ → ℕ → List ℕ
uses_at k p =
    if (is_av k || is_type_rule k) && (eqb p p_first || eqb p p_second) then an_x
    else if (is_av k || is_type_rule k) && eqb p p_class then d_class ∷ []
    else if is_type_rule k && eqb p p_last then a_type
    else if eqb k k_role_allow then d_role ∷ []
    else if eqb k k_role_transition then (if eqb p p_second then an_x else if eqb p p_class then d_class ∷ [] else d_role ∷ [])
    else if eqb k k_type && eqb p p_second then d_attribute ∷ []
    else if eqb k k_typealias && eqb p p_first then d_type ∷ []
    else if eqb k k_typeattribute then (if eqb p p_first then a_type else d_attribute ∷ [])
    else if eqb k k_typebounds || eqb k k_permissive then a_type
    else if eqb k k_role_types then (if eqb p p_first then d_role ∷ [] else an_x)
    else if eqb k k_if then d_bool ∷ []
    else if eqb k k_user && eqb p p_second then d_role ∷ []
    else if eqb k k_perms && eqb p p_first then d_class ∷ []
    else if eqb k k_perms && eqb p p_third then d_common ∷ []
    else if eqb k k_constrain && eqb p p_first then d_class ∷ []
    else if eqb k k_constrain && eqb p p_users then d_user ∷ []
    else if eqb k k_constrain && eqb p p_roles then d_role ∷ []
    else if eqb k k_constrain && eqb p p_types then an_x
    else []

unfoldable pub uses : Statement → Item → List ℕ
uses st i = if eqb i.kind k_name then uses_at st.form i.pos else []

-- the declaration is one of these kinds and reads so
unfoldable pub serves : List ℕ → List ℕ → Decl → Bool
serves u x d = any (eqb d.kind) u && same_bytes x d.text

unfoldable pub is_served : List Decl → List ℕ → List ℕ → Bool
is_served ds [] x = true
is_served ds (k ∷ u) x = any (serves (k ∷ u) x) ds

unfoldable pub unknown : List Decl → Statement → Item → Spot
unknown ds st i = if is_served ds (uses st i) i.text then nowhere else at i.at

unfoldable pub undeclared : List Statement → Spot
undeclared ss = let ds = declared ss in first_at (λ st. first_at (unknown ds st) st.items) ss
