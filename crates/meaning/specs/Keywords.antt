-- "Keywords are those shown here, lower case, `perms` and `names` apart, and cannot be names: also `self`, `and`, `or`, `not`,
-- `u1 u2 r1 r2 t1 t2`."
-- A word has a kind, which is a number: a bad byte, a name, one of the marks or one of the 38 keywords, counted through the two
-- lists below. The order is ours: the keywords that begin a statement stand first, the type rules and the AV rules side by side.
-- The names of the kinds follow (k.. a kind; on later pages p.. a position, c.. what is counted, d.. what a name is declared as); proofs/Spelling.antt has that each is the kind of its spelling.
use Rattle.std.specs.Prelude.{ℕ, ◌+◌, Bool, List, [], ◌∷◌, ◌++◌, if◌then◌else◌}
use Prim.Native.String.{String, [] as ε, ◌∷◌ as ◌◃◌}
use Prim.Native.Char.{code}
use lib.Text.{eqt}
use Rattle.meaning.specs.Plain.{within, index_from, same_bytes}

-- the bytes of a text that is written here
unfoldable pub bytes : String → List ℕ
bytes ε = []
bytes (c ◃ s) = code c ∷ bytes s

unfoldable pub marks : List String
marks = "{" ∷ "}" ∷ "(" ∷ ")" ∷ ";" ∷ ":" ∷ "," ∷ "~" ∷ "*" ∷ "-" ∷ "^" ∷ "!" ∷ "==" ∷ "!=" ∷ "&&" ∷ "||" ∷ []

unfoldable pub keywords : List String
keywords =
    "class" ∷ "common" ∷ "attribute" ∷ "type" ∷ "typealias" ∷ "typeattribute" ∷ "bool" ∷ "typebounds" ∷ "permissive"
    ∷ "role" ∷ "role_transition" ∷ "type_transition" ∷ "type_change" ∷ "type_member" ∷ "allow" ∷ "auditallow"
    ∷ "dontaudit" ∷ "neverallow" ∷ "if" ∷ "else" ∷ "user" ∷ "constrain" ∷ "inherits" ∷ "alias" ∷ "types" ∷ "roles"
    ∷ "true" ∷ "false" ∷ "self" ∷ "and" ∷ "or" ∷ "not" ∷ "u1" ∷ "u2" ∷ "r1" ∷ "r2" ∷ "t1" ∷ "t2" ∷ []

-- the number, counted from k, of the first of the spellings that the bytes are; `other` where they are none of them
unfoldable pub kind_from : ℕ → ℕ → List String → List ℕ → ℕ
kind_from other k [] w = other
kind_from other k (s ∷ ss) w = let r = kind_from other (k + 1) ss w in if same_bytes (bytes s) w then k else r

-- ---- the kinds by name
abbrev pub k_bad : ℕ
k_bad = 0

abbrev pub k_name : ℕ
k_name = 1

-- {
abbrev pub k_open : ℕ
k_open = 2

-- }
abbrev pub k_close : ℕ
k_close = 3

-- (
abbrev pub k_lparen : ℕ
k_lparen = 4

-- )
abbrev pub k_rparen : ℕ
k_rparen = 5

-- ;
abbrev pub k_semi : ℕ
k_semi = 6

-- :
abbrev pub k_colon : ℕ
k_colon = 7

-- ,
abbrev pub k_comma : ℕ
k_comma = 8

-- ~
abbrev pub k_tilde : ℕ
k_tilde = 9

-- *
abbrev pub k_star : ℕ
k_star = 10

-- -
abbrev pub k_minus : ℕ
k_minus = 11

-- ^
abbrev pub k_caret : ℕ
k_caret = 12

-- !
abbrev pub k_bang : ℕ
k_bang = 13

-- ==
abbrev pub k_same : ℕ
k_same = 14

-- !=
abbrev pub k_differ : ℕ
k_differ = 15

-- &&
abbrev pub k_both : ℕ
k_both = 16

-- ||
abbrev pub k_either : ℕ
k_either = 17

abbrev pub k_class : ℕ
k_class = 18

abbrev pub k_common : ℕ
k_common = 19

abbrev pub k_attribute : ℕ
k_attribute = 20

abbrev pub k_type : ℕ
k_type = 21

abbrev pub k_typealias : ℕ
k_typealias = 22

abbrev pub k_typeattribute : ℕ
k_typeattribute = 23

abbrev pub k_bool : ℕ
k_bool = 24

abbrev pub k_typebounds : ℕ
k_typebounds = 25

abbrev pub k_permissive : ℕ
k_permissive = 26

abbrev pub k_role : ℕ
k_role = 27

abbrev pub k_role_transition : ℕ
k_role_transition = 28

abbrev pub k_type_transition : ℕ
k_type_transition = 29

abbrev pub k_type_change : ℕ
k_type_change = 30

abbrev pub k_type_member : ℕ
k_type_member = 31

abbrev pub k_allow : ℕ
k_allow = 32

abbrev pub k_auditallow : ℕ
k_auditallow = 33

abbrev pub k_dontaudit : ℕ
k_dontaudit = 34

abbrev pub k_neverallow : ℕ
k_neverallow = 35

abbrev pub k_if : ℕ
k_if = 36

abbrev pub k_else : ℕ
k_else = 37

abbrev pub k_user : ℕ
k_user = 38

abbrev pub k_constrain : ℕ
k_constrain = 39

abbrev pub k_inherits : ℕ
k_inherits = 40

abbrev pub k_alias : ℕ
k_alias = 41

abbrev pub k_types : ℕ
k_types = 42

abbrev pub k_roles : ℕ
k_roles = 43

abbrev pub k_true : ℕ
k_true = 44

abbrev pub k_false : ℕ
k_false = 45

abbrev pub k_self : ℕ
k_self = 46

abbrev pub k_and : ℕ
k_and = 47

abbrev pub k_or : ℕ
k_or = 48

abbrev pub k_not : ℕ
k_not = 49

abbrev pub k_u1 : ℕ
k_u1 = 50

abbrev pub k_u2 : ℕ
k_u2 = 51

abbrev pub k_r1 : ℕ
k_r1 = 52

abbrev pub k_r2 : ℕ
k_r2 = 53

abbrev pub k_t1 : ℕ
k_t1 = 54

abbrev pub k_t2 : ℕ
k_t2 = 55

-- what stands behind the last word
abbrev pub k_end : ℕ
k_end = 56

-- three forms of a statement that its keyword alone does not tell: `class` with permissions, `role .. types`, role allow
abbrev pub k_perms : ℕ
k_perms = 57

abbrev pub k_role_types : ℕ
k_role_types = 58

abbrev pub k_role_allow : ℕ
k_role_allow = 59

-- ---- the kind of a word from its bytes
unfoldable pub mark_of : List ℕ → ℕ
mark_of w = kind_from k_bad k_open marks w

unfoldable pub kind_of : List ℕ → ℕ
kind_of w = kind_from k_name k_class keywords w

-- the kind of a mark or keyword by its spelling: what the grammar is written with
unfoldable pub spelt : String → ℕ
spelt s = index_from (eqt s) k_open (marks ++ keywords)

-- ---- groups of kinds
-- a statement begins, or `else`
abbrev pub starts : ℕ → Bool
starts k = within k_class k_constrain k

abbrev pub is_type_rule : ℕ → Bool
is_type_rule k = within k_type_transition k_type_member k

abbrev pub is_av : ℕ → Bool
is_av k = within k_allow k_neverallow k

-- u1 u2 r1 r2 t1 t2
abbrev pub is_term : ℕ → Bool
is_term k = within k_u1 k_t2 k
