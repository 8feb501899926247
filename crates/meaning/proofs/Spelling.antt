-- The names of the kinds are the kinds of their spellings: as the grammar spells them, and as the words of a text are read.
-- And the truth tables of the two-sided signs. All by computation.
-- Assumes nothing.
use Prim.Native.Nat.{ℕ}
use Prim.Native.String.{String}
use mathlib.Core.Bool.{Bool, true, false, ◌&&◌}
use mathlib.Core.List.{List, [], ◌∷◌}
use mathlib.Core.Path.{◌≡◌, refl}
use lib.Dec.{T, eqb}
use lib.ListN.{length}
use Rattle.meaning.specs.Plain.{every}
use Rattle.meaning.specs.Keywords.{bytes, spelt, marks, keywords, k_name, k_end, k_open, k_close, k_lparen, k_rparen, k_semi, k_colon, k_comma, k_tilde, k_star, k_minus, k_caret, k_bang, k_same, k_differ, k_both, k_either, k_class, k_common, k_attribute, k_type, k_typealias, k_typeattribute, k_bool, k_typebounds, k_permissive, k_role, k_role_transition, k_type_transition, k_type_change, k_type_member, k_allow, k_auditallow, k_dontaudit, k_neverallow, k_if, k_else, k_user, k_constrain, k_inherits, k_alias, k_types, k_roles, k_true, k_false, k_self, k_and, k_or, k_not, k_u1, k_u2, k_r1, k_r2, k_t1, k_t2}
use Rattle.meaning.specs.Words.{Word, words_of}
use Rattle.meaning.specs.Expressions.{Sign, same, differ, both, odd, either, join}
use Rattle.meaning.proofs.Opened.{opened}

pub record Named : Type 0 where
  pub kind : ℕ
  pub spelling : String

pub of : ℕ → String → Named
of k s = record { kind = k; spelling = s }

-- every mark and every keyword, with its kind
pub named : List Named
named =
    of k_open "{" ∷ of k_close "}" ∷ of k_lparen "(" ∷ of k_rparen ")" ∷ of k_semi ";" ∷ of k_colon ":" ∷ of k_comma "," ∷ of k_tilde "~"
    ∷ of k_star "*" ∷ of k_minus "-" ∷ of k_caret "^" ∷ of k_bang "!" ∷ of k_same "==" ∷ of k_differ "!=" ∷ of k_both "&&" ∷ of k_either "||"
    ∷ of k_class "class" ∷ of k_common "common" ∷ of k_attribute "attribute" ∷ of k_type "type" ∷ of k_typealias "typealias"
    ∷ of k_typeattribute "typeattribute" ∷ of k_bool "bool" ∷ of k_typebounds "typebounds" ∷ of k_permissive "permissive" ∷ of k_role "role"
    ∷ of k_role_transition "role_transition" ∷ of k_type_transition "type_transition" ∷ of k_type_change "type_change"
    ∷ of k_type_member "type_member" ∷ of k_allow "allow" ∷ of k_auditallow "auditallow" ∷ of k_dontaudit "dontaudit"
    ∷ of k_neverallow "neverallow" ∷ of k_if "if" ∷ of k_else "else" ∷ of k_user "user" ∷ of k_constrain "constrain" ∷ of k_inherits "inherits"
    ∷ of k_alias "alias" ∷ of k_types "types" ∷ of k_roles "roles" ∷ of k_true "true" ∷ of k_false "false" ∷ of k_self "self" ∷ of k_and "and"
    ∷ of k_or "or" ∷ of k_not "not" ∷ of k_u1 "u1" ∷ of k_u2 "u2" ∷ of k_r1 "r1" ∷ of k_r2 "r2" ∷ of k_t1 "t1" ∷ of k_t2 "t2" ∷ []

-- the spelling is one word of the kind, alone on its line
pub reads_as : ℕ → List Word → Bool
reads_as k [] = false
reads_as k (w ∷ []) = eqb w.kind k
reads_as k (w ∷ v ∷ ws) = false

pub is-kind : Named → Bool
is-kind x = eqb (spelt x.spelling) x.kind && reads_as x.kind (words_of (bytes x.spelling))

pub kinds-spelt : T (every is-kind named)
unfolding opened of named reads_as is-kind
kinds-spelt = tt

-- "lower case": as many kinds as spellings, and a word in capitals is a name
pub kinds-all : (length named ≡ 54) × (length marks ≡ 16) × (length keywords ≡ 38) × (k_end ≡ 56)
unfolding opened of named
kinds-all = (refl, refl, refl, refl)

pub capitals : reads_as k_name (words_of (bytes "Class")) ≡ true
unfolding opened reads_as
capitals = refl

-- ---- the signs: of true true, true false, false true, false false
pub table : Sign → List Bool
table s = join s true true ∷ join s true false ∷ join s false true ∷ join s false false ∷ []

pub sign-tables :
    (table same ≡ true ∷ false ∷ false ∷ true ∷ []) × (table differ ≡ false ∷ true ∷ true ∷ false ∷ [])
    × (table both ≡ true ∷ false ∷ false ∷ false ∷ []) × (table odd ≡ false ∷ true ∷ true ∷ false ∷ [])
    × (table either ≡ true ∷ true ∷ true ∷ false ∷ [])
unfolding opened table
sign-tables = (refl, refl, refl, refl, refl)
