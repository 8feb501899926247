-- The states of the recogniser, and where words lead. Written by tools/states.py from meaning's grammar.
--
--   (state 19 (behind 18 (k_class ∷ [])) ((k_name, 20) ∷ []))
--       What is left in this state is what is left in state 18 behind a word of kind k_class.
--       A word of the kind k_name leads from here to state 20, any other to state 0, which is dead.
--   (state 18 (fresh policy) ((k_class, 19) ∷ []))
--       What is left in this one is the whole grammar.
--
-- In a state within the parentheses of an expression what is left ends in a hole for what follows them, and the closing one leads to
-- where it leads if no more of them are open.
use Rattle.std.specs.Prelude.{ℕ, Bool, ◌||◌, List, [], ◌∷◌, eqb, ltb, if◌then◌else◌}
use Rattle.meaning.specs.Grammar.{G, none, nt, ◌·◌, w, policy, bool_e, constraint_e}
use Rattle.meaning.specs.Keywords.{k_name, k_open, k_close, k_lparen, k_rparen, k_semi, k_colon, k_comma, k_tilde, k_star, k_minus, k_caret, k_bang, k_same, k_differ, k_both, k_either, k_class, k_common, k_attribute, k_type, k_typealias, k_typeattribute, k_bool, k_typebounds, k_permissive, k_role, k_role_transition, k_type_transition, k_type_change, k_type_member, k_allow, k_auditallow, k_dontaudit, k_neverallow, k_if, k_else, k_user, k_constrain, k_inherits, k_alias, k_types, k_roles, k_true, k_false, k_self, k_and, k_or, k_not, k_u1, k_u2, k_r1, k_r2, k_t1, k_t2}

pub data Way : Type 0 where
  fresh : G → Way
  behind : ℕ → List ℕ → Way

pub data Row : Type 0 where
  state : ℕ → Way → List (ℕ × ℕ) → Row

-- the hole: a rule that is not there
abbrev pub hole_rule : ℕ
hole_rule = 11

abbrev pub hole : G
hole = nt hole_rule

abbrev pub state_count : ℕ
state_count = 173

-- kinds of words are below k_end
abbrev pub kind_count : ℕ
kind_count = 56

abbrev pub edge_count : ℕ
edge_count = 434

abbrev pub table_size : ℕ
table_size = 9688

-- states within parentheses are 1 to this one: those of boolean expressions, then those of constraints
abbrev pub last_inside : ℕ
last_inside = 17

-- of a state within parentheses, the state behind an operand
unfoldable pub had : ℕ → ℕ
had s = if ltb s 5 then 2 else 15

-- the state before the first word
abbrev pub start_state : ℕ
start_state = 18

-- the states where a text may end: behind a statement of section 5, behind one of section 6
abbrev pub accepting : ℕ → Bool
accepting s = eqb s 127 || eqb s 165

unfoldable pub rows : List Row
rows =
    (state 0 (fresh none) [])
    ∷ (state 1 (fresh (bool_e · w ")" · hole)) ((k_name, 2) ∷ (k_lparen, 1) ∷ (k_bang, 3) ∷ []))
    ∷ (state 2 (behind 1 (k_name ∷ [])) ((k_rparen, 64) ∷ (k_caret, 3) ∷ (k_same, 4) ∷ (k_differ, 4) ∷ (k_both, 3) ∷
    (k_either, 3) ∷ []))
    ∷ (state 3 (behind 1 (k_bang ∷ [])) ((k_name, 2) ∷ (k_lparen, 1) ∷ (k_bang, 3) ∷ []))
    ∷ (state 4 (behind 2 (k_same ∷ [])) ((k_name, 2) ∷ (k_lparen, 1) ∷ []))
    ∷ (state 5 (fresh (constraint_e · w ")" · hole)) ((k_lparen, 5) ∷ (k_not, 6) ∷ (k_u1, 7) ∷ (k_u2, 8) ∷ (k_r1, 9) ∷ (k_r2, 8) ∷
    (k_t1, 10) ∷ (k_t2, 8) ∷ []))
    ∷ (state 6 (behind 5 (k_not ∷ [])) ((k_lparen, 5) ∷ (k_not, 6) ∷ (k_u1, 7) ∷ (k_u2, 8) ∷ (k_r1, 9) ∷ (k_r2, 8) ∷ (k_t1, 10) ∷
    (k_t2, 8) ∷ []))
    ∷ (state 7 (behind 5 (k_u1 ∷ [])) ((k_same, 11) ∷ (k_differ, 11) ∷ []))
    ∷ (state 8 (behind 5 (k_u2 ∷ [])) ((k_same, 12) ∷ (k_differ, 12) ∷ []))
    ∷ (state 9 (behind 5 (k_r1 ∷ [])) ((k_same, 13) ∷ (k_differ, 13) ∷ []))
    ∷ (state 10 (behind 5 (k_t1 ∷ [])) ((k_same, 14) ∷ (k_differ, 14) ∷ []))
    ∷ (state 11 (behind 7 (k_same ∷ [])) ((k_name, 15) ∷ (k_open, 16) ∷ (k_u2, 15) ∷ []))
    ∷ (state 12 (behind 8 (k_same ∷ [])) ((k_name, 15) ∷ (k_open, 16) ∷ []))
    ∷ (state 13 (behind 9 (k_same ∷ [])) ((k_name, 15) ∷ (k_open, 16) ∷ (k_r2, 15) ∷ []))
    ∷ (state 14 (behind 10 (k_same ∷ [])) ((k_name, 15) ∷ (k_open, 16) ∷ (k_t2, 15) ∷ []))
    ∷ (state 15 (behind 11 (k_name ∷ [])) ((k_rparen, 154) ∷ (k_and, 6) ∷ (k_or, 6) ∷ []))
    ∷ (state 16 (behind 11 (k_open ∷ [])) ((k_name, 17) ∷ []))
    ∷ (state 17 (behind 16 (k_name ∷ [])) ((k_name, 17) ∷ (k_close, 15) ∷ []))
    ∷ (state 18 (fresh policy) ((k_class, 19) ∷ []))
    ∷ (state 19 (behind 18 (k_class ∷ [])) ((k_name, 20) ∷ []))
    ∷ (state 20 (behind 19 (k_name ∷ [])) ((k_class, 21) ∷ (k_common, 22) ∷ []))
    ∷ (state 21 (behind 20 (k_class ∷ [])) ((k_name, 23) ∷ []))
    ∷ (state 22 (behind 20 (k_common ∷ [])) ((k_name, 24) ∷ []))
    ∷ (state 23 (behind 21 (k_name ∷ [])) ((k_open, 25) ∷ (k_class, 21) ∷ (k_common, 22) ∷ (k_inherits, 26) ∷ []))
    ∷ (state 24 (behind 22 (k_name ∷ [])) ((k_open, 27) ∷ []))
    ∷ (state 25 (behind 23 (k_open ∷ [])) ((k_name, 28) ∷ []))
    ∷ (state 26 (behind 23 (k_inherits ∷ [])) ((k_name, 29) ∷ []))
    ∷ (state 27 (behind 24 (k_open ∷ [])) ((k_name, 30) ∷ []))
    ∷ (state 28 (behind 25 (k_name ∷ [])) ((k_name, 28) ∷ (k_close, 31) ∷ []))
    ∷ (state 29 (behind 26 (k_name ∷ [])) ((k_open, 25) ∷ (k_class, 32) ∷ (k_attribute, 33) ∷ (k_type, 34) ∷ (k_typealias, 35) ∷
    (k_typeattribute, 36) ∷ (k_bool, 37) ∷ (k_typebounds, 36) ∷ (k_permissive, 33) ∷ (k_role, 38) ∷ (k_role_transition, 39) ∷
    (k_type_transition, 40) ∷ (k_type_change, 40) ∷ (k_type_member, 40) ∷ (k_allow, 41) ∷ (k_auditallow, 42) ∷ (k_dontaudit, 42) ∷
    (k_neverallow, 43) ∷ (k_if, 44) ∷ []))
    ∷ (state 30 (behind 27 (k_name ∷ [])) ((k_name, 30) ∷ (k_close, 45) ∷ []))
    ∷ (state 31 (behind 28 (k_close ∷ [])) ((k_class, 32) ∷ (k_attribute, 33) ∷ (k_type, 34) ∷ (k_typealias, 35) ∷
    (k_typeattribute, 36) ∷ (k_bool, 37) ∷ (k_typebounds, 36) ∷ (k_permissive, 33) ∷ (k_role, 38) ∷ (k_role_transition, 39) ∷
    (k_type_transition, 40) ∷ (k_type_change, 40) ∷ (k_type_member, 40) ∷ (k_allow, 41) ∷ (k_auditallow, 42) ∷ (k_dontaudit, 42) ∷
    (k_neverallow, 43) ∷ (k_if, 44) ∷ []))
    ∷ (state 32 (behind 29 (k_class ∷ [])) ((k_name, 46) ∷ []))
    ∷ (state 33 (behind 29 (k_attribute ∷ [])) ((k_name, 47) ∷ []))
    ∷ (state 34 (behind 29 (k_type ∷ [])) ((k_name, 48) ∷ []))
    ∷ (state 35 (behind 29 (k_typealias ∷ [])) ((k_name, 49) ∷ []))
    ∷ (state 36 (behind 29 (k_typeattribute ∷ [])) ((k_name, 50) ∷ []))
    ∷ (state 37 (behind 29 (k_bool ∷ [])) ((k_name, 51) ∷ []))
    ∷ (state 38 (behind 29 (k_role ∷ [])) ((k_name, 52) ∷ []))
    ∷ (state 39 (behind 29 (k_role_transition ∷ [])) ((k_name, 53) ∷ (k_open, 54) ∷ []))
    ∷ (state 40 (behind 29 (k_type_transition ∷ [])) ((k_name, 55) ∷ (k_open, 56) ∷ []))
    ∷ (state 41 (behind 29 (k_allow ∷ [])) ((k_name, 57) ∷ (k_open, 58) ∷ []))
    ∷ (state 42 (behind 29 (k_auditallow ∷ [])) ((k_name, 59) ∷ (k_open, 60) ∷ []))
    ∷ (state 43 (behind 29 (k_neverallow ∷ [])) ((k_name, 61) ∷ (k_open, 62) ∷ (k_tilde, 63) ∷ (k_star, 61) ∷ []))
    ∷ (state 44 (behind 29 (k_if ∷ [])) ((k_lparen, 1) ∷ []))
    ∷ (state 45 (behind 30 (k_close ∷ [])) ((k_class, 32) ∷ (k_common, 22) ∷ []))
    ∷ (state 46 (behind 32 (k_name ∷ [])) ((k_open, 25) ∷ (k_inherits, 26) ∷ []))
    ∷ (state 47 (behind 33 (k_name ∷ [])) ((k_semi, 65) ∷ []))
    ∷ (state 48 (behind 34 (k_name ∷ [])) ((k_semi, 65) ∷ (k_comma, 50) ∷ (k_alias, 66) ∷ []))
    ∷ (state 49 (behind 35 (k_name ∷ [])) ((k_alias, 67) ∷ []))
    ∷ (state 50 (behind 36 (k_name ∷ [])) ((k_name, 68) ∷ []))
    ∷ (state 51 (behind 37 (k_name ∷ [])) ((k_true, 47) ∷ (k_false, 47) ∷ []))
    ∷ (state 52 (behind 38 (k_name ∷ [])) ((k_semi, 65) ∷ (k_types, 67) ∷ []))
    ∷ (state 53 (behind 39 (k_name ∷ [])) ((k_name, 69) ∷ (k_open, 70) ∷ []))
    ∷ (state 54 (behind 39 (k_open ∷ [])) ((k_name, 71) ∷ []))
    ∷ (state 55 (behind 40 (k_name ∷ [])) ((k_name, 72) ∷ (k_open, 73) ∷ []))
    ∷ (state 56 (behind 40 (k_open ∷ [])) ((k_name, 74) ∷ (k_minus, 75) ∷ []))
    ∷ (state 57 (behind 41 (k_name ∷ [])) ((k_name, 76) ∷ (k_open, 77) ∷ (k_self, 78) ∷ []))
    ∷ (state 58 (behind 41 (k_open ∷ [])) ((k_name, 79) ∷ (k_minus, 80) ∷ []))
    ∷ (state 59 (behind 42 (k_name ∷ [])) ((k_name, 78) ∷ (k_open, 81) ∷ (k_self, 78) ∷ []))
    ∷ (state 60 (behind 42 (k_open ∷ [])) ((k_name, 82) ∷ (k_minus, 80) ∷ []))
    ∷ (state 61 (behind 43 (k_name ∷ [])) ((k_name, 78) ∷ (k_open, 81) ∷ (k_tilde, 83) ∷ (k_star, 78) ∷ (k_self, 78) ∷ []))
    ∷ (state 62 (behind 43 (k_open ∷ [])) ((k_name, 84) ∷ (k_minus, 85) ∷ []))
    ∷ (state 63 (behind 43 (k_tilde ∷ [])) ((k_name, 61) ∷ (k_open, 86) ∷ []))
    ∷ (state 64 (behind 44 (k_lparen ∷ k_name ∷ k_rparen ∷ [])) ((k_open, 87) ∷ []))
    ∷ (state 65 (behind 47 (k_semi ∷ [])) ((k_attribute, 33) ∷ (k_type, 34) ∷ (k_typealias, 35) ∷ (k_typeattribute, 36) ∷
    (k_bool, 37) ∷ (k_typebounds, 36) ∷ (k_permissive, 33) ∷ (k_role, 38) ∷ (k_role_transition, 39) ∷ (k_type_transition, 40) ∷
    (k_type_change, 40) ∷ (k_type_member, 40) ∷ (k_allow, 41) ∷ (k_auditallow, 42) ∷ (k_dontaudit, 42) ∷ (k_neverallow, 43) ∷
    (k_if, 44) ∷ (k_user, 88) ∷ []))
    ∷ (state 66 (behind 48 (k_alias ∷ [])) ((k_name, 68) ∷ (k_open, 89) ∷ []))
    ∷ (state 67 (behind 49 (k_alias ∷ [])) ((k_name, 47) ∷ (k_open, 90) ∷ []))
    ∷ (state 68 (behind 50 (k_name ∷ [])) ((k_semi, 65) ∷ (k_comma, 50) ∷ []))
    ∷ (state 69 (behind 53 (k_name ∷ [])) ((k_name, 47) ∷ (k_colon, 91) ∷ []))
    ∷ (state 70 (behind 53 (k_open ∷ [])) ((k_name, 92) ∷ []))
    ∷ (state 71 (behind 54 (k_name ∷ [])) ((k_name, 71) ∷ (k_close, 53) ∷ []))
    ∷ (state 72 (behind 55 (k_name ∷ [])) ((k_colon, 91) ∷ []))
    ∷ (state 73 (behind 55 (k_open ∷ [])) ((k_name, 93) ∷ (k_minus, 94) ∷ []))
    ∷ (state 74 (behind 56 (k_name ∷ [])) ((k_name, 74) ∷ (k_close, 55) ∷ (k_minus, 75) ∷ []))
    ∷ (state 75 (behind 56 (k_minus ∷ [])) ((k_name, 74) ∷ []))
    ∷ (state 76 (behind 57 (k_name ∷ [])) ((k_semi, 65) ∷ (k_colon, 95) ∷ []))
    ∷ (state 77 (behind 57 (k_open ∷ [])) ((k_name, 96) ∷ (k_minus, 97) ∷ (k_self, 98) ∷ []))
    ∷ (state 78 (behind 57 (k_self ∷ [])) ((k_colon, 95) ∷ []))
    ∷ (state 79 (behind 58 (k_name ∷ [])) ((k_name, 79) ∷ (k_close, 57) ∷ (k_minus, 80) ∷ []))
    ∷ (state 80 (behind 58 (k_minus ∷ [])) ((k_name, 82) ∷ []))
    ∷ (state 81 (behind 59 (k_open ∷ [])) ((k_name, 98) ∷ (k_minus, 97) ∷ (k_self, 98) ∷ []))
    ∷ (state 82 (behind 60 (k_name ∷ [])) ((k_name, 82) ∷ (k_close, 59) ∷ (k_minus, 80) ∷ []))
    ∷ (state 83 (behind 61 (k_tilde ∷ [])) ((k_name, 78) ∷ (k_open, 99) ∷ []))
    ∷ (state 84 (behind 62 (k_name ∷ [])) ((k_name, 84) ∷ (k_close, 61) ∷ (k_minus, 85) ∷ []))
    ∷ (state 85 (behind 62 (k_minus ∷ [])) ((k_name, 84) ∷ []))
    ∷ (state 86 (behind 63 (k_open ∷ [])) ((k_name, 100) ∷ []))
    ∷ (state 87 (behind 64 (k_open ∷ [])) ((k_close, 101) ∷ (k_allow, 102) ∷ (k_auditallow, 102) ∷ (k_dontaudit, 102) ∷ []))
    ∷ (state 88 (behind 65 (k_user ∷ [])) ((k_name, 103) ∷ []))
    ∷ (state 89 (behind 66 (k_open ∷ [])) ((k_name, 104) ∷ []))
    ∷ (state 90 (behind 67 (k_open ∷ [])) ((k_name, 105) ∷ []))
    ∷ (state 91 (behind 69 (k_colon ∷ [])) ((k_name, 33) ∷ (k_open, 106) ∷ []))
    ∷ (state 92 (behind 70 (k_name ∷ [])) ((k_name, 92) ∷ (k_close, 69) ∷ []))
    ∷ (state 93 (behind 73 (k_name ∷ [])) ((k_name, 93) ∷ (k_close, 72) ∷ (k_minus, 94) ∷ []))
    ∷ (state 94 (behind 73 (k_minus ∷ [])) ((k_name, 93) ∷ []))
    ∷ (state 95 (behind 76 (k_colon ∷ [])) ((k_name, 107) ∷ (k_open, 108) ∷ []))
    ∷ (state 96 (behind 77 (k_name ∷ [])) ((k_name, 96) ∷ (k_close, 76) ∷ (k_minus, 97) ∷ (k_self, 98) ∷ []))
    ∷ (state 97 (behind 77 (k_minus ∷ [])) ((k_name, 98) ∷ []))
    ∷ (state 98 (behind 77 (k_self ∷ [])) ((k_name, 98) ∷ (k_close, 78) ∷ (k_minus, 97) ∷ (k_self, 98) ∷ []))
    ∷ (state 99 (behind 83 (k_open ∷ [])) ((k_name, 109) ∷ []))
    ∷ (state 100 (behind 86 (k_name ∷ [])) ((k_name, 100) ∷ (k_close, 61) ∷ []))
    ∷ (state 101 (behind 87 (k_close ∷ [])) ((k_attribute, 33) ∷ (k_type, 34) ∷ (k_typealias, 35) ∷ (k_typeattribute, 36) ∷
    (k_bool, 37) ∷ (k_typebounds, 36) ∷ (k_permissive, 33) ∷ (k_role, 38) ∷ (k_role_transition, 39) ∷ (k_type_transition, 40) ∷
    (k_type_change, 40) ∷ (k_type_member, 40) ∷ (k_allow, 41) ∷ (k_auditallow, 42) ∷ (k_dontaudit, 42) ∷ (k_neverallow, 43) ∷
    (k_if, 44) ∷ (k_else, 110) ∷ (k_user, 88) ∷ []))
    ∷ (state 102 (behind 87 (k_allow ∷ [])) ((k_name, 111) ∷ (k_open, 112) ∷ []))
    ∷ (state 103 (behind 88 (k_name ∷ [])) ((k_roles, 113) ∷ []))
    ∷ (state 104 (behind 89 (k_name ∷ [])) ((k_name, 104) ∷ (k_close, 68) ∷ []))
    ∷ (state 105 (behind 90 (k_name ∷ [])) ((k_name, 105) ∷ (k_close, 47) ∷ []))
    ∷ (state 106 (behind 91 (k_open ∷ [])) ((k_name, 114) ∷ []))
    ∷ (state 107 (behind 95 (k_name ∷ [])) ((k_name, 47) ∷ (k_open, 90) ∷ (k_tilde, 67) ∷ (k_star, 47) ∷ []))
    ∷ (state 108 (behind 95 (k_open ∷ [])) ((k_name, 115) ∷ []))
    ∷ (state 109 (behind 99 (k_name ∷ [])) ((k_name, 109) ∷ (k_close, 78) ∷ []))
    ∷ (state 110 (behind 101 (k_else ∷ [])) ((k_open, 116) ∷ []))
    ∷ (state 111 (behind 102 (k_name ∷ [])) ((k_name, 117) ∷ (k_open, 118) ∷ (k_self, 117) ∷ []))
    ∷ (state 112 (behind 102 (k_open ∷ [])) ((k_name, 119) ∷ (k_minus, 120) ∷ []))
    ∷ (state 113 (behind 103 (k_roles ∷ [])) ((k_name, 121) ∷ (k_open, 122) ∷ []))
    ∷ (state 114 (behind 106 (k_name ∷ [])) ((k_name, 114) ∷ (k_close, 33) ∷ []))
    ∷ (state 115 (behind 108 (k_name ∷ [])) ((k_name, 115) ∷ (k_close, 107) ∷ []))
    ∷ (state 116 (behind 110 (k_open ∷ [])) ((k_close, 65) ∷ (k_allow, 123) ∷ (k_auditallow, 123) ∷ (k_dontaudit, 123) ∷ []))
    ∷ (state 117 (behind 111 (k_name ∷ [])) ((k_colon, 124) ∷ []))
    ∷ (state 118 (behind 111 (k_open ∷ [])) ((k_name, 125) ∷ (k_minus, 126) ∷ (k_self, 125) ∷ []))
    ∷ (state 119 (behind 112 (k_name ∷ [])) ((k_name, 119) ∷ (k_close, 111) ∷ (k_minus, 120) ∷ []))
    ∷ (state 120 (behind 112 (k_minus ∷ [])) ((k_name, 119) ∷ []))
    ∷ (state 121 (behind 113 (k_name ∷ [])) ((k_semi, 127) ∷ []))
    ∷ (state 122 (behind 113 (k_open ∷ [])) ((k_name, 128) ∷ []))
    ∷ (state 123 (behind 116 (k_allow ∷ [])) ((k_name, 129) ∷ (k_open, 130) ∷ []))
    ∷ (state 124 (behind 117 (k_colon ∷ [])) ((k_name, 131) ∷ (k_open, 132) ∷ []))
    ∷ (state 125 (behind 118 (k_name ∷ [])) ((k_name, 125) ∷ (k_close, 117) ∷ (k_minus, 126) ∷ (k_self, 125) ∷ []))
    ∷ (state 126 (behind 118 (k_minus ∷ [])) ((k_name, 125) ∷ []))
    ∷ (state 127 (behind 121 (k_semi ∷ [])) ((k_user, 88) ∷ (k_constrain, 133) ∷ []))
    ∷ (state 128 (behind 122 (k_name ∷ [])) ((k_name, 128) ∷ (k_close, 121) ∷ []))
    ∷ (state 129 (behind 123 (k_name ∷ [])) ((k_name, 134) ∷ (k_open, 135) ∷ (k_self, 134) ∷ []))
    ∷ (state 130 (behind 123 (k_open ∷ [])) ((k_name, 136) ∷ (k_minus, 137) ∷ []))
    ∷ (state 131 (behind 124 (k_name ∷ [])) ((k_name, 138) ∷ (k_open, 139) ∷ (k_tilde, 140) ∷ (k_star, 138) ∷ []))
    ∷ (state 132 (behind 124 (k_open ∷ [])) ((k_name, 141) ∷ []))
    ∷ (state 133 (behind 127 (k_constrain ∷ [])) ((k_name, 142) ∷ (k_open, 143) ∷ []))
    ∷ (state 134 (behind 129 (k_name ∷ [])) ((k_colon, 144) ∷ []))
    ∷ (state 135 (behind 129 (k_open ∷ [])) ((k_name, 145) ∷ (k_minus, 146) ∷ (k_self, 145) ∷ []))
    ∷ (state 136 (behind 130 (k_name ∷ [])) ((k_name, 136) ∷ (k_close, 129) ∷ (k_minus, 137) ∷ []))
    ∷ (state 137 (behind 130 (k_minus ∷ [])) ((k_name, 136) ∷ []))
    ∷ (state 138 (behind 131 (k_name ∷ [])) ((k_semi, 87) ∷ []))
    ∷ (state 139 (behind 131 (k_open ∷ [])) ((k_name, 147) ∷ []))
    ∷ (state 140 (behind 131 (k_tilde ∷ [])) ((k_name, 138) ∷ (k_open, 139) ∷ []))
    ∷ (state 141 (behind 132 (k_name ∷ [])) ((k_name, 141) ∷ (k_close, 131) ∷ []))
    ∷ (state 142 (behind 133 (k_name ∷ [])) ((k_name, 148) ∷ (k_open, 149) ∷ (k_tilde, 150) ∷ (k_star, 148) ∷ []))
    ∷ (state 143 (behind 133 (k_open ∷ [])) ((k_name, 151) ∷ []))
    ∷ (state 144 (behind 134 (k_colon ∷ [])) ((k_name, 152) ∷ (k_open, 153) ∷ []))
    ∷ (state 145 (behind 135 (k_name ∷ [])) ((k_name, 145) ∷ (k_close, 134) ∷ (k_minus, 146) ∷ (k_self, 145) ∷ []))
    ∷ (state 146 (behind 135 (k_minus ∷ [])) ((k_name, 145) ∷ []))
    ∷ (state 147 (behind 139 (k_name ∷ [])) ((k_name, 147) ∷ (k_close, 138) ∷ []))
    ∷ (state 148 (behind 142 (k_name ∷ [])) ((k_lparen, 5) ∷ (k_not, 155) ∷ (k_u1, 156) ∷ (k_u2, 157) ∷ (k_r1, 158) ∷ (k_r2, 157) ∷
    (k_t1, 159) ∷ (k_t2, 157) ∷ []))
    ∷ (state 149 (behind 142 (k_open ∷ [])) ((k_name, 160) ∷ []))
    ∷ (state 150 (behind 142 (k_tilde ∷ [])) ((k_name, 148) ∷ (k_open, 149) ∷ []))
    ∷ (state 151 (behind 143 (k_name ∷ [])) ((k_name, 151) ∷ (k_close, 142) ∷ []))
    ∷ (state 152 (behind 144 (k_name ∷ [])) ((k_name, 161) ∷ (k_open, 162) ∷ (k_tilde, 163) ∷ (k_star, 161) ∷ []))
    ∷ (state 153 (behind 144 (k_open ∷ [])) ((k_name, 164) ∷ []))
    ∷ (state 154 (behind 148 (k_lparen ∷ k_u1 ∷ k_same ∷ k_name ∷ k_rparen ∷ [])) ((k_semi, 165) ∷ (k_and, 155) ∷ (k_or, 155) ∷ []))
    ∷ (state 155 (behind 148 (k_not ∷ [])) ((k_lparen, 5) ∷ (k_not, 155) ∷ (k_u1, 156) ∷ (k_u2, 157) ∷ (k_r1, 158) ∷ (k_r2, 157) ∷
    (k_t1, 159) ∷ (k_t2, 157) ∷ []))
    ∷ (state 156 (behind 148 (k_u1 ∷ [])) ((k_same, 166) ∷ (k_differ, 166) ∷ []))
    ∷ (state 157 (behind 148 (k_u2 ∷ [])) ((k_same, 167) ∷ (k_differ, 167) ∷ []))
    ∷ (state 158 (behind 148 (k_r1 ∷ [])) ((k_same, 168) ∷ (k_differ, 168) ∷ []))
    ∷ (state 159 (behind 148 (k_t1 ∷ [])) ((k_same, 169) ∷ (k_differ, 169) ∷ []))
    ∷ (state 160 (behind 149 (k_name ∷ [])) ((k_name, 160) ∷ (k_close, 148) ∷ []))
    ∷ (state 161 (behind 152 (k_name ∷ [])) ((k_semi, 116) ∷ []))
    ∷ (state 162 (behind 152 (k_open ∷ [])) ((k_name, 170) ∷ []))
    ∷ (state 163 (behind 152 (k_tilde ∷ [])) ((k_name, 161) ∷ (k_open, 162) ∷ []))
    ∷ (state 164 (behind 153 (k_name ∷ [])) ((k_name, 164) ∷ (k_close, 152) ∷ []))
    ∷ (state 165 (behind 154 (k_semi ∷ [])) ((k_constrain, 133) ∷ []))
    ∷ (state 166 (behind 156 (k_same ∷ [])) ((k_name, 154) ∷ (k_open, 171) ∷ (k_u2, 154) ∷ []))
    ∷ (state 167 (behind 157 (k_same ∷ [])) ((k_name, 154) ∷ (k_open, 171) ∷ []))
    ∷ (state 168 (behind 158 (k_same ∷ [])) ((k_name, 154) ∷ (k_open, 171) ∷ (k_r2, 154) ∷ []))
    ∷ (state 169 (behind 159 (k_same ∷ [])) ((k_name, 154) ∷ (k_open, 171) ∷ (k_t2, 154) ∷ []))
    ∷ (state 170 (behind 162 (k_name ∷ [])) ((k_name, 170) ∷ (k_close, 161) ∷ []))
    ∷ (state 171 (behind 166 (k_open ∷ [])) ((k_name, 172) ∷ []))
    ∷ (state 172 (behind 171 (k_name ∷ [])) ((k_name, 172) ∷ (k_close, 154) ∷ []))
    ∷ []
