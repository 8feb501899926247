-- An accepted text is within the sizes of 01 (`within`): every list of its names and its policy, the words of every expression and
-- what is kept of them, the bytes of every name. Nothing of the grammar is used: a statement's form comes from the reading at the
-- word that ends it, so that what is counted and what is declared is one condition. Each size is a line: the list is made of items at
-- a position that counts, or of statements of a form that does (Limits), or is bounded statement by statement (Own, Held, Kept).
-- The numbers are those of `limits`; roles are one more, with `object_r`.
-- Assumes nothing.
use mathlib.Core.Path.{◌≡◌, refl, sym, ◌∙◌}
use mathlib.Core.Bool.{Bool, true, false, ◌||◌, false≢true, and-false}
use mathlib.Core.List.{List, []}
use Prim.Native.Nat.{ℕ, ◌+◌, ◌≤◌}
use native.Mathlib.Omega.{arith}
use borrow.Author.Tests.{eqb-true, ne_eqb, leb-true, lt-leb}
use lib.Dec.{eqb, leb}
use lib.ListN.{length}
use Rattle.meaning.specs.Plain.{keep, each}
use Rattle.meaning.specs.Words.{words_of}
use Rattle.meaning.specs.Statements.{Statement, statements_of, outside, Gathered, part, of_form, p_first, p_third, p_class, p_test}
use Rattle.meaning.specs.Sizes.{fits, read_text, name_count, form_count, no_counts, expression_words, own_permissions, c_types, c_attributes, c_aliases, c_classes, c_commons, c_roles, c_users, c_bools, c_av_rows, c_type_rows, c_role_rules, c_ifs, c_constrains}
use Rattle.meaning.specs.Names.{declares_at, declared, d_type, d_attribute, d_role, d_user, d_class, d_common, d_bool}
use Rattle.meaning.specs.Permissions.{class_of, classes_in, class_part}
use Rattle.meaning.specs.Sets.{Names, names_of, name_of, of_kind, aliases_by, attribute_of}
use Rattle.meaning.specs.Policy.{Policy}
use Rattle.meaning.specs.Rules.{policy_of, types_in, user_of, switch_of, rule_of, rules_of, rows_of, av_statements, type_rows_of, class_numbers, alias_entry, role_allow_of, role_transition_of, if_of, constrain_of, constraint_words, read_tests, bool_token}
use Rattle.meaning.specs.Keywords.{k_class, k_common, k_attribute, k_role, k_type, k_typealias, k_bool, k_role_transition, k_type_transition, k_type_member, k_allow, k_if, k_user, k_constrain, k_role_allow, is_av, is_type_rule}
use Rattle.meaning.proofs.Lists.{and_both, or_cases, length-each}
use Rattle.meaning.proofs.Lengths.{one_if, All, all_of, all_keep, all-each, keep_two, joined-each}
use Rattle.meaning.proofs.Declared.{just, at_first}
use Rattle.meaning.proofs.Listed.{types-counted, roles-counted}
use Rattle.meaning.proofs.Passed.{Passed, text-passed}
use Rattle.meaning.proofs.Counted.{limit, whole_count}
use Rattle.meaning.proofs.Own.{few_words, test_words, few-common, few-own, few-beside, short-names}
use Rattle.meaning.proofs.Kept.{postfix-le, tests-le}
use Rattle.meaning.proofs.Held.{few-perms, Fits, kind-fit, types-fit, roles-fit, aliases-fit, users-fit, bools-fit, classes-fit}
use Rattle.meaning.proofs.Limits.{at-within, forms-within, names-within, single-within, kept-within, names-le}
use Rattle.meaning.proofs.Single.{single}

-- the policy that statements make
abbrev pub said_by : List Statement → Policy
said_by ss = policy_of (names_of ss) ss

-- the sizes of 01, of the names and the policy of a text with the statements ss
pub record Within (ss : List Statement) : Type 0 where
  pub types : length (said_by ss).types ≤ limit c_types
  pub attributes : length (names_of ss).attributes ≤ limit c_attributes
  pub aliases : length (said_by ss).aliases ≤ limit c_aliases
  pub classes : length (said_by ss).classes ≤ limit c_classes
  pub commons : length (of_kind d_common (declared ss)) ≤ limit c_commons
  pub roles : length (said_by ss).roles ≤ limit c_roles + 1
  pub users : length (said_by ss).users ≤ limit c_users
  pub bools : length (said_by ss).bools ≤ limit c_bools
  pub perms : All (λ c. length c.perms ≤ own_permissions) (said_by ss).classes
  pub ifs : length (said_by ss).ifs ≤ limit c_ifs
  pub rows : length (said_by ss).rows ≤ limit c_av_rows
  pub type_rows : length (said_by ss).type_rows ≤ limit c_type_rows
  pub role_rules : length (said_by ss).role_allows + length (said_by ss).role_transitions ≤ limit c_role_rules
  pub constrains : length (said_by ss).constrains ≤ limit c_constrains
  -- the words of expressions, and what is kept of them
  pub if_words : All (λ s. length (part p_test s) ≤ expression_words) (of_form k_if ss)
  pub if_codes : All (λ c. length c ≤ expression_words) (said_by ss).ifs
  pub constrain_words : All (λ s. length (constraint_words s) ≤ expression_words) (of_form k_constrain ss)
  pub constrain_codes : All (λ c. length c.test ≤ expression_words) (said_by ss).constrains
  -- the lists that numbers and sets are counted through
  pub type_names : length (names_of ss).types ≤ limit c_types
  pub role_names : length (names_of ss).roles ≤ limit c_roles + 1
  pub user_names : length (names_of ss).users ≤ limit c_users
  pub bool_names : length (names_of ss).bools ≤ limit c_bools
  -- the bytes of names
  pub type_bytes : All (λ t. Fits t.name.text) (said_by ss).types
  pub attribute_bytes : All (λ a. Fits a.name) (names_of ss).attributes
  pub alias_bytes : All (λ a. Fits a.name.text) (said_by ss).aliases
  pub class_bytes : All (λ c. Fits c.name.text × All (λ x. Fits x.text) c.perms) (said_by ss).classes
  pub role_bytes : All (λ r. Fits r.name.text) (said_by ss).roles
  pub user_bytes : All (λ u. Fits u.name.text) (said_by ss).users
  pub bool_bytes : All (λ b. Fits b.name.text) (said_by ss).bools

-- ---- lists as long as others: a rule has a row for each class word
class-words : (K : ℕ → Bool) → K k_constrain ≡ false → (n : Names) (s : Statement) → K s.form ≡ true
    → length (class_numbers n s) ≡ length (part p_class s)
unfolding class_numbers class_part
class-words K c n s h = rw (length-each, ne_eqb s.form k_constrain (λ z. false≢true (sym c ∙ (rw z at h))))

type-rows : (k : ℕ) → is_type_rule k ≡ true → name_count k p_class ≡ c_type_rows
unfolding name_count
type-rows k e =
    let h : k ≤ k_type_member = leb-true k k_type_member (and_both (leb k_type_transition k) (leb k k_type_member) e).1 in
    simp (and-false, e, lt-leb k_allow k (omega arith))

role-rules : {g : Gathered} → Passed outside no_counts g
    → length (of_form k_role_allow g.rest) + length (of_form k_role_transition g.rest) ≤ limit c_role_rules
unfolding of_form whole_count form_count
role-rules {g} p =
    let a = keep_two {A = Statement} (λ s. eqb s.form k_role_allow) (λ s. eqb s.form k_role_transition)
    (λ s. eqb s.form k_role_allow || eqb s.form k_role_transition)
    (λ s e. rw e) (λ s e. rw (eqb-true s.form k_role_transition e)) (λ s e. rw (eqb-true s.form k_role_allow e)) g.rest in
    let b = forms-within p c_role_rules (omega arith) (λ k. eqb k k_role_allow || eqb k k_role_transition)
    (λ k e. or_cases (eqb k k_role_allow) (eqb k k_role_transition) e
    (λ z. rw (eqb-true k k_role_allow z)) (λ z. rw (eqb-true k k_role_transition z))) in
    omega arith

if-code : (n : Names) (s : Statement) → length (if_of n s) ≤ length (constraint_words s)
unfolding if_of
if-code n s = omega (arith, test_words s, length-each (bool_token n) (part p_test s), postfix-le [] (each (bool_token n) (part p_test s)))

constrain-code : (n : Names) (s : Statement) → length (constrain_of n s).test ≤ length (constraint_words s)
unfolding constrain_of
constrain-code n s = omega (arith, postfix-le [] (read_tests n (constraint_words s)).tokens, tests-le n (constraint_words s))

-- ---- the whole
counts-within : {g : Gathered} → Passed outside no_counts g → Within g.rest
unfolding policy_of names_of of_kind of_form single declares_at name_count form_count whole_count one_if classes_in class_of types_in attribute_of aliases_by alias_entry
    user_of switch_of rules_of av_statements rows_of rule_of type_rows_of
counts-within {g} p =
    let ss = g.rest in
    let n = names_of g.rest in
    let short = short-names p in
    let words = few_words p in
    let types : length n.types ≤ limit c_types = rw (length-each name_of) (names-within p k_type d_type c_types (at_first k_type d_type refl refl refl (λ f q. just _)) (omega arith) refl (omega arith)) in
    let roles : length n.roles ≤ limit c_roles + 1 =
    rw (length-each name_of) (single-within p k_role d_role c_roles (at_first k_role d_role refl refl refl (λ f q. just _)) (omega arith) refl refl (omega arith)) in
    record {
      types = rw (types-counted ss) types;
      attributes = rw (length-each (attribute_of _ _), length-each name_of)
          (names-within p k_attribute d_attribute c_attributes (at_first k_attribute d_attribute refl refl refl (λ f q. just _)) (omega arith) refl (omega arith));
      aliases = rw (length-each (alias_entry _)) (at-within p c_aliases (omega arith) (λ k. eqb k k_type || eqb k k_typealias) p_third _
          (λ k e. or_cases (eqb k k_type) (eqb k k_typealias) e (λ z. rw (eqb-true k k_type z)) (λ z. rw (eqb-true k k_typealias z)))
          (λ s e. rw length-each (names-le p_third s)));
      classes = rw (length-each (class_of _)) (single-within p k_class d_class c_classes (at_first k_class d_class refl refl refl (λ f q. just _)) (omega arith) refl refl (omega arith));
      commons = rw (length-each name_of) (names-within p k_common d_common c_commons (at_first k_common d_common refl refl refl (λ f q. just _)) (omega arith) refl (omega arith));
      roles = rw (roles-counted ss) roles;
      users = kept-within p c_users (omega arith) (λ k. eqb k k_user) p_first (user_of n) (λ k e. rw (eqb-true k k_user e))
          (λ s e. rw length-each (names-le p_first s));
      bools = kept-within p c_bools (omega arith) (λ k. eqb k k_bool) p_first switch_of (λ k e. rw (eqb-true k k_bool e))
          (λ s e. rw length-each (names-le p_first s));
      perms = all-each (class_of ss) (all_of (λ d. rw length-each (few-perms ss (few-common p) (few-own p) (few-beside p) d.text))
          (keep (λ d. eqb d.kind d_class) (declared ss)));
      ifs = rw (length-each (if_of _)) (forms-within p c_ifs (omega arith) (λ k. eqb k k_if) (λ k e. rw (eqb-true k k_if e)));
      rows = rw joined-each (kept-within p c_av_rows (omega arith) (λ k. is_av k) p_class (λ s. rows_of (rule_of n s)) (λ k e. simp (and-false, e))
          (λ s e. rw (length-each, class-words (λ k. is_av k) refl n s e) (omega arith)));
      type_rows = kept-within p c_type_rows (omega arith) (λ k. is_type_rule k) p_class (type_rows_of n) type-rows
          (λ s e. rw (length-each, class-words (λ k. is_type_rule k) refl n s e) (omega arith));
      role_rules = rw (length-each (role_allow_of _), length-each (role_transition_of _)) (role-rules p);
      constrains = rw (length-each (constrain_of _))
          (forms-within p c_constrains (omega arith) (λ k. eqb k k_constrain) (λ k e. rw (eqb-true k k_constrain e)));
      if_words = all_keep _ (λ s e h. omega (arith, test_words s)) words;
      if_codes = all-each (if_of n) (all_keep _ (λ s e h. omega (arith, if-code n s)) words);
      constrain_words = all_keep _ (λ s e h. h) words;
      constrain_codes = all-each (constrain_of n) (all_keep _ (λ s e h. omega (arith, constrain-code n s)) words);
      type_names = types;
      role_names = roles;
      user_names = rw (length-each name_of) (names-within p k_user d_user c_users (at_first k_user d_user refl refl refl (λ f q. just _)) (omega arith) refl (omega arith));
      bool_names = rw (length-each name_of) (names-within p k_bool d_bool c_bools (at_first k_bool d_bool refl refl refl (λ f q. just _)) (omega arith) refl (omega arith));
      type_bytes = types-fit ss short n _ _ 0 _ (kind-fit ss short d_type);
      attribute_bytes = all-each (attribute_of ss _) (kind-fit ss short d_attribute);
      alias_bytes = all-each (alias_entry n) (aliases-fit ss short);
      class_bytes = classes-fit ss short;
      role_bytes = roles-fit ss short n _ (kind-fit ss short d_role);
      user_bytes = users-fit ss short n k_user;
      bool_bytes = bools-fit ss short k_bool;
    }

-- THE STATEMENT: what is read without refusal is within the sizes
pub within : (s : List ℕ) → read_text (length s) (words_of s) ≡ fits → Within (statements_of (words_of s))
unfolding statements_of
within s e = counts-within (text-passed (length s) (words_of s) e)
