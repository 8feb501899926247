-- The rows of the rules of a text with no earlier refusal are in their ranges: of AV rules (`rows_in`) and of type rules
-- (`type-rows-in`).
-- A row comes from a statement and one of its class words; a number in it is that of a name which must be declared (Served, Aliased), and
-- what has to stand there stands there by the statement's shape (Shapes).
-- Assumes nothing.
use Prim.Native.Nat.{ℕ, ◌<◌}
use mathlib.Core.Path.{◌≡◌, refl, sym, ◌∙◌}
use mathlib.Core.Bool.{Bool, true, false, ◌||◌, false≢true, or-false}
use mathlib.Core.List.{List, [], ◌∷◌}
use borrow.Author.Tests.{eqb-true}
use lib.Dec.{eqb}
use lib.ListN.{length, get_or}
use Rattle.meaning.specs.Plain.{keep}
use Rattle.meaning.specs.Keywords.{k_type, k_typealias, k_typebounds, k_role_transition, k_if, k_constrain, is_type_rule, is_av}
use Rattle.meaning.specs.Statements.{Item, Statement, part, of_form, p_first, p_second, p_class, p_last}
use Rattle.meaning.specs.Names.{first_text, uses_at, a_type, d_type, d_alias, d_class}
use Rattle.meaning.specs.Permissions.{Class, class_part}
use Rattle.meaning.specs.Sets.{Names, names_of, named_in}
use Rattle.meaning.specs.Policy.{Row, TypeRow, Policy}
use Rattle.meaning.specs.Rules.{class_number, type_number, perms_for, perm_sets, class_numbers, rule_of, av_statements, rules_of, row_of, rows_of, type_rows_of, if_of, policy_of}
use Rattle.meaning.specs.Contexts.{nameless, class_at}
use Rattle.meaning.proofs.Lists.{bool_cases, either-right, both-and, bytes_same, Among, keep-among, each-among, joined-among, among-any, get_or-each, length-each}
use Rattle.meaning.proofs.Accepted.{NoEarlier, statements_in, names_in, policy_in}
use Rattle.meaning.proofs.Seats.{due, paid}
use Rattle.meaning.proofs.Forms.{plain_form}
use Rattle.meaning.proofs.Branches.{branch-below}
use Rattle.meaning.proofs.Served.{Found, found, class-below, class-reads}
use Rattle.meaning.proofs.Aliased.{all-names, first-at, type-below}
use Rattle.meaning.proofs.Listed.{types-counted, set-sized, types-sized}
use Rattle.meaning.proofs.Ranges.{RowIn, TypeRowIn}

-- ---- forms
-- an AV rule or a type rule: it is no constrain, and names classes behind `:`
abbrev is_rule : ℕ → Bool
is_rule f = is_av f || is_type_rule f

rule-plain : (f : ℕ) → is_rule f ≡ true → plain_form f ≡ true
rule-plain f e = rw e

rule-classes : (st : Statement) → is_rule st.form ≡ true → class_part st ≡ part p_class st
unfolding class_part
rule-classes st e =
    bool_cases (eqb st.form k_constrain) (λ q. absurd (false≢true (rw (eqb-true st.form k_constrain q) at e))) (λ q. rw q)

rule-uses : (f p : ℕ) → is_rule f ≡ true → eqb p p_class ≡ true → uses_at f p ≡ d_class ∷ []
unfolding uses_at
rule-uses f p e q = rw (eqb-true p p_class q, e, uses_at)

-- ---- classes
module _ (s : List ℕ) (c : NoEarlier s) {st : Statement} (m : Among st (statements_in s)) (e : is_rule st.form ≡ true) where
  class-found : {i : Item} → Among i (class_part st) → Found (statements_in s) (d_class ∷ []) i.text
  unfolding part
  class-found {i = i} k =
      let l = keep-among (λ i. eqb i.pos p_class) st.items (rw (rule-classes st e) at k) in
      let n = all-names s c m st.form refl (rule-plain st.form e) i l.0
      (either-right (eqb st.form k_typebounds || due st.form i.pos) _ (both-and (is_rule st.form) (eqb i.pos p_class) e l.1)) in
      found (statements_in s) c.known m l.0 n st.form refl d_class [] (rule-uses st.form i.pos e l.1)

  -- its number is that of a class, of that name
  class-in : {i : Item} → Among i (class_part st) → class_number (names_in s).classes i.text < length (names_in s).classes
  unfolding names_of
  class-in {i = i} k = class-below (statements_in s) i.text (class-found k)

  class-named : (d : Class) {i : Item} → Among i (class_part st)
      → named_in (class_part st) (get_or (names_in s).classes (class_number (names_in s).classes i.text) d).name.text ≡ true
  unfolding names_of named_in
  class-named d {i = i} k = among-any _ k (rw (← (class-reads (statements_in s) i.text d (class-found k))) (bytes_same i.text))

-- the permissions of a class that is named
pub perms-sized : (n : Names) (st : Statement) (k : ℕ) (d : Class) → k < length n.classes
    → named_in (class_part st) (get_or n.classes k d).name.text ≡ true → length (get_or (perm_sets n st) k []) ≡ length (get_or n.classes k d).perms
unfolding perm_sets perms_for
perms-sized n st k d h e = rw (get_or-each (perms_for st) n.classes k d [] h, e, perms_for) (set-sized _ (get_or n.classes k d).perms)

-- ---- the result of a type rule
module _ (f : ℕ) (e : is_type_rule f ≡ true) where
  -- a type rule is of no other form
  not-other : (g : ℕ) → is_type_rule g ≡ false → eqb f g ≡ false
  not-other g h = bool_cases (eqb f g) (λ q. absurd (false≢true (sym h ∙ rw (eqb-true f g q) at e))) (λ q. q)

  result-unpaid : paid f p_first ≡ false
  result-unpaid = rw (not-other k_type refl, not-other k_typealias refl, not-other k_typebounds refl, e)

  result-due : (q : ℕ) → due f q ≡ eqb q p_last
  result-due q =
      rw (not-other k_type refl, not-other k_typealias refl, not-other k_typebounds refl, not-other k_role_transition refl, e) (or-false (eqb q p_last))

  result-uses : (q : ℕ) → eqb q p_last ≡ true → uses_at f q ≡ a_type
  unfolding uses_at
  result-uses q h = rw (eqb-true q p_last h, either-right (is_av f) (is_type_rule f) e, e, uses_at)

module _ (s : List ℕ) (c : NoEarlier s) where
  abbrev ss : List Statement
  ss = statements_in s

  abbrev n : Names
  n = names_in s

  abbrev p : Policy
  p = policy_in s

  -- ---- AV rules
  -- a row from a statement and a class word
  ruled : (st : Statement) → Among st ss → is_av st.form ≡ true → {i : Item} → Among i (class_part st)
      → RowIn p (row_of (rule_of n st) (class_number n.classes i.text))
  unfolding row_of rule_of policy_of class_at
  ruled st m e {i = i} l =
      record {
        kind = e;
        class = class-in s c m (rw e) l;
        branch = rw (length-each (if_of n) (of_form k_if ss)) (branch-below s c m);
        source = types-sized n (part p_first st) ∙ sym (types-counted ss);
        target = types-sized n (part p_second st) ∙ sym (types-counted ss);
        perms = perms-sized n st _ _ (class-in s c m (rw e) l) (class-named s c m (rw e) (record { name = nameless; perms = [] }) l);
      }

  -- The rows of the AV rules are in their ranges.
  pub rows_in : {r : Row} → Among r p.rows → RowIn p r
  unfolding policy_of rules_of av_statements rows_of class_numbers rule_of
  rows_in m =
      let (ru, mu, mr) = joined-among rows_of (rules_of n ss) m in
      let (st, mk, e) = each-among (rule_of n) (av_statements ss) mu in
      let k = keep-among (λ st. is_av st.form) ss mk in
      let (x, mx, q) = each-among (row_of (rule_of n st)) _ (rw e at mr) in
      let (i, mi, w) = each-among _ (class_part st) mx in
      rw (q, w) (ruled st k.0 k.1 mi)

  -- ---- type rules
  result-in : (st : Statement) → Among st ss → is_type_rule st.form ≡ true → type_number n (first_text (part p_last st)) < length n.types
  result-in st m e =
      let f = st.form in
      let r = first-at s c m f refl (rule-plain f (either-right (is_av f) (is_type_rule f) e)) (result-unpaid f e) p_last
      (λ q d. sym (result-due f e q) ∙ d) (result-due f e p_last) in
      let u = result-uses f e r.item.pos (sym (result-due f e r.item.pos) ∙ r.place) in
      rw r.reads (type-below s c r.item.text (found ss c.known m r.among r.name f refl d_type (d_alias ∷ []) u))

  -- The rows of the type rules are in their ranges.
  pub type-rows-in : {r : TypeRow} → Among r p.type_rows → TypeRowIn p r
  unfolding policy_of type_rows_of class_numbers
  type-rows-in m =
      let (st, mk, mr) = joined-among (type_rows_of n) (keep (λ st. is_type_rule st.form) ss) m in
      let k = keep-among (λ st. is_type_rule st.form) ss mk in
      let (x, mx, q) = each-among _ (class_numbers n st) mr in
      let (i, mi, w) = each-among _ (class_part st) mx in
      let u = either-right (is_av st.form) (is_type_rule st.form) k.1 in
      rw (q, w) (record {
        kind = k.1;
        class = class-in s c k.0 u mi;
        source = types-sized n (part p_first st) ∙ sym (types-counted ss);
        target = types-sized n (part p_second st) ∙ sym (types-counted ss);
        result = rw (types-counted ss) (result-in st k.0 k.1);
      })
