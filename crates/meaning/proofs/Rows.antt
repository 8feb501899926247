-- A rule and its rows cover, by numbers, what their statement covers by names (Coverage).
--   rule-covers    for numbers of types, a class and one of its permissions, where no two types read the same (Apart): `self` is asked
--                  of numbers in a rule and of names in a statement
--   row-statement, statement-row    what a row covers its statement covers; what an AV statement covers one of its rows does
-- A set holds a number exactly if the words that it was made of mean the name at that number: one law, `set_at`, on `each`.
-- Assumes nothing.
use mathlib.Core.Path.{◌≡◌, refl, sym, ap, ap₂, ◌∙◌, subst}
use mathlib.Core.Bool.{Bool, true, false, ◌&&◌, and_assoc, false≢true}
use mathlib.Core.List.{List, []}
use Prim.Native.Nat.{ℕ, ◌<◌}
use native.Mathlib.Omega.{arith}
use borrow.Author.Tests.{eqb-true, eq-eqb}
use lib.Dec.{eqb}
use lib.ListN.{length, get_or}
use Rattle.std.specs.Prelude.{if◌then◌else◌}
use Rattle.meaning.specs.Plain.{each, joined, same_bytes}
use Rattle.meaning.specs.Statements.{Item, Statement, part, p_first, p_second}
use Rattle.meaning.specs.Permissions.{Name, Class, class_part, perm_part}
use Rattle.meaning.specs.Sets.{Names, is_in, type_words, name_words, named_in}
use Rattle.meaning.specs.Coverage.{in_source, in_target, covers_pair, covers_class, covers_perm, covers}
use Rattle.meaning.specs.Policy.{Set, holds, Rule, Row}
use Rattle.meaning.specs.Rules.{class_number, set_of, types_of, perms_for, perm_sets, class_numbers, rule_of, av_statements, rules_of, row_of, rows_of}
use Rattle.meaning.specs.Neverallow.{rule_pair, rule_perms}
use Rattle.meaning.specs.Contexts.{nameless}
use Rattle.meaning.specs.Access.{row_covers}
use Rattle.meaning.specs.Keywords.{is_av}
use Rattle.meaning.proofs.Lists.{Among, bool_cases, and_both, both-and, same_test, same_bytes_lem, bytes_same, keep-among, among-keep, each-among, among-each, joined-among, among-joined, any-among, among-any, at-among, length-each, get_or-each, get_or-below, holds-below, index-found}
use Rattle.meaning.proofs.Apart.{Apart}
use Rattle.meaning.proofs.Clashes.{rule_covers}

-- ---- the names at numbers
abbrev pub type_name : Names → ℕ → List ℕ
type_name n s = (get_or n.types s nameless).text

abbrev pub class_in : Names → ℕ → Class
class_in n c = get_or n.classes c (record { name = nameless; perms = [] })

abbrev pub class_name : Names → ℕ → List ℕ
class_name n c = (class_in n c).name.text

abbrev pub perm_name : Names → ℕ → ℕ → List ℕ
perm_name n c i = (get_or (class_in n c).perms i nameless).text

-- ---- sets
set_at : (p : List ℕ → Bool) (ns : List Name) (i : ℕ) → i < length ns → holds (set_of p ns) i ≡ p (get_or ns i nameless).text
unfolding set_of
set_at p ns i h = get_or-each (λ x. p x.text) ns i nameless false h

set_below : (p : List ℕ → Bool) (ns : List Name) (i : ℕ) → holds (set_of p ns) i ≡ true → i < length ns
unfolding set_of
set_below p ns i e = let h = holds-below (set_of p ns) i e in omega (arith, length-each (λ x. p x.text) ns)

in-first : (i : ℕ) (b : Bool) (x : Set) → holds (if b then x else []) i ≡ true → holds x i ≡ true
in-first i true x e = e
in-first i false x e = absurd (false≢true e)

module _ (n : Names) (st : Statement) where
  source-holds : (s : ℕ) → s < length n.types → holds (rule_of n st).source s ≡ in_source n st (type_name n s)
  unfolding rule_of types_of in_source
  source-holds s h = set_at (is_in (type_words n (part p_first st))) n.types s h

  target-holds : (t : ℕ) → t < length n.types → holds (rule_of n st).target t ≡ in_target n st (type_name n t)
  unfolding rule_of types_of in_target
  target-holds t h = set_at (is_in (type_words n (part p_second st))) n.types t h

  perms-are : (c : ℕ) → c < length n.classes → rule_perms (rule_of n st) c ≡ perms_for st (class_in n c)
  unfolding rule_of rule_perms perm_sets
  perms-are c h = get_or-each (perms_for st) n.classes c (record { name = nameless; perms = [] }) [] h

  perm-holds : (c i : ℕ) → c < length n.classes → i < length (class_in n c).perms
      → holds (rule_perms (rule_of n st) c) i ≡ (covers_class st (class_name n c) && covers_perm st (perm_name n c i))
  unfolding perms_for covers_class covers_perm
  perm-holds c i h k =
      ap (λ x. holds x i) (perms-are c h)
      ∙ bool_cases (named_in (class_part st) (class_name n c)) (λ e. rw e (set_at (is_in (name_words (perm_part st))) (class_in n c).perms i k)) (λ e. rw e)

  -- a permission that a rule covers is one of the class
  pub perm-below : (c i : ℕ) → holds (rule_perms (rule_of n st) c) i ≡ true → (c < length n.classes) × (i < length (class_in n c).perms)
  unfolding rule_perms perms_for perm_sets rule_of
  perm-below c i e =
      let h : c < length n.classes = let l = get_or-below (λ x. holds x i) (perm_sets n st) c [] refl e in omega (arith, length-each (perms_for st) n.classes) in
      let p = is_in (name_words (perm_part st)) in
      let k : holds (perms_for st (class_in n c)) i ≡ true = sym (ap (λ x. holds x i) (perms-are c h)) ∙ e in
      (h, set_below p (class_in n c).perms i (in-first i (named_in (class_part st) (class_name n c)) (set_of p (class_in n c).perms) k))

  module _ (apart : Apart (λ x. x.text) n.types) where
    same-type : (s t : ℕ) → s < length n.types → t < length n.types → eqb s t ≡ same_bytes (type_name n s) (type_name n t)
    same-type s t h k =
        same_test (eqb s t) (same_bytes (type_name n s) (type_name n t))
        (λ e. rw (eqb-true s t e) (bytes_same (type_name n t))) (λ e. eq-eqb s t (apart nameless s t h k (same_bytes_lem _ _ e)))

    pair-covers : (s t : ℕ) → s < length n.types → t < length n.types → rule_pair (rule_of n st) s t ≡ covers_pair n st (type_name n s) (type_name n t)
    unfolding rule_pair covers_pair rule_of
    pair-covers s t h k = rw (source-holds s h, target-holds t k, same-type s t h k)

    -- A rule covers the numbers of what its statement covers.
    pub rule-covers : (s t c i : ℕ) → s < length n.types → t < length n.types → c < length n.classes → i < length (class_in n c).perms
        → rule_covers (rule_of n st) s t c i ≡ covers n st (type_name n s) (type_name n t) (class_name n c) (perm_name n c i)
    unfolding covers
    rule-covers s t c i hs ht hc hi =
        ap₂ (λ x y. x && y) (pair-covers s t hs ht) (perm-holds c i hc hi)
        ∙ sym (and_assoc (covers_pair n st (type_name n s) (type_name n t)) (covers_class st (class_name n c)) (covers_perm st (perm_name n c i)))

-- ---- rows
row_is : (r : Rule) (k s t c i : ℕ) → row_covers (row_of r k) s t c i ≡ (eqb k c && rule_covers r s t c i)
unfolding row_covers row_of rule_pair rule_perms
row_is r k s t c i =
    bool_cases (eqb k c) (λ e. rw e (ap (λ x. rule_pair r s t && holds (get_or r.perms x []) i) (eqb-true k c e))) (λ e. rw e)

class-number : (n : Names) → Apart (λ k. k.name.text) n.classes → (c : ℕ) → c < length n.classes → class_number n.classes (class_name n c) ≡ c
unfolding class_number
class-number n apart c h =
    let d : Class = record { name = nameless; perms = [] } in
    let m = among-any (λ k. same_bytes (class_name n c) k.name.text) (at-among n.classes c d h) (bytes_same (class_name n c)) in
    let r = index-found (λ k. same_bytes (class_name n c) k.name.text) n.classes d 0 m in
    let e : c ≡ r.0 = apart d c r.0 h r.1 (same_bytes_lem _ _ r.3) in
    omega (arith, r.2)

class-named : (n : Names) → Apart (λ k. k.name.text) n.classes → (st : Statement) (c : ℕ) → c < length n.classes
    → covers_class st (class_name n c) ≡ true → Among c (class_numbers n st)
unfolding covers_class named_in class_numbers
class-named n apart st c h e =
    let f : Item → ℕ = λ i. class_number n.classes i.text in
    let k = any-among (λ i. same_bytes (class_name n c) i.text) (class_part st) e in
    let q : f k.0 ≡ c = ap (class_number n.classes) (sym (same_bytes_lem _ _ k.2)) ∙ class-number n apart c h in
    subst (λ x. Among x (each f (class_part st))) q (among-each f k.1)

module _ (n : Names) (ss : List Statement) (types : Apart (λ x. x.text) n.types) (s t c i : ℕ)
    (hs : s < length n.types) (ht : t < length n.types) (hc : c < length n.classes) (hi : i < length (class_in n c).perms) where
  -- the statement covers what stands at the numbers
  abbrev Says : Statement → Type 0
  Says st = covers n st (type_name n s) (type_name n t) (class_name n c) (perm_name n c i) ≡ true

  -- What a row covers is covered by its statement, of its kind and in its branch.
  pub row-statement : (r : Row) → Among r (joined rows_of (rules_of n ss)) → row_covers r s t c i ≡ true
      → (st : Statement) × Among st ss × (st.form ≡ r.kind) × (st.branch ≡ r.branch) × Says st
  unfolding rules_of av_statements rows_of row_of rule_of
  row-statement r m e =
      let j = joined-among rows_of (rules_of n ss) m in
      let k = each-among (row_of j.0) j.0.classes j.2 in
      let l = each-among (rule_of n) (av_statements ss) j.1 in
      let st = l.0 in
      let q : r ≡ row_of (rule_of n st) k.0 = k.2 ∙ ap (λ x. row_of x k.0) l.2 in
      let w = ap (λ x. row_covers x s t c i) q ∙ row_is (rule_of n st) k.0 s t c i in
      let h = and_both (eqb k.0 c) (rule_covers (rule_of n st) s t c i) (sym w ∙ e) in (
        st,
        (keep-among (λ x. is_av x.form) ss l.1).0,
        sym (ap (λ x. x.kind) q),
        sym (ap (λ x. x.branch) q),
        sym (rule-covers n st types s t c i hs ht hc hi) ∙ h.1,
      )

  -- What an AV statement covers is covered by one of its rows, of its form and in its branch.
  pub statement-row : Apart (λ k. k.name.text) n.classes → (st : Statement) → Among st ss → is_av st.form ≡ true → Says st
      → (r : Row) × Among r (joined rows_of (rules_of n ss)) × (r.kind ≡ st.form) × (r.branch ≡ st.branch) × (row_covers r s t c i ≡ true)
  unfolding rules_of av_statements rows_of row_of rule_of covers
  statement-row classes st m v e =
      let u = rule_of n st in
      let h : rule_covers u s t c i ≡ true = rule-covers n st types s t c i hs ht hc hi ∙ e in
      let g = (and_both _ (covers_perm st (perm_name n c i)) e).0 in
      let k = (and_both (covers_pair n st (type_name n s) (type_name n t)) (covers_class st (class_name n c)) g).1 in
      let a = among-each (row_of u) (class-named n classes st c hc k) in (
        row_of u c,
        among-joined rows_of (among-each (rule_of n) (among-keep (λ x. is_av x.form) m v)) a,
        refl,
        refl,
        row_is u c s t c i ∙ both-and _ _ (eq-eqb c c refl) h,
      )
