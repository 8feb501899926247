-- Where declarations come from: an alias that is declared is one of the aliases (`alias-among`), the type of a `type` is declared
-- (`type-found`), and the names declared as one kind, aliases apart, are just those at the first position of one form (`at_first`).
-- What a name declares is looked up in a table by the statement's form and the position (`entries`), so of what is declared as d the
-- entry of d tells form and position.
-- Assumes nothing.
use Prim.Native.Nat.{ℕ}
use mathlib.Core.Path.{◌≡◌, refl, sym, ap, ◌∙◌}
use mathlib.Core.Bool.{Bool, true, false, ◌&&◌, ◌||◌, false≢true, and_comm}
use mathlib.Core.List.{List, [], ◌∷◌, ◌++◌}
use borrow.Author.Tests.{eqb-true}
use lib.Dec.{eqb}
use Rattle.std.specs.Prelude.{if◌then◌else◌}
use Rattle.meaning.specs.Plain.{within, any, keep, each, joined}
use Rattle.meaning.specs.Keywords.{k_name, k_class, k_common, k_attribute, k_type, k_typealias, k_bool, k_role, k_user, k_perms}
use Rattle.meaning.specs.Statements.{Item, Statement, part, names_at, of_form, p_first, p_second, p_third, p_fourth}
use Rattle.meaning.specs.Names.{Decl, declares_at, declares, decl_of, object_r, declared_by, declared, first_text, d_none, d_type, d_attribute, d_alias, d_role, d_user, d_class, d_common, d_bool, d_perm}
use Rattle.meaning.specs.Permissions.{Name, item_name}
use Rattle.meaning.specs.Sets.{Alias, name_of, aliases_by}
use Rattle.meaning.proofs.Lists.{bool_cases, and_both, both-and, same_test, Among, here, there, keep-among, among-keep, each-among, among-each, joined-among, among-joined}
use Rattle.meaning.proofs.Served.{Found}

-- ---- what a name declares, as a table
pub record Entry : Type 0 where
  pub test : Bool
  pub kind : ℕ

abbrev pub entry : Bool → ℕ → Entry
entry b d = record { test = b; kind = d }

abbrev pub entries : ℕ → ℕ → List Entry
entries k p =
    entry (eqb k k_type && eqb p p_first) d_type ∷ entry (eqb k k_attribute && eqb p p_first) d_attribute
    ∷ entry ((eqb k k_type || eqb k k_typealias) && eqb p p_third) d_alias ∷ entry (eqb k k_role && eqb p p_first) d_role
    ∷ entry (eqb k k_user && eqb p p_first) d_user ∷ entry (eqb k k_class && eqb p p_first) d_class
    ∷ entry (eqb k k_common && eqb p p_first) d_common ∷ entry (eqb k k_bool && eqb p p_first) d_bool
    ∷ entry (eqb k k_common && eqb p p_second) d_perm ∷ entry (eqb k k_perms && (eqb p p_second || eqb p p_fourth)) d_perm ∷ []

abbrev pick : List Entry → ℕ
pick [] = d_none
pick (e ∷ es) = if e.test then e.kind else pick es

abbrev pub has_entry : ℕ → List Entry → Bool
has_entry d es = any (λ e. eqb e.kind d && e.test) es

picked : (es : List Entry) (d : ℕ) → eqb d_none d ≡ false → eqb (pick es) d ≡ true → has_entry d es ≡ true
picked [] d n e = absurd (false≢true (sym n ∙ e))
picked (x ∷ es) d n e =
    bool_cases x.test (λ t. rw (both-and (eqb x.kind d) x.test (rw t at e) t))
    (λ t. let r = picked es d n (rw t at e) in bool_cases (eqb x.kind d && x.test) (λ q. rw q) (λ q. rw (q, r)))

declares-what : (k p d : ℕ) → eqb d_none d ≡ false → eqb (declares_at k p) d ≡ true → has_entry d (entries k p) ≡ true
unfolding declares_at
declares-what k p d n e = picked (entries k p) d n e

pub just : (c : Bool) → (if c then true else false) ≡ true → c ≡ true
just true e = refl
just false e = absurd (false≢true e)

-- a word that declares something is a name
declares-name : (st : Statement) (i : Item) (d : ℕ) → eqb d_none d ≡ false → eqb (declares st i) d ≡ true
    → (eqb i.kind k_name ≡ true) × (has_entry d (entries st.form i.pos) ≡ true)
unfolding declares
declares-name st i d n e =
    bool_cases (eqb i.kind k_name) (λ q. (q, declares-what st.form i.pos d n (rw q at e))) (λ q. absurd (false≢true (sym n ∙ rw q at e)))

-- ---- aliases and types
abbrev alias_in : Statement → Item → Alias
alias_in st i = record { name = item_name i; type = first_text (part p_first st) }

-- An alias that is declared is one of the aliases.
pub alias-among : (ss : List Statement) {d : Decl} → Among d (declared ss) → eqb d.kind d_alias ≡ true
    → (a : Alias) × Among a (joined aliases_by ss) × (a.name.text ≡ d.text)
unfolding declared declared_by decl_of aliases_by object_r names_at item_name
alias-among ss (here e) q = absurd (false≢true (rw e at q))
alias-among ss (there m) q =
    let (st, mst, mb) = joined-among declared_by ss m in
    let (i, mi, e) = each-among (decl_of st) _ mb in
    let n = declares-name st i d_alias refl (rw e at q) in
    let f = and_both (eqb st.form k_type || eqb st.form k_typealias) (eqb i.pos p_third) (just _ n.1) in
    let k : Among i (names_at p_third st) =
    among-keep (λ i. eqb i.pos p_third && eqb i.kind k_name) (keep-among _ st.items mi).0 (both-and _ _ f.1 n.0) in
    (alias_in st i, among-joined aliases_by mst (rw (f.0, aliases_by) (among-each (alias_in st) k)), sym (ap (λ d. d.text) e))

-- What a `type` names is a type.
pub type-found : (ss : List Statement) {st : Statement} {i : Item} → Among st ss → Among i st.items → eqb st.form k_type ≡ true
    → eqb i.pos p_first ≡ true → eqb i.kind k_name ≡ true → Found ss (d_type ∷ []) i.text
unfolding declared declared_by decl_of declares declares_at
type-found ss {st = st} {i = i} mst mi f p n =
    let q : declares st i ≡ d_type = rw (n, f, p, declares, declares_at) in
    record {
      decl = decl_of st i;
      among = there (among-joined declared_by mst (among-each (decl_of st) (among-keep (λ i. within d_type d_bool (declares st i)) mi (rw q))));
      kind = rw q;
      reads = refl;
    }

-- ---- names at the first position
keep_append : {A : Type 0} (p : A → Bool) (l r : List A) → keep p (l ++ r) ≡ keep p l ++ keep p r
keep_append p [] r = refl
keep_append p (x ∷ l) r = bool_cases (p x) (λ e. rw (e, keep_append p l r)) (λ e. rw (e, keep_append p l r))

pub each_append : {A B : Type 0} (f : A → B) (l r : List A) → each f (l ++ r) ≡ each f l ++ each f r
each_append f [] r = refl
each_append f (x ∷ l) r = ap (f x ∷◌) (each_append f l r)

keep_same : {A : Type 0} (p q : A → Bool) → ((x : A) → p x ≡ q x) → (l : List A) → keep p l ≡ keep q l
keep_same p q h [] = refl
keep_same p q h (x ∷ l) = rw (h x, keep_same p q h l)

keep-none : {A : Type 0} (p : A → Bool) → ((x : A) → p x ≡ false) → (l : List A) → keep p l ≡ []
keep-none p h [] = refl
keep-none p h (x ∷ l) = rw (h x) (keep-none p h l)

-- the names at the first position of the statements of the form k
abbrev pub first_names : ℕ → List Statement → List Name
first_names k ss = joined (λ st. each item_name (names_at p_first st)) (of_form k ss)

-- these are the names that are declared as d, `object_r` apart
abbrev pub AtFirst : ℕ → ℕ → Type 0
AtFirst k d = (ss : List Statement) → each name_of (keep (λ e. eqb e.kind d) (joined declared_by ss)) ≡ first_names k ss

-- of what a statement of the form k declares at its first position, as d
module _ (k d : ℕ) (just-there : (f p : ℕ) → eqb (declares_at f p) d ≡ (eqb f k && eqb p p_first)) (some : eqb d_none d ≡ false)
    (counted : within d_type d_bool d ≡ true) where
  items_as : (st : Statement) (l : List Item)
      → each name_of (keep (λ e. eqb e.kind d) (each (decl_of st) (keep (λ i. within d_type d_bool (declares st i)) l)))
      ≡ each item_name (keep (λ i. eqb (declares st i) d) l)
  unfolding name_of decl_of item_name
  items_as st [] = refl
  items_as st (i ∷ l) =
      bool_cases (eqb (declares st i) d)
      (λ e. let w : within d_type d_bool (declares st i) ≡ true = rw (eqb-true (declares st i) d e) counted in rw (w, e, items_as st l))
      (λ e. bool_cases (within d_type d_bool (declares st i)) (λ q. rw (q, e, items_as st l)) (λ q. rw (q, e, items_as st l)))

  declares-is : (st : Statement) (i : Item) → eqb (declares st i) d ≡ (eqb st.form k && (eqb i.pos p_first && eqb i.kind k_name))
  unfolding declares
  declares-is st i =
      bool_cases (eqb i.kind k_name) (λ q. rw (q, declares, and_comm (eqb i.pos p_first) true) (just-there st.form i.pos))
      (λ q. rw (q, declares, and_comm (eqb i.pos p_first) false, and_comm (eqb st.form k) false) some)

  one-statement : (st : Statement) → each name_of (keep (λ e. eqb e.kind d) (declared_by st))
      ≡ (if eqb st.form k then each item_name (names_at p_first st) else [])
  unfolding declared_by names_at
  one-statement st =
      items_as st st.items
      ∙ bool_cases (eqb st.form k)
      (λ e. rw (e, keep_same _ (λ i. eqb i.pos p_first && eqb i.kind k_name) (λ i. declares-is st i ∙ rw e) st.items))
      (λ e. rw (e, keep-none (λ i. eqb (declares st i) d) (λ i. declares-is st i ∙ rw e) st.items))

  of-statements : AtFirst k d
  unfolding of_form
  of-statements [] = refl
  of-statements (st ∷ ss) =
      rw (keep_append (λ e. eqb e.kind d) (declared_by st) (joined declared_by ss), each_append, one-statement st, of-statements ss)
      (bool_cases (eqb st.form k) (λ e. rw e) (λ e. rw e))

-- Names are declared as d at the first position of the form k, where the table has that form and position, and no other, for d.
pub at_first : (k d : ℕ) → eqb d_none d ≡ false → within d_type d_bool d ≡ true → eqb (declares_at k p_first) d ≡ true
    → ((f p : ℕ) → has_entry d (entries f p) ≡ true → (eqb f k && eqb p p_first) ≡ true) → AtFirst k d
at_first k d n w h g =
    of-statements k d (λ f p. same_test _ _ (λ e. g f p (declares-what f p d n e))
    (λ e. let r = and_both (eqb f k) (eqb p p_first) e in rw (eqb-true f k r.0, eqb-true p p_first r.1) h)) n w
