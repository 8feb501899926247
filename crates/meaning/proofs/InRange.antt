-- Every number that the policy of a text with no earlier refusal holds is in its range, and every set has as many entries as there
-- are names that it is of (`in-range`; of an accepted load `accepted-in-range`). The rows of the rules are in Ruled; the rest is here,
-- kind by kind, in the order of the record.
-- Assumes nothing.
use Prim.Native.Nat.{ℕ, ◌+◌, ◌<◌}
use mathlib.Core.Path.{◌≡◌, refl, sym, ap, ◌∙◌}
use mathlib.Core.Logic.{◌⊎◌, inl, inr}
use mathlib.Core.Bool.{Bool, true, ◌||◌, false≢true}
use mathlib.Core.List.{List, [], ◌∷◌, ◌++◌}
use borrow.Author.Tests.{eqb-true}
use lib.Dec.{eqb}
use lib.ListN.{length, get_or}
use Rattle.meaning.specs.Keywords.{k_name, k_role_transition, k_role_allow, k_if, k_user, k_constrain}
use Rattle.meaning.specs.Statements.{Item, Statement, part, names_at, of_form, p_first, p_third, p_last, p_test}
use Rattle.meaning.specs.Names.{first_text, uses_at, d_type, d_role, d_bool}
use Rattle.meaning.specs.Permissions.{Name, Class, class_part}
use Rattle.meaning.specs.Sets.{Names, names_of, named_in}
use Rattle.meaning.specs.Expressions.{Code, push, leaf}
use Rattle.meaning.specs.Policy.{parent, TypeEntry, AliasEntry, Role, User, RoleAllow, RoleTransition, Test, Constrain, Policy}
use Rattle.meaning.specs.Rules.{number_of, alias_entry, perms_for, perm_sets, role_allow_of, role_transition_of, role_of, object_role, roles_in, user_of, Bound, bounds_of, parent_in, type_entries, types_in, bool_token, if_of, constraint_words, constrain_of, policy_of}
use Rattle.meaning.specs.Contexts.{nameless, class_at}
use Rattle.meaning.specs.Refusals.{accepted}
use Rattle.meaning.specs.Load.{load}
use Rattle.meaning.proofs.Lists.{bool_cases, either-right, or_cases, Among, here, there, among-left, among-right, append-among, keep-among, among-keep, each-among, joined-among, get_or-each, length-each}
use Rattle.meaning.proofs.Accepted.{NoEarlier, statements_in, names_in, policy_in, stands}
use Rattle.meaning.proofs.Shapes.{shape}
use Rattle.meaning.proofs.Served.{found, named-below}
use Rattle.meaning.proofs.Aliased.{first-name, alias-typed, bounds-in-range}
use Rattle.meaning.proofs.Pushed.{pushed}
use Rattle.meaning.proofs.Comparisons.{Fits, mark-none, test_fits}
use Rattle.meaning.proofs.Listed.{types-counted, roles-counted, users-counted, bools-counted, types-sized, roles-sized}
use Rattle.meaning.proofs.Ranges.{RoleAllowIn, RoleTransitionIn, ConstrainIn, InRange}
use Rattle.meaning.proofs.Ruled.{perms-sized, rows_in, type-rows-in}

-- ---- where parents, roles and permissions come from
parent-from : (bs : List Bound) (i : ℕ) {x : ℕ} → parent_in bs i ≡ parent x → (b : Bound) × Among b bs × (b.parent ≡ x)
unfolding parent_in
parent-from [] i e = absurd (false≢true (cc))
parent-from (b ∷ bs) i {x = x} e =
    bool_cases (eqb b.child i) (λ q. let z : parent b.parent ≡ parent x = rw q at e in (b, here refl, cc))
    (λ q. let r = parent-from bs i (rw q at e) in (r.0, there r.1, r.2))

entry-from : (n : Names) (bs : List Bound) (perm : List Item) (i : ℕ) (xs : List Name) {t : TypeEntry} → Among t (type_entries n bs perm i xs)
    → (j : ℕ) × (t.parent ≡ parent_in bs j)
unfolding type_entries
entry-from n bs perm i [] m = elim m [ ]
entry-from n bs perm i (x ∷ xs) (here e) = (i, ap (λ t. t.parent) e)
entry-from n bs perm i (x ∷ xs) (there m) = entry-from n bs perm (i + 1) xs m

role-from : (n : Names) (ss : List Statement) (rs : List Name) {r : Role} → Among r (roles_in n ss rs)
    → (r.types ≡ []) ⊎ (length r.types ≡ length n.types)
unfolding roles_in role_of object_role
role-from n ss [] m = elim m [ ]
role-from n ss (o ∷ rs) (here e) = inl (ap (λ r. r.types) e)
role-from n ss (o ∷ rs) (there m) = let r = each-among (role_of n ss) rs m in inr (ap (λ r. length r.types) r.2 ∙ types-sized n _)

-- the permissions for a class that a statement may or may not name
perms-from : (n : Names) (st : Statement) (k : ℕ) (d : Class) → k < length n.classes
    → (get_or (perm_sets n st) k [] ≡ []) ⊎ (length (get_or (perm_sets n st) k []) ≡ length (get_or n.classes k d).perms)
unfolding perm_sets perms_for
perms-from n st k d h =
    bool_cases (named_in (class_part st) (get_or n.classes k d).name.text) (λ e. inr (perms-sized n st k d h e))
    (λ e. inl (rw (get_or-each (perms_for st) n.classes k d [] h, e, perms_for)))

-- the new role of a role_transition must be a role
new-role : (p : ℕ) → (eqb p p_third || eqb p p_last) ≡ true → uses_at k_role_transition p ≡ d_role ∷ []
unfolding uses_at
new-role p e = or_cases (eqb p p_third) (eqb p p_last) e (λ q. rw (eqb-true p p_third q)) (λ q. rw (eqb-true p p_last q))

-- ---- the kinds
module _ (s : List ℕ) (c : NoEarlier s) where
  abbrev ss : List Statement
  ss = statements_in s

  abbrev n : Names
  n = names_in s

  abbrev p : Policy
  p = policy_in s

  aliases-in : {a : AliasEntry} → Among a p.aliases → a.type < length p.types
  unfolding policy_of alias_entry names_of
  aliases-in m =
      let (a, ma, e) = each-among (alias_entry n) n.aliases m in
      rw (e, types-counted ss) (named-below ss d_type a.type (alias-typed s c ma))

  parents-in : {t : TypeEntry} {x : ℕ} → Among t p.types → t.parent ≡ parent x → x < length p.types
  unfolding policy_of types_in
  parents-in m q =
      let (j, e) = entry-from n _ _ 0 n.types m in
      let (b, mb, w) = parent-from (bounds_of n ss) j (sym e ∙ q) in
      rw (← w, types-counted ss) (bounds-in-range s c mb).1

  role-allows-in : {r : RoleAllow} → Among r p.role_allows → RoleAllowIn p r
  unfolding policy_of role_allow_of
  role-allows-in m =
      let (st, mk, e) = each-among (role_allow_of n) (of_form k_role_allow ss) m in
      rw e (record { from = roles-sized n _ ∙ sym (roles-counted ss); to = roles-sized n _ ∙ sym (roles-counted ss) })

  new-role-in : (st : Statement) → Among st ss → st.form ≡ k_role_transition
      → number_of n.roles (first_text (part p_third st ++ part p_last st)) < length n.roles
  unfolding part names_of
  new-role-in st m e =
      let at : ℕ → Item → Bool = λ p i. eqb i.pos p in
      let r = first-name s c m k_role_transition e refl refl (part p_third st ++ part p_last st)
      (λ i l d. or_cases (eqb i.pos p_third) (eqb i.pos p_last) d (λ q. among-left (part p_last st) (among-keep (at p_third) l q))
      (λ q. among-right (part p_third st) (among-keep (at p_last) l q)))
      (λ i l. append-among (part p_third st) l
      (λ k. let x = keep-among (at p_third) st.items k in (x.0, rw x.1))
      (λ k. let x = keep-among (at p_last) st.items k in (x.0, either-right (eqb i.pos p_third) (eqb i.pos p_last) x.1))) in
      rw r.reads (named-below ss d_role r.item.text
      (found ss c.known m r.among r.name k_role_transition e d_role [] (new-role r.item.pos r.place)))

  role-transitions-in : {r : RoleTransition} → Among r p.role_transitions → RoleTransitionIn p r
  unfolding policy_of role_transition_of of_form
  role-transitions-in m =
      let (st, mk, e) = each-among (role_transition_of n) (of_form k_role_transition ss) m in
      let k = keep-among (λ st. eqb st.form k_role_transition) ss mk in
      rw e (record {
        roles = roles-sized n _ ∙ sym (roles-counted ss);
        types = types-sized n _ ∙ sym (types-counted ss);
        classes = length-each _ n.classes;
        result = rw (roles-counted ss) (new-role-in st k.0 (eqb-true st.form k_role_transition k.1));
      })

  roles-in : {r : Role} → Among r p.roles → (r.types ≡ []) ⊎ (length r.types ≡ length p.types)
  unfolding policy_of
  roles-in m = rw (types-counted ss) (role-from n ss n.roles m)

  users-in : {u : User} → Among u p.users → length u.roles ≡ length p.roles
  unfolding policy_of user_of
  users-in m =
      let (st, mk, mu) = joined-among (user_of n) (of_form k_user ss) m in
      let (i, mi, e) = each-among _ (names_at p_first st) mu in
      rw e (roles-sized n _ ∙ sym (roles-counted ss))

  -- an operand of a condition is a boolean
  bool-in : (st : Statement) → Among st ss → st.form ≡ k_if → {x : ℕ} (i : Item) → Among i st.items → leaf x ≡ bool_token n i
      → x < length n.bools
  unfolding bool_token uses_at names_of
  bool-in st m f {x = x} i l e =
      bool_cases (eqb i.kind k_name)
      (λ q.
      let w : leaf x ≡ leaf (number_of n.bools i.text) = rw q at e in
      let z : x ≡ number_of n.bools i.text = cc in
      rw z (named-below ss d_bool i.text (found ss c.known m l q k_if f d_bool [] refl)))
      (λ q. absurd (mark-none i.kind (rw q at e)))

  ifs-in : {cs : List (Code ℕ)} {x : ℕ} → Among cs p.ifs → Among (push x) cs → x < length p.bools
  unfolding policy_of if_of of_form part
  ifs-in m l =
      let (st, mk, e) = each-among (if_of n) (of_form k_if ss) m in
      let k = keep-among (λ st. eqb st.form k_if) ss mk in
      let (i, mi, w) = each-among (bool_token n) (part p_test st) (pushed [] _ (rw e at l)) in
      rw (bools-counted ss) (bool-in st k.0 (eqb-true st.form k_if k.1) i (keep-among (λ i. eqb i.pos p_test) st.items mi).0 w)

  -- the comparisons of a constrain
  tests-in : (st : Statement) → Among st ss → st.form ≡ k_constrain → {e : Test} → Among (push e) (constrain_of n st).test
      → Fits (length p.users) (length p.roles) (length p.types) e
  unfolding constrain_of constraint_words
  tests-in st m f l =
      let t = rw f at (shape s c m (rw f)) in
      rw (users-counted ss, roles-counted ss, types-counted ss) (test_fits n (constraint_words st) (t.told refl) (pushed [] _ l))

  constrains-in : {k : Constrain} → Among k p.constrains → ConstrainIn p k
  unfolding policy_of constrain_of of_form perm_sets class_at
  constrains-in m =
      let (st, mk, e) = each-among (constrain_of n) (of_form k_constrain ss) m in
      let k = keep-among (λ st. eqb st.form k_constrain) ss mk in
      rw e (record {
        classes = length-each (perms_for st) n.classes;
        perms = λ i h. perms-from n st i (record { name = nameless; perms = [] }) h;
        tests = λ l. tests-in st k.0 (eqb-true st.form k_constrain k.1) l;
      })

  -- Every number of the policy is in its range.
  pub in-range : InRange p
  in-range =
      record {
        aliases = aliases-in;
        parents = parents-in;
        rows = rows_in s c;
        type_rows = type-rows-in s c;
        role_allows = role-allows-in;
        role_transitions = role-transitions-in;
        roles = roles-in;
        users = users-in;
        ifs = ifs-in;
        constrains = constrains-in;
      }

-- Every number that the policy of an accepted text holds is in its range.
pub accepted-in-range : (s : List ℕ) → (load s).number ≡ accepted → InRange (load s).policy
accepted-in-range s e = let t = stands s e in rw t.policy (in-range s t.earlier)
