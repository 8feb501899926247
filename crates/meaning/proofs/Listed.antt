-- The types, roles, users and booleans of a policy are those that the text names, in that order: by their names (`types-named` and so
-- on), so also by their counts (`types-counted` and so on). And every set has as many entries as there are names that it is of
-- (`set-sized`). By induction on the lists, as the definitions go through them.
-- Assumes nothing.
use Prim.Native.Nat.{ℕ, ◌+◌}
use mathlib.Core.Path.{◌≡◌, refl, sym, ap, ◌∙◌}
use mathlib.Core.Bool.{Bool}
use mathlib.Core.List.{List, [], ◌∷◌}
use lib.ListN.{length}
use Rattle.meaning.specs.Plain.{each, joined}
use Rattle.meaning.specs.Keywords.{k_bool, k_user}
use Rattle.meaning.specs.Statements.{Item, Statement, names_at, of_form, p_first}
use Rattle.meaning.specs.Names.{declares_at, declared, object_r, d_user, d_bool}
use Rattle.meaning.specs.Permissions.{Name, item_name}
use Rattle.meaning.specs.Sets.{Names, names_of, name_of, of_kind}
use Rattle.meaning.specs.Policy.{Policy}
use Rattle.meaning.specs.Rules.{set_of, types_of, roles_of, Bound, type_entries, types_in, role_of, object_role, roles_in, user_of, switch_of, policy_of}
use Rattle.meaning.proofs.Lists.{length-each}
use Rattle.meaning.proofs.Declared.{each_append, just, at_first}

-- ---- laws
each-each : {A B C : Type 0} (g : B → C) (f : A → B) (l : List A) → each g (each f l) ≡ each (λ x. g (f x)) l
each-each g f [] = refl
each-each g f (x ∷ l) = ap (g (f x) ∷◌) (each-each g f l)

-- the names of what each statement adds
names-joined : {A : Type 0} (name : A → Name) (f : Statement → List A)
    → ((st : Statement) → each name (f st) ≡ each item_name (names_at p_first st)) → (l : List Statement)
    → each name (joined f l) ≡ joined (λ st. each item_name (names_at p_first st)) l
names-joined name f h [] = refl
names-joined name f h (st ∷ l) = rw (each_append name (f st) (joined f l), h st, names-joined name f h l)

counted : {A B : Type 0} (f : A → B) (l : List A) {r : List B} → each f l ≡ r → length l ≡ length r
counted f l e = sym (length-each f l) ∙ ap length e

-- ---- the names
types-from : (n : Names) (bs : List Bound) (perm : List Item) (i : ℕ) (xs : List Name) → each (λ t. t.name) (type_entries n bs perm i xs) ≡ xs
unfolding type_entries
types-from n bs perm i [] = refl
types-from n bs perm i (x ∷ xs) = ap (x ∷◌) (types-from n bs perm (i + 1) xs)

roles-from : (n : Names) (ss : List Statement) (rs : List Name) → each (λ r. r.name) (each (role_of n ss) rs) ≡ rs
unfolding role_of
roles-from n ss [] = refl
roles-from n ss (x ∷ xs) = ap (x ∷◌) (roles-from n ss xs)

module _ (ss : List Statement) where
  abbrev n : Names
  n = names_of ss

  abbrev p : Policy
  p = policy_of n ss

  pub types-named : each (λ t. t.name) p.types ≡ n.types
  unfolding policy_of types_in
  types-named = types-from n _ _ 0 n.types

  -- `object_r` is the first
  pub roles-named : each (λ r. r.name) p.roles ≡ n.roles
  unfolding policy_of roles_in names_of of_kind declared object_r object_role
  roles-named = ap (name_of object_r ∷◌) (roles-from n ss _)

  pub users-named : each (λ u. u.name) p.users ≡ n.users
  unfolding policy_of user_of names_of of_kind declared object_r declares_at
  users-named = names-joined (λ u. u.name) (user_of n) (λ st. each-each _ _ (names_at p_first st)) (of_form k_user ss) ∙ sym (at_first k_user d_user refl refl refl (λ f q. just _) ss)

  pub bools-named : each (λ b. b.name) p.bools ≡ n.bools
  unfolding policy_of switch_of names_of of_kind declared object_r declares_at
  bools-named = names-joined (λ b. b.name) switch_of (λ st. each-each _ _ (names_at p_first st)) (of_form k_bool ss) ∙ sym (at_first k_bool d_bool refl refl refl (λ f q. just _) ss)

  -- ---- the counts
  pub types-counted : length p.types ≡ length n.types
  types-counted = counted _ p.types types-named

  pub roles-counted : length p.roles ≡ length n.roles
  roles-counted = counted _ p.roles roles-named

  pub users-counted : length p.users ≡ length n.users
  users-counted = counted _ p.users users-named

  pub bools-counted : length p.bools ≡ length n.bools
  bools-counted = counted _ p.bools bools-named

-- ---- a set has an entry for each name
pub set-sized : (q : List ℕ → Bool) (ns : List Name) → length (set_of q ns) ≡ length ns
unfolding set_of
set-sized q ns = length-each _ ns

pub types-sized : (n : Names) (is : List Item) → length (types_of n is) ≡ length n.types
unfolding types_of
types-sized n is = set-sized _ n.types

pub roles-sized : (n : Names) (is : List Item) → length (roles_of n is) ≡ length n.roles
unfolding roles_of
roles-sized n is = set-sized _ n.roles
