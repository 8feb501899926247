-- What it is for the numbers of a policy to be in their ranges (`InRange`): a number of a type, role, class, boolean or if is below the
-- count of these, a set has as many entries as there are names that it is of, and a kind is one of those that may stand there.
-- `object_r` has no types of its own, and a rule or constraint has no permissions for a class that it does not name: these sets are empty.
-- Assumes nothing.
use Prim.Native.Nat.{ℕ, ◌<◌}
use mathlib.Core.Path.{◌≡◌}
use mathlib.Core.Logic.{◌⊎◌}
use mathlib.Core.Bool.{true}
use mathlib.Core.List.{List, []}
use lib.ListN.{length, get_or}
use Rattle.meaning.specs.Keywords.{is_type_rule, is_av}
use Rattle.meaning.specs.Expressions.{Code, push}
use Rattle.meaning.specs.Policy.{parent, TypeEntry, AliasEntry, Role, User, Row, TypeRow, RoleAllow, RoleTransition, Test, Constrain, Policy}
use Rattle.meaning.specs.Contexts.{class_at}
use Rattle.meaning.proofs.Lists.{Among}
use Rattle.meaning.proofs.Branches.{Below}
use Rattle.meaning.proofs.Comparisons.{Fits}

pub record RowIn (p : Policy) (r : Row) : Type 0 where
  pub kind : is_av r.kind ≡ true
  pub class : r.class < length p.classes
  pub branch : Below (length p.ifs) r.branch
  pub source : length r.source ≡ length p.types
  pub target : length r.target ≡ length p.types
  pub perms : length r.perms ≡ length (class_at p r.class).perms

pub record TypeRowIn (p : Policy) (r : TypeRow) : Type 0 where
  pub kind : is_type_rule r.kind ≡ true
  pub class : r.class < length p.classes
  pub source : length r.source ≡ length p.types
  pub target : length r.target ≡ length p.types
  pub result : r.result < length p.types

pub record RoleAllowIn (p : Policy) (r : RoleAllow) : Type 0 where
  pub from : length r.from ≡ length p.roles
  pub to : length r.to ≡ length p.roles

pub record RoleTransitionIn (p : Policy) (r : RoleTransition) : Type 0 where
  pub roles : length r.roles ≡ length p.roles
  pub types : length r.types ≡ length p.types
  pub classes : length r.classes ≡ length p.classes
  pub result : r.result < length p.roles

pub record ConstrainIn (p : Policy) (k : Constrain) : Type 0 where
  pub classes : length k.perms ≡ length p.classes
  pub perms : (i : ℕ) → i < length p.classes → (get_or k.perms i [] ≡ []) ⊎ (length (get_or k.perms i []) ≡ length (class_at p i).perms)
  pub tests : {e : Test} → Among (push e) k.test → Fits (length p.users) (length p.roles) (length p.types) e

pub record InRange (p : Policy) : Type 0 where
  pub aliases : {a : AliasEntry} → Among a p.aliases → a.type < length p.types
  pub parents : {t : TypeEntry} {x : ℕ} → Among t p.types → t.parent ≡ parent x → x < length p.types
  pub rows : {r : Row} → Among r p.rows → RowIn p r
  pub type_rows : {r : TypeRow} → Among r p.type_rows → TypeRowIn p r
  pub role_allows : {r : RoleAllow} → Among r p.role_allows → RoleAllowIn p r
  pub role_transitions : {r : RoleTransition} → Among r p.role_transitions → RoleTransitionIn p r
  pub roles : {r : Role} → Among r p.roles → (r.types ≡ []) ⊎ (length r.types ≡ length p.types)
  pub users : {u : User} → Among u p.users → length u.roles ≡ length p.roles
  pub ifs : {cs : List (Code ℕ)} {x : ℕ} → Among cs p.ifs → Among (push x) cs → x < length p.bools
  pub constrains : {k : Constrain} → Among k p.constrains → ConstrainIn p k
