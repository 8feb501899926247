-- "A context is `user:role:type`, exactly two colons. It is valid if all three exist (an alias serves) and either the role is
-- `object_r`, or the role has the type and the user has the role."
-- The reading tells the first part that is wrong; 01 keeps only 11 or 12 of it.
use Rattle.std.specs.Prelude.{ℕ, Bool, false, not, ◌&&◌, ◌||◌, List, [], ◌∷◌, ◌++◌, eqb, ltb, get_or, length, if◌then◌else◌}
use Prim.Native.Char.{code}
use Rattle.meaning.specs.Plain.{index_from, same_bytes}
use Rattle.meaning.specs.Permissions.{Name, Class}
use Rattle.meaning.specs.Policy.{holds, no_parent, TypeEntry, AliasEntry, Role, User, Policy}
use Rattle.meaning.specs.Rules.{class_number}
use Rattle.meaning.specs.Refusals.{bad_source, bad_target, no_class}

abbrev pub colon : ℕ
colon = code ":"

-- ---- a context by numbers; role 0 is `object_r`
pub record Context : Type 0 where
  pub user : ℕ
  pub role : ℕ
  pub type : ℕ

-- what is wrong: not two colons, no such user, role, type, the role has not the type, the user has not the role
pub data Wrong : Type 0 where
  bad_form : Wrong
  no_user : Wrong
  no_role : Wrong
  no_type : Wrong
  role_without_type : Wrong
  user_without_role : Wrong

pub data Reading : Type 0 where
  wrong : Wrong → Reading
  reads : Context → Reading

-- ---- what stands at a number
abbrev pub nameless : Name
nameless = record { at = 0; text = [] }

unfoldable pub type_at : Policy → ℕ → TypeEntry
type_at p x = get_or p.types x (record { name = nameless; parent = no_parent; permissive = false })

unfoldable pub role_at : Policy → ℕ → Role
role_at p x = get_or p.roles x (record { name = nameless; types = [] })

unfoldable pub user_at : Policy → ℕ → User
user_at p x = get_or p.users x (record { name = nameless; roles = [] })

unfoldable pub class_at : Policy → ℕ → Class
class_at p x = get_or p.classes x (record { name = nameless; perms = [] })

-- ---- the number of a name; the count where there is none
unfoldable pub user_number : Policy → List ℕ → ℕ
user_number p x = index_from (λ u. same_bytes x u.name.text) 0 p.users

unfoldable pub role_number : Policy → List ℕ → ℕ
role_number p x = index_from (λ r. same_bytes x r.name.text) 0 p.roles

unfoldable pub aliased : List AliasEntry → List ℕ → ℕ → ℕ
aliased [] x none = none
aliased (a ∷ al) x none = let r = aliased al x none in if same_bytes x a.name.text then a.type else r

unfoldable pub type_number : Policy → List ℕ → ℕ
type_number p x =
    let i = index_from (λ t. same_bytes x t.name.text) 0 p.types in
    let j = aliased p.aliases x (length p.types) in
    if ltb i (length p.types) then i else j

-- ---- validity
unfoldable pub is_object : Context → Bool
is_object c = eqb c.role 0

unfoldable pub role_has : Policy → Context → Bool
role_has p c = holds (role_at p c.role).types c.type

unfoldable pub user_has : Policy → Context → Bool
user_has p c = holds (user_at p c.user).roles c.role

-- of a context whose three parts exist
unfoldable pub valid : Policy → Context → Bool
valid p c = is_object c || (role_has p c && user_has p c)

unfoldable pub judged : Policy → Context → Reading
judged p c =
    if not (ltb c.user (length p.users)) then wrong no_user
    else if not (ltb c.role (length p.roles)) then wrong no_role
    else if not (ltb c.type (length p.types)) then wrong no_type
    else if is_object c then reads c
    else if not (role_has p c) then wrong role_without_type
    else if not (user_has p c) then wrong user_without_role
    else reads c

-- ---- reading: the bytes cut at their colons
unfoldable pub onto : ℕ → List (List ℕ) → List (List ℕ)
onto b [] = []
onto b (x ∷ xs) = (b ∷ x) ∷ xs

unfoldable pub parts : List ℕ → List (List ℕ)
parts [] = [] ∷ []
parts (b ∷ s) = let r = parts s in if eqb b colon then [] ∷ r else onto b r

unfoldable pub named : Policy → List (List ℕ) → Reading
named p [] = wrong bad_form
named p (u ∷ []) = wrong bad_form
named p (u ∷ r ∷ []) = wrong bad_form
named p (u ∷ r ∷ t ∷ []) = judged p (record { user = user_number p u; role = role_number p r; type = type_number p t })
named p (u ∷ r ∷ t ∷ x ∷ xs) = wrong bad_form

unfoldable pub context_of : Policy → List ℕ → Reading
context_of p s = named p (parts s)

-- ---- printing: "Aliases print as their type."
unfoldable pub printed : Policy → Context → List ℕ
printed p c = (user_at p c.user).name.text ++ (colon ∷ ((role_at p c.role).name.text ++ (colon ∷ (type_at p c.type).name.text)))

-- ---- "access, create, relabel and member check 10, 11, 12, 13": what a question is about, or the number in that order (10 comes with
-- the table)
pub data Asked : Type 0 where
  refused_with : ℕ → Asked
  about : Context → Context → ℕ → Asked

unfoldable pub asked_class : Policy → Context → Context → List ℕ → Asked
asked_class p s t c = let k = class_number p.classes c in if ltb k (length p.classes) then about s t k else refused_with no_class

unfoldable pub asked_target : Policy → Context → Reading → List ℕ → Asked
asked_target p s (wrong y) c = refused_with bad_target
asked_target p s (reads t) c = asked_class p s t c

unfoldable pub asked_source : Policy → Reading → List ℕ → List ℕ → Asked
asked_source p (wrong y) t c = refused_with bad_source
asked_source p (reads s) t c = asked_target p s (context_of p t) c

unfoldable pub asked : Policy → List ℕ → List ℕ → List ℕ → Asked
asked p s t c = asked_source p (context_of p s) t c
