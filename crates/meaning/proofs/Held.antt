-- What the lists of permissions and names hold, from what holds of the statements: a class has at most 32 permissions, its common's 16
-- and 16 of its own or 32 of its own; and each name has at most 63 bytes.
-- Each is read off the list's definition, part by part.
-- Assumes nothing.
use mathlib.Core.Path.{◌≡◌}
use mathlib.Core.Bool.{true, ◌||◌, false≢true}
use mathlib.Core.List.{List, [], ◌∷◌, ◌++◌}
use Prim.Native.Nat.{ℕ, ◌+◌, ◌≤◌}
use native.Mathlib.Omega.{arith}
use borrow.Author.Tests.{eqb-true}
use lib.Dec.{eqb}
use lib.ListN.{length, length-append}
use Rattle.meaning.specs.Plain.{within, any, joined}
use Rattle.meaning.specs.Statements.{Item, Statement, names_at, of_form, p_first, p_second, p_third, p_fourth}
use Rattle.meaning.specs.Sizes.{longest_name, common_permissions, own_permissions, own_beside_common}
use Rattle.meaning.specs.Names.{declares, decl_of, object_r, declared_by, declared, first_of, is_perms_of, is_common, common_perms, inherited, d_type, d_bool}
use Rattle.meaning.specs.Permissions.{Name, stated_perms, perms_of, item_name, class_of, classes_in}
use Rattle.meaning.specs.Sets.{Names, name_of, of_kind, aliases_by}
use Rattle.meaning.specs.Rules.{Bound, type_entries, roles_in, role_of, object_role, user_of, switch_of}
use Rattle.meaning.specs.Keywords.{bytes, k_name, k_common, k_type, k_typealias, k_perms}
use Rattle.meaning.proofs.Lists.{bool_cases, and_both}
use Rattle.meaning.proofs.Lengths.{if-all, All, empty, more, all_map, all_both, all_keep, all-each, all_append, all-joined}
use Rattle.meaning.proofs.Own.{Few, Short}

-- ---- the first of some lists
first-all : (P : List Item → Type 0) {ls : List (List Item)} → P [] → All P ls → P (first_of ls)
unfolding first_of
first-all P z empty = z
first-all P z (more h r) = h

-- ---- the permissions of a class: P holds of them where it does of an own list, and of what C and B hold of, joined: a common's
-- list, and a list beside a common
module _ (ss : List Statement) (C B P : List Item → Type 0) (none : C []) (bare : P []) (join : (x y : List Item) → C x → B y → P (x ++ y))
    (common : All (λ s. s.form ≡ k_common → C (names_at p_second s)) ss) (own : All (λ s. s.form ≡ k_perms → P (names_at p_second s)) ss)
    (beside : All (λ s. s.form ≡ k_perms → B (names_at p_fourth s)) ss) where
  common-hold : (x : List ℕ) → C (common_perms x ss)
  unfolding common_perms is_common
  common-hold x =
      first-all C none (all-each (names_at p_second) (all_keep (is_common x)
      (λ s e h. h (eqb-true s.form k_common (and_both (eqb s.form k_common) _ e).0)) common))

  inherited-hold : (s : Statement) → C (inherited ss s)
  unfolding inherited
  inherited-hold s = if-all C (eqb s.form k_perms) (λ h. common-hold _) (λ h. none)

  perms-hold : (x : List ℕ) → P (perms_of ss x)
  unfolding perms_of is_perms_of stated_perms
  perms-hold x =
      first-all P bare (all-each (stated_perms ss) (all_keep (is_perms_of x) (λ s e h.
      let f : s.form ≡ k_perms = eqb-true s.form k_perms (and_both (eqb s.form k_perms) _ e).0 in
      if-all P (any (λ i. eqb i.pos p_third) s.items)
      (λ y. join (inherited ss s) (names_at p_fourth s) (inherited-hold s) (h.1 f)) (λ y. h.0 f)) (all_both ss own beside)))

pub few-perms : (ss : List Statement) → Few k_common p_second common_permissions ss → Few k_perms p_second own_permissions ss
    → Few k_perms p_fourth own_beside_common ss → (x : List ℕ) → length (perms_of ss x) ≤ own_permissions
few-perms ss =
    perms-hold ss (λ l. length l ≤ common_permissions) (λ l. length l ≤ own_beside_common) (λ l. length l ≤ own_permissions)
    (omega arith) (omega arith) (λ x y h k. omega (arith, length-append x y))

-- ---- names
abbrev pub Fits : List ℕ → Type 0
Fits x = length x ≤ longest_name

module _ (ss : List Statement) (short : All (λ s. All Short s.items) ss) where
  names-fit : (q : ℕ) → All (λ s. All (λ i. Fits i.text) (names_at q s)) ss
  unfolding names_at
  names-fit q = all_map (λ s. all_keep _ (λ i e h. h (and_both (eqb i.pos q) (eqb i.kind k_name) e).1)) short

  perms-fit : (x : List ℕ) → All (λ i. Fits i.text) (perms_of ss x)
  perms-fit =
      let F : List Item → Type 0 = All (λ i. Fits i.text) in
      let at : (q f : ℕ) → All (λ s. s.form ≡ f → All (λ i. Fits i.text) (names_at q s)) ss = λ q f. all_map (λ s h e. h) (names-fit q) in
      perms-hold ss F F F empty empty (λ x y h k. all_append h k) (at p_second k_common) (at p_second k_perms) (at p_fourth k_perms)

  declared-fit : All (λ d. Fits d.text) (declared ss)
  unfolding declared object_r bytes declared_by decl_of declares
  declared-fit =
      more {x = object_r} (omega arith) (all-joined declared_by
      (all_map (λ s h. all-each (decl_of s) (all_keep _ (λ i e f. f (is_name s i e)) h)) short)) where
        is_name : (s : Statement) (i : Item) → within d_type d_bool (declares s i) ≡ true → eqb i.kind k_name ≡ true
        is_name s i = bool_cases (eqb i.kind k_name) (λ n h. n) (λ n. rw n (λ h. absurd (false≢true h)))

  pub kind-fit : (d : ℕ) → All (λ x. Fits x.text) (of_kind d (declared ss))
  unfolding of_kind name_of
  kind-fit d = all-each name_of (all_keep _ (λ x e h. h) declared-fit)

  pub types-fit : (n : Names) (bs : List Bound) (is : List Item) (i : ℕ) (ns : List Name) → All (λ x. Fits x.text) ns
      → All (λ t. Fits t.name.text) (type_entries n bs is i ns)
  unfolding type_entries
  types-fit n bs is i [] h = empty
  types-fit n bs is i (x ∷ ns) (more h r) = more h (types-fit n bs is (i + 1) ns r)

  pub roles-fit : (n : Names) (ns : List Name) → All (λ x. Fits x.text) ns → All (λ r. Fits r.name.text) (roles_in n ss ns)
  unfolding roles_in object_role object_r name_of bytes role_of
  roles-fit n [] h = empty
  roles-fit n (x ∷ ns) (more h r) = more {x = object_role} (omega arith) (all-each (role_of n ss) r)

  pub aliases-fit : All (λ a. Fits a.name.text) (joined aliases_by ss)
  unfolding aliases_by item_name
  aliases-fit =
      all-joined aliases_by (all_map (λ s h. if-all (All (λ a. Fits a.name.text)) (eqb s.form k_type || eqb s.form k_typealias)
      (λ e. all-each _ h) (λ e. empty)) (names-fit p_third))

  pub users-fit : (n : Names) (k : ℕ) → All (λ u. Fits u.name.text) (joined (user_of n) (of_form k ss))
  unfolding user_of of_form item_name
  users-fit n k = all-joined (user_of n) (all_keep _ (λ s e h. all-each _ h) (names-fit p_first))

  pub bools-fit : (k : ℕ) → All (λ b. Fits b.name.text) (joined switch_of (of_form k ss))
  unfolding switch_of of_form item_name
  bools-fit k = all-joined switch_of (all_keep _ (λ s e h. all-each _ h) (names-fit p_first))

  pub classes-fit : All (λ c. Fits c.name.text × All (λ x. Fits x.text) c.perms) (classes_in ss)
  unfolding classes_in class_of item_name
  classes-fit = all-each (class_of ss) (all_keep _ (λ d e h. (h, all-each item_name (perms-fit d.text))) declared-fit)
