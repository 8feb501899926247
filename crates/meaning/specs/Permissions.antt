-- The permissions of a class, and refusal 5: "permission not one of a class named with it".
use Rattle.std.specs.Prelude.{ℕ, Bool, not, ◌&&◌, ◌||◌, List, [], ◌++◌, eqb, if◌then◌else◌}
use Rattle.meaning.specs.Plain.{any, every, keep, each, same_bytes, Spot, nowhere, at, first_at}
use Rattle.meaning.specs.Statements.{Item, Statement, part, names_at, p_first, p_second, p_third, p_fourth, p_class, p_last}
use Rattle.meaning.specs.Names.{Decl, declared, first_of, inherited, is_perms_of, d_class}
use Rattle.meaning.specs.Keywords.{k_name, k_constrain, is_av}

-- a name and the place where it is declared
pub record Name : Type 0 where
  pub at : ℕ
  pub text : List ℕ

-- a class; a permission's number is its place in the list
pub record Class : Type 0 where
  pub name : Name
  pub perms : List Name

-- "Permission numbers start at 0: the common's in order, then the class's own."
unfoldable pub stated_perms : List Statement → Statement → List Item
stated_perms ss st =
    let both = inherited ss st ++ names_at p_fourth st in
    let own = names_at p_second st in
    if any (λ i. eqb i.pos p_third) st.items then both else own

-- "A class with no such statement has no permissions."
unfoldable pub perms_of : List Statement → List ℕ → List Item
perms_of ss x = first_of (each (stated_perms ss) (keep (is_perms_of x) ss))

unfoldable pub item_name : Item → Name
item_name i = record { at = i.at; text = i.text }

unfoldable pub class_of : List Statement → Decl → Class
class_of ss d = record { name = record { at = d.at; text = d.text }; perms = each item_name (perms_of ss d.text) }

-- the classes of a text, in the order of their declarations
unfoldable pub classes_in : List Statement → List Class
classes_in ss = each (class_of ss) (keep (λ d. eqb d.kind d_class) (declared ss))

-- where a statement names classes, and permissions with them
unfoldable pub class_part : Statement → List Item
class_part st = part (if eqb st.form k_constrain then p_first else p_class) st

unfoldable pub perm_part : Statement → List Item
perm_part st =
    if eqb st.form k_constrain then part p_second st
    else if is_av st.form then part p_last st
    else []

-- a class of the name c has a permission of the name x
unfoldable pub has : List Class → List ℕ → List ℕ → Bool
has cs c x = any (λ k. same_bytes c k.name.text && any (λ p. same_bytes x p.text) k.perms) cs

-- 5 at a permission's name that some class named with it has not, behind `~` too
unfoldable pub not_of_all : List Class → Statement → Item → Spot
not_of_all cs st i = if not (eqb i.kind k_name) || every (λ c. has cs c.text i.text) (class_part st) then nowhere else at i.at

unfoldable pub bad_permission : List Statement → Spot
bad_permission ss = let cs = classes_in ss in first_at (λ st. first_at (not_of_all cs st) (perm_part st)) ss
