-- What a name and a list of names mean. A type is known by the name it is declared with.
-- "A type set is the union of its plain names minus the union of its `-` names; an attribute means its types. `~` means all declared
-- types but these. `self` adds the pairs (s, s). A set may come out empty; such a rule covers nothing. The same for permissions."
--
--   Names            the names of a text, each kind in the order of its declarations ("numbers by declaration order")
--   types_meant n x   the types that the name x means
--   is_in ms x        x is in the set that the words ms mean
use Rattle.std.specs.Prelude.{ℕ, Bool, true, not, ◌&&◌, ◌||◌, List, [], ◌∷◌, eqb, if◌then◌else◌}
use Rattle.meaning.specs.Plain.{any, keep, each, joined, same_bytes}
use Rattle.meaning.specs.Statements.{Item, Statement, part, names_at, plain, minus, tilde, p_first, p_second, p_third}
use Rattle.meaning.specs.Names.{Decl, declared, first_text, d_type, d_attribute, d_role, d_user, d_bool}
use Rattle.meaning.specs.Permissions.{Name, Class, classes_in, item_name}
use Rattle.meaning.specs.Keywords.{k_star, k_self, k_type, k_typealias, k_typeattribute}

-- another name for a type; a name for types
pub record Alias : Type 0 where
  pub name : Name
  pub type : List ℕ

pub record Attribute : Type 0 where
  pub name : List ℕ
  pub types : List (List ℕ)

pub record Names : Type 0 where
  pub types : List Name
  pub aliases : List Alias
  pub attributes : List Attribute
  pub classes : List Class
  pub roles : List Name
  pub users : List Name
  pub bools : List Name

-- ---- the names of a text
unfoldable pub name_of : Decl → Name
name_of d = record { at = d.at; text = d.text }

unfoldable pub of_kind : ℕ → List Decl → List Name
of_kind k ds = each name_of (keep (λ d. eqb d.kind k) ds)

unfoldable pub aliases_by : Statement → List Alias
aliases_by st =
    if eqb st.form k_type || eqb st.form k_typealias
    then each (λ i. record { name = item_name i; type = first_text (part p_first st) }) (names_at p_third st)
    else []

-- the type that a type's name or an alias means
unfoldable pub type_named : List Alias → List ℕ → List ℕ
type_named [] x = x
type_named (a ∷ al) x = let r = type_named al x in if same_bytes x a.name.text then a.type else r

-- a type is put into an attribute by its own statement or by `typeattribute`
unfoldable pub put_into : List Alias → List ℕ → Statement → List (List ℕ)
put_into al a st =
    let t = type_named al (first_text (part p_first st)) ∷ [] in
    if (eqb st.form k_type || eqb st.form k_typeattribute) && any (λ i. same_bytes a i.text) (part p_second st) then t else []

unfoldable pub attribute_of : List Statement → List Alias → Name → Attribute
attribute_of ss al n = record { name = n.text; types = joined (put_into al n.text) ss }

unfoldable pub names_of : List Statement → Names
names_of ss =
    let ds = declared ss in
    let al = joined aliases_by ss in
    record {
      types = of_kind d_type ds;
      aliases = al;
      attributes = each (attribute_of ss al) (of_kind d_attribute ds);
      classes = classes_in ss;
      roles = of_kind d_role ds;
      users = of_kind d_user ds;
      bools = of_kind d_bool ds;
    }

-- ---- what a name means
unfoldable pub meant_by : List Attribute → List ℕ → List (List ℕ) → List (List ℕ)
meant_by [] x one = one
meant_by (a ∷ al) x one = let r = meant_by al x one in if same_bytes x a.name then a.types else r

-- "an attribute means its types"
unfoldable pub types_meant : Names → List ℕ → List (List ℕ)
types_meant n x = meant_by n.attributes x (type_named n.aliases x ∷ [])

-- a word of a list: `*` or not, what it stands behind, and the names that it means
pub record Meant : Type 0 where
  pub all : Bool
  pub sign : ℕ
  pub names : List (List ℕ)

unfoldable pub means : (List ℕ → List (List ℕ)) → Item → Meant
means f i = record { all = eqb i.kind k_star; sign = i.sign; names = f i.text }

-- x is one of the names that a word behind this sign means
unfoldable pub listed : ℕ → List Meant → List ℕ → Bool
listed s ms x = any (λ m. eqb m.sign s && any (same_bytes x) m.names) ms

-- ---- sets, asked only of declared types or of the permissions of a class: `*` is all; a list behind `~` all but its names; else the plain names less those behind `-`, wherever they stand
unfoldable pub is_in : List Meant → List ℕ → Bool
is_in ms x =
    if any (λ m. m.all) ms then true
    else if any (λ m. eqb m.sign tilde) ms then not (listed tilde ms x)
    else listed plain ms x && not (listed minus ms x)

-- the words of an X, `self` apart
unfoldable pub type_words : Names → List Item → List Meant
type_words n is = each (means (types_meant n)) (keep (λ i. not (eqb i.kind k_self)) is)

-- the words of a list of names that mean themselves
unfoldable pub name_words : List Item → List Meant
name_words is = each (means (λ x. x ∷ [])) is

unfoldable pub has_self : List Item → Bool
has_self is = any (λ i. eqb i.kind k_self) is

-- some word of the list reads so
unfoldable pub named_in : List Item → List ℕ → Bool
named_in is x = any (λ i. same_bytes x i.text) is
