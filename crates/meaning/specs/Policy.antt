-- What a text says, with numbers for names ("numbers by declaration order") and sets for lists. Everything that a question asks is
-- in it; how it stands in the lent words is not here but with the table.
use Rattle.std.specs.Prelude.{ℕ, Bool, true, false, ◌&&◌, List, [], ◌∷◌, get_or, if◌then◌else◌}
use Rattle.meaning.specs.Statements.{Branch}
use Rattle.meaning.specs.Permissions.{Name, Class}
use Rattle.meaning.specs.Expressions.{Code}

-- a set of numbers: for 0, 1, .. whether it is in
abbrev pub Set : Type 0
Set = List Bool

abbrev pub holds : Set → ℕ → Bool
holds x i = get_or x i false

-- some number is in both
unfoldable pub meet : Set → Set → Bool
meet [] bs = false
meet (a ∷ xs) [] = false
meet (a ∷ xs) (b ∷ bs) = let r = meet xs bs in if a && b then true else r

pub data Parent : Type 0 where
  no_parent : Parent
  parent : ℕ → Parent

pub record TypeEntry : Type 0 where
  pub name : Name
  pub parent : Parent
  pub permissive : Bool

pub record AliasEntry : Type 0 where
  pub name : Name
  pub type : ℕ

pub record Role : Type 0 where
  pub name : Name
  pub types : Set

pub record User : Type 0 where
  pub name : Name
  pub roles : Set

pub record Switch : Type 0 where
  pub name : Name
  pub on : Bool

-- an AV rule, its sets expanded: `classes` in the order of their words, `perms` by class number, empty where the class is not named
pub record Rule : Type 0 where
  pub kind : ℕ
  pub at : ℕ
  pub branch : Branch
  pub source : Set
  pub target : Set
  pub self : Bool
  pub classes : List ℕ
  pub perms : List Set

-- "AV rows .. (one per class word of each AV rule)"
pub record Row : Type 0 where
  pub kind : ℕ
  pub at : ℕ
  pub branch : Branch
  pub source : Set
  pub target : Set
  pub self : Bool
  pub class : ℕ
  pub perms : Set

-- "type rows .. (likewise)"
pub record TypeRow : Type 0 where
  pub kind : ℕ
  pub at : ℕ
  pub source : Set
  pub target : Set
  pub class : ℕ
  pub result : ℕ

pub record RoleAllow : Type 0 where
  pub from : Set
  pub to : Set

pub record RoleTransition : Type 0 where
  pub at : ℕ
  pub roles : Set
  pub types : Set
  pub classes : Set
  pub result : ℕ

-- a comparison of a constraint: `who` is the kind of u1 .. t2; it is held against the other side's own (`pair`) or against a set, by
-- `!=` (`neg`) or by `==`
pub record Test : Type 0 where
  pub who : ℕ
  pub neg : Bool
  pub pair : Bool
  pub set : Set

-- `perms` by class number, as in a rule
pub record Constrain : Type 0 where
  pub perms : List Set
  pub test : List (Code Test)

-- the ifs are their conditions, over the numbers of booleans; role 0 is `object_r`
pub record Policy : Type 0 where
  pub classes : List Class
  pub types : List TypeEntry
  pub aliases : List AliasEntry
  pub roles : List Role
  pub users : List User
  pub bools : List Switch
  pub ifs : List (List (Code ℕ))
  pub rows : List Row
  pub type_rows : List TypeRow
  pub role_allows : List RoleAllow
  pub role_transitions : List RoleTransition
  pub constrains : List Constrain

abbrev pub no_policy : Policy
no_policy =
    record {
      classes = [];
      types = [];
      aliases = [];
      roles = [];
      users = [];
      bools = [];
      ifs = [];
      rows = [];
      type_rows = [];
      role_allows = [];
      role_transitions = [];
      constrains = [];
    }
