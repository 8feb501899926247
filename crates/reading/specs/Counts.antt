-- What the contracts of the counting say.
--
--   total_number c    the number under which the definitions count it
--   past_total l c    the total c is past its size: the second of the four tests of `exceeds`
--   Room n c          no total is above n, and what is counted in one statement is within its largest size
use Rattle.std.specs.Prelude.{ℕ, ◌≤◌, Bool, ◌&&◌, List, ltb, get_or}
use Rattle.meaning.specs.Sizes.{Counts, limits, c_types, c_attributes, c_aliases, c_classes, c_commons, c_roles, c_users, c_bools, c_av_rows, c_type_rows, c_role_rules, c_ifs, c_constrains, c_none, expression_words}
use Rattle.reading.specs.declared.sizes.Total.{Total}
use Rattle.reading.specs.declared.sizes.Total.TheVariants.{Types, Attributes, Aliases, Classes, Commons, Roles, Users, Bools, AvRows, TypeRows, RoleRules, Ifs, Constrains, Nothing}

abbrev pub total_number : Total → ℕ
total_number Types = c_types
total_number Attributes = c_attributes
total_number Aliases = c_aliases
total_number Classes = c_classes
total_number Commons = c_commons
total_number Roles = c_roles
total_number Users = c_users
total_number Bools = c_bools
total_number AvRows = c_av_rows
total_number TypeRows = c_type_rows
total_number RoleRules = c_role_rules
total_number Ifs = c_ifs
total_number Constrains = c_constrains
total_number Nothing = c_none

abbrev pub past_total : List ℕ → ℕ → Bool
past_total l c = ltb c c_none && ltb (get_or limits c 0) (get_or l c 0)

pub record Room (n : ℕ) (c : Counts) : Type 0 where
  pub totals : (i : ℕ) → get_or c.totals i 0 ≤ n
  pub own : c.own ≤ expression_words
