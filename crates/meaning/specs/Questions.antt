-- The questions on names: switch and permission number.
use Rattle.std.specs.Prelude.{ℕ, Bool, List, [], ◌∷◌, ltb, length, if◌then◌else◌}
use Rattle.meaning.specs.Plain.{any, same_bytes}
use Rattle.meaning.specs.Permissions.{Class}
use Rattle.meaning.specs.Policy.{Switch, Policy}
use Rattle.meaning.specs.Rules.{number_of, class_number}
use Rattle.meaning.specs.Contexts.{class_at}
use Rattle.meaning.specs.Refusals.{accepted, no_class, no_boolean, no_permission}

-- ---- "Switch sets one boolean in the table, nothing else."
unfoldable pub set : List Switch → List ℕ → Bool → List Switch
set [] x v = []
set (b ∷ bs) x v = (if same_bytes x b.name.text then record { name = b.name; on = v } else b) ∷ set bs x v

unfoldable pub with_bools : Policy → List Switch → Policy
with_bools p bs =
    record {
      classes = p.classes;
      types = p.types;
      aliases = p.aliases;
      roles = p.roles;
      users = p.users;
      bools = bs;
      ifs = p.ifs;
      rows = p.rows;
      type_rows = p.type_rows;
      role_allows = p.role_allows;
      role_transitions = p.role_transitions;
      constrains = p.constrains;
    }

pub record Switched : Type 0 where
  pub number : ℕ
  pub policy : Policy

-- 16, "boolean unknown", changes nothing
unfoldable pub switch : Policy → List ℕ → Bool → Switched
switch p x v =
    if any (λ b. same_bytes x b.name.text) p.bools
    then record { number = accepted; policy = with_bools p (set p.bools x v) }
    else record { number = no_boolean; policy = p }

-- a run of switch calls, refused ones included: demand 3 of README.md speaks of it
pub record Call : Type 0 where
  pub bool : List ℕ
  pub on : Bool

unfoldable pub after_calls : Policy → List Call → Policy
after_calls p [] = p
after_calls p (c ∷ cs) = after_calls (switch p c.bool c.on).policy cs

-- ---- permission number: 13, 17
pub record Numbered : Type 0 where
  pub number : ℕ
  pub permission : ℕ

unfoldable pub permission_in : Class → List ℕ → Numbered
permission_in c x =
    let i = number_of c.perms x in
    if ltb i (length c.perms) then record { number = accepted; permission = i } else record { number = no_permission; permission = 0 }

unfoldable pub permission_number : Policy → List ℕ → List ℕ → Numbered
permission_number p c x =
    let k = class_number p.classes c in
    let r = permission_in (class_at p k) x in
    if ltb k (length p.classes) then r else record { number = no_class; permission = 0 }
