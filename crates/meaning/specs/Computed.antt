-- Computed contexts: create, relabel and member, which are one definition told the question; and owner.
use Rattle.std.specs.Prelude.{ℕ, suc, ◌-◌, Bool, true, false, ◌&&◌, ◌||◌, List, [], ◌∷◌, ◌++◌, eqb, leb, length, drop, if◌then◌else◌}
use Rattle.meaning.specs.Plain.{same_bytes}
use Rattle.meaning.specs.Permissions.{Class}
use Rattle.meaning.specs.Policy.{holds, TypeRow, RoleTransition, Policy}
use Rattle.meaning.specs.Contexts.{Context, Reading, wrong, reads, context_of, Asked, refused_with, about, asked, valid, printed, class_at, colon}
use Rattle.meaning.specs.Access.{is_process}
use Rattle.meaning.specs.Keywords.{bytes, k_type_transition, k_type_change, k_type_member}
use Rattle.meaning.specs.Refusals.{accepted, bad_source, bad_target, bad_result, short_output}

pub data Question : Type 0 where
  create : Question
  relabel : Question
  member : Question

-- the type rule that serves a question
unfoldable pub rule_for : Question → ℕ
rule_for create = k_type_transition
rule_for relabel = k_type_change
rule_for member = k_type_member

-- ---- "User: source's for create and relabel, target's for member."
unfoldable pub user_for : Question → Context → Context → ℕ
user_for create s t = s.user
user_for relabel s t = s.user
user_for member s t = t.user

-- ---- "Role: source's if the class is `process` or its name ends in `socket`, else `object_r`. Type: source's for those classes, else
-- target's"
unfoldable pub ends_in : List ℕ → List ℕ → Bool
ends_in e x = same_bytes e (drop (length x - length e) x)

unfoldable pub keeps_source : Class → Bool
keeps_source c = is_process c || ends_in (bytes "socket") c.name.text

-- "then a type_transition, type_change or type_member that covers source type, target type and class replaces it"
unfoldable pub type_by : List TypeRow → ℕ → ℕ → ℕ → ℕ → ℕ → ℕ
type_by [] k s t c x = x
type_by (r ∷ rs) k s t c x =
    let y = type_by rs k s t c x in
    if eqb r.kind k && eqb r.class c && holds r.source s && holds r.target t then r.result else y

-- "a role_transition of source role, target type and class .. replaces the role"
unfoldable pub role_by : List RoleTransition → ℕ → ℕ → ℕ → ℕ → ℕ
role_by [] s t c x = x
role_by (r ∷ rs) s t c x =
    let y = role_by rs s t c x in
    if holds r.roles s && holds r.types t && holds r.classes c then r.result else y

-- "For create"
unfoldable pub role_for : Question → Policy → Context → Context → ℕ → ℕ → ℕ
role_for create p s t c x = role_by p.role_transitions s.role t.type c x
role_for relabel p s t c x = x
role_for member p s t c x = x

unfoldable pub computed : Policy → Question → Context → Context → ℕ → Context
computed p q s t c =
    let from_source = keeps_source (class_at p c) in
    record {
      user = user_for q s t;
      role = role_for q p s t c (if from_source then s.role else 0);
      type = type_by p.type_rows (rule_for q) s.type t.type c (if from_source then s.type else t.type);
    }

-- ---- the answer: a number, and the context's text, which goes to the output
pub record Text : Type 0 where
  pub number : ℕ
  pub text : List ℕ

unfoldable pub refused_text : ℕ → Text
refused_text k = record { number = k; text = [] }

-- 15 where the output has less room than the text has bytes
unfoldable pub fitted : List ℕ → ℕ → Text
fitted x room = if leb (length x) room then record { number = accepted; text = x } else refused_text short_output

-- 14, then 15
unfoldable pub shown : Policy → Question → ℕ → Asked → Text
shown p q room (refused_with k) = refused_text k
shown p q room (about s t c) =
    let x = computed p q s t c in
    if valid p x then fitted (printed p x) room else refused_text bad_result

unfoldable pub compute : Policy → Question → List ℕ → List ℕ → List ℕ → ℕ → Text
compute p q s t c room = shown p q room (asked p s t c)

-- "The text goes to byte 0 of the output; other bytes stay." A refused question "changes no buffer".
unfoldable pub output_of : Text → List ℕ → List ℕ
output_of x out = x.text ++ drop (length x.text) out

-- ---- "Owner, told whether for member, shows the user part as a part of whichever context it was taken from."
-- which context the part is of, where it begins in it and how many bytes it has
pub record Owner : Type 0 where
  pub number : ℕ
  pub of_target : Bool
  pub from : ℕ
  pub size : ℕ

-- "owner: the empty part at the start of the source context"
unfoldable pub refused_owner : ℕ → Owner
refused_owner k = record { number = k; of_target = false; from = 0; size = 0 }

-- the bytes before the first colon
unfoldable pub user_size : List ℕ → ℕ
user_size [] = 0
user_size (b ∷ s) = elim (eqb b colon) [ true ↦ 0 | false ↦ suc (user_size s) ]

unfoldable pub owner_in : Bool → List ℕ → List ℕ → Reading → Reading → Owner
owner_in m s t (wrong y) z = refused_owner bad_source
owner_in m s t (reads x) (wrong y) = refused_owner bad_target
owner_in m s t (reads x) (reads y) = record { number = accepted; of_target = m; from = 0; size = user_size (if m then t else s) }

unfoldable pub owner : Policy → List ℕ → List ℕ → Bool → Owner
owner p s t m = owner_in m s t (context_of p s) (context_of p t)
