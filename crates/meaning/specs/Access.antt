-- "Access answers three masks and the permissive flag of the source type."
-- Each bit is said by itself; a mask is the number that its bits make.
use Rattle.std.specs.Prelude.{ℕ, zero, suc, ◌+◌, ◌*◌, ◌/◌, ◌%◌, ◌^◌, Bool, true, false, not, ◌&&◌, ◌||◌, List, [], ◌∷◌, eqb, get_or, length, if◌then◌else◌}
use Rattle.meaning.specs.Plain.{xor, any, every, each, up_to, same_bytes}
use Rattle.meaning.specs.Statements.{Branch, always, when_true, when_false}
use Rattle.meaning.specs.Permissions.{Class}
use Rattle.meaning.specs.Expressions.{value}
use Rattle.meaning.specs.Policy.{holds, no_parent, parent, Row, Test, Constrain, Policy}
use Rattle.meaning.specs.Contexts.{Context, Asked, refused_with, about, asked, nameless, type_at, class_at}
use Rattle.meaning.specs.Keywords.{bytes, k_allow, k_auditallow, k_dontaudit, k_u1, k_u2, k_r1, k_r2, k_t1}
use Rattle.meaning.specs.Refusals.{accepted}

-- ---- "In force: outside ifs, or in the branch its booleans choose."
unfoldable pub is_on : Policy → ℕ → Bool
is_on p i = (get_or p.bools i (record { name = nameless; on = false })).on

unfoldable pub if_holds : Policy → ℕ → Bool
if_holds p i = value (is_on p) (get_or p.ifs i [])

unfoldable pub in_force : Policy → Branch → Bool
in_force p always = true
in_force p (when_true i) = if_holds p i
in_force p (when_false i) = not (if_holds p i)

-- ---- rows
unfoldable pub row_covers : Row → ℕ → ℕ → ℕ → ℕ → Bool
row_covers r s t c i =
    eqb r.class c && holds r.source s && (holds r.target t || (r.self && eqb s t)) && holds r.perms i

-- some row of the kind that is in force covers it
unfoldable pub covered : Policy → ℕ → ℕ → ℕ → ℕ → ℕ → Bool
covered p k s t c i = any (λ r. eqb r.kind k && row_covers r s t c i && in_force p r.branch) p.rows

-- ---- constrains: "1 source, 2 target"
unfoldable pub whose : Context → Context → ℕ → ℕ
whose s t w =
    if eqb w k_u1 then s.user
    else if eqb w k_u2 then t.user
    else if eqb w k_r1 then s.role
    else if eqb w k_r2 then t.role
    else if eqb w k_t1 then s.type
    else t.type

-- u1 is held against u2, r1 against r2, t1 against t2: their kinds are neighbours
unfoldable pub passes : Context → Context → Test → Bool
passes s t e =
    xor e.neg (if e.pair then eqb (whose s t e.who) (whose s t (e.who + 1)) else holds e.set (whose s t e.who))

unfoldable pub is_named_by : Constrain → ℕ → ℕ → Bool
is_named_by k c i = holds (get_or k.perms c []) i

-- "every constrain naming its class and permission is true"
unfoldable pub constrains_hold : Policy → Context → Context → ℕ → ℕ → Bool
constrains_hold p s t c i = every (λ k. not (is_named_by k c i) || value (passes s t) k.test) p.constrains

-- ---- "for `transition` or `dyntransition` of class `process` between different roles, a role allow covers them"
unfoldable pub is_process : Class → Bool
is_process c = same_bytes c.name.text (bytes "process")

unfoldable pub is_transition : Class → ℕ → Bool
is_transition c i =
    let x = (get_or c.perms i nameless).text in
    is_process c && (same_bytes x (bytes "transition") || same_bytes x (bytes "dyntransition"))

unfoldable pub role_allowed : Policy → ℕ → ℕ → Bool
role_allowed p r r' = any (λ a. holds a.from r && holds a.to r') p.role_allows

unfoldable pub roles_fit : Policy → Context → Context → ℕ → ℕ → Bool
roles_fit p s t c i = not (is_transition (class_at p c) i) || eqb s.role t.role || role_allowed p s.role t.role

-- ---- "A bit is allowed when an allow in force covers it; and every constrain naming its class and permission is true (1 source,
-- 2 target); and, for `transition` or `dyntransition` of class `process` between different roles, a role allow covers them; and, if the
-- source type has a parent, .."
-- what the source's own type is allowed, its parent not asked
unfoldable pub own_allows : Policy → Context → Context → ℕ → ℕ → Bool
own_allows p s t c i = covered p k_allow s.type t.type c i && constrains_hold p s t c i && roles_fit p s t c i

unfoldable pub with_type : Context → ℕ → Context
with_type s x = record { user = s.user; role = s.role; type = x }

-- "and, if the source type has a parent, the question asked again with the parent in the source's place allows it (target unchanged,
-- validity not judged again)"; at most `left` parents are asked, which is all of them (proofs/Parents.antt)
unfoldable pub allows : Policy → ℕ → Context → Context → ℕ → ℕ → Bool
allows p zero s t c i = own_allows p s t c i
allows p (suc left) s t c i =
    let up : Bool = elim (type_at p s.type).parent [ no_parent ↦ true | parent x ↦ allows p left (with_type s x) t c i ] in
    if own_allows p s t c i then up else false

-- ---- the answer
-- the number whose bits these are, the first the lowest
unfoldable pub number : List Bool → ℕ
number [] = 0
number (b ∷ bs) = number bs * 2 + (if b then 1 else 0)

-- bit i of a mask: what the promises speak of
abbrev pub bit_of : ℕ → ℕ → Bool
bit_of x i = eqb (x / 2 ^ i % 2) 1

-- the mask of those permissions of a class with n of them of which f holds
unfoldable pub mask : ℕ → (ℕ → Bool) → ℕ
mask n f = number (each f (up_to n))

pub record Answer : Type 0 where
  pub number : ℕ
  pub allowed : ℕ
  pub auditallow : ℕ
  pub auditdeny : ℕ
  pub permissive : ℕ

-- "A refused question returns zeros"
unfoldable pub refused_answer : ℕ → Answer
refused_answer k = record { number = k; allowed = 0; auditallow = 0; auditdeny = 0; permissive = 0 }

-- "auditallow: bits covered by one in force. auditdeny: the class's bits not covered by a dontaudit in force."
unfoldable pub answered : Policy → Asked → Answer
answered p (refused_with k) = refused_answer k
answered p (about s t c) =
    let n = length (class_at p c).perms in
    record {
      number = accepted;
      allowed = mask n (allows p (length p.types) s t c);
      auditallow = mask n (covered p k_auditallow s.type t.type c);
      auditdeny = mask n (λ i. not (covered p k_dontaudit s.type t.type c i));
      permissive = if (type_at p s.type).permissive then 1 else 0;
    }

unfoldable pub access : Policy → List ℕ → List ℕ → List ℕ → Answer
access p s t c = answered p (asked p s t c)
