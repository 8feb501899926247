-- The starred cases of "The small station policy", computed from their texts: one list, one statement. And the errors that are
-- easily made, each with a text on which it shows: another list.
-- Assumes nothing.
use Prim.Native.Nat.{ℕ}
use Prim.Native.String.{String}
use mathlib.Core.Bool.{Bool, true, false, ◌&&◌}
use mathlib.Core.List.{List, [], ◌∷◌, ◌++◌}
use lib.Dec.{T, eqb}
use lib.ListN.{replicate}
use Rattle.meaning.specs.Plain.{every, same_bytes}
use Rattle.meaning.specs.Keywords.{bytes}
use Rattle.meaning.specs.Policy.{Policy}
use Rattle.meaning.specs.Access.{Answer, access}
use Rattle.meaning.specs.Computed.{Text, compute, create, output_of}
use Rattle.meaning.specs.Questions.{switch}
use Rattle.meaning.specs.Load.{Loaded, load, clash_names}
use Rattle.meaning.proofs.Opened.{opened}

-- ---- the text: `added` goes behind the if, and the constrain is there or not
abbrev station : String
station = "class profile\nclass process\nclass profile { read write retire }\nclass process { transition fork }\nattribute bench;\ntype lamp_t, bench;\ntype proof_t, bench;\ntype target_t;\nrole op_r;\nrole op_r types { lamp_t proof_t };\nbool service false;\nallow bench target_t : profile read;\nallow lamp_t self : process fork;\nif (service) { allow proof_t target_t : profile write; }\n"

abbrev constrain : String
constrain = "constrain profile write (r1 == r2 or t1 == lamp_t);\n"

text_with : String → String → List ℕ
text_with added last = bytes station ++ (bytes added ++ (bytes "user op_u roles op_r;\n" ++ bytes last))

-- P, L and T
abbrev proof : String
proof = "op_u:op_r:proof_t"

abbrev lamp : String
lamp = "op_u:op_r:lamp_t"

abbrev target : String
target = "op_u:object_r:target_t"

-- ---- a case: what is asked, and what is answered
pub data Case : Type 0 where
  -- a text, service on or not, source, target, class: number, masks
  gives : List ℕ → Bool → String → String → String → ℕ → ℕ → ℕ → ℕ → Case
  -- a text: number, place
  loads : List ℕ → ℕ → ℕ → Case
  -- a text refused with 9: source, target, class, permission
  breaks : List ℕ → String → String → String → String → Case
  -- create on the whole policy: source, target, class, bytes of the output, all 0: number, what the output holds then
  creates : String → String → String → ℕ → ℕ → List ℕ → Case

pub cases : List Case
cases =
    -- 1 Access P, T, profile: masks 1, 0, 7.
    gives (text_with "" constrain) false proof target "profile" 0 1 0 7
    -- 2 Service on: still 1. Without the constrain: 3.
    ∷ gives (text_with "" constrain) true proof target "profile" 0 1 0 7
    ∷ gives (text_with "" "") true proof target "profile" 0 3 0 7
    -- 3 Without the constrain, service on, `typebounds lamp_t proof_t;` added: 1.
    ∷ gives (text_with "typebounds lamp_t proof_t;\n" "") true proof target "profile" 0 1 0 7
    -- 4 L, L, process: 2.
    ∷ gives (text_with "" constrain) false lamp lamp "process" 0 2 0 3
    -- 5 9, showing proof_t, target_t, profile, write, with service false and the constrain there.
    ∷ breaks (text_with "neverallow { bench -lamp_t } target_t : profile write;\n" constrain) "proof_t" "target_t" "profile" "write"
    -- 6 `{ bench -proof_t }` instead: accepted.
    ∷ loads (text_with "neverallow { bench -proof_t } target_t : profile write;\n" constrain) 0 0
    -- 7 accepted; with `*` for `~lamp_t`: 9, lamp_t twice.
    ∷ loads (text_with "neverallow ~lamp_t self : process fork;\n" constrain) 0 0
    ∷ breaks (text_with "neverallow * self : process fork;\n" constrain) "lamp_t" "lamp_t" "process" "fork"
    -- 8 L to P gives 1; L to `op_u:object_r:proof_t` gives 0.
    ∷ gives (text_with "allow lamp_t proof_t : process transition;\n" constrain) false lamp proof "process" 0 1 0 3
    ∷ gives (text_with "allow lamp_t proof_t : process transition;\n" constrain) false lamp "op_u:object_r:proof_t" "process" 0 0 0 3
    -- 9 Create L, T, profile: T, 22 bytes. A 21-byte output: 15. Class process: L.
    ∷ creates lamp target "profile" 22 0 (bytes target)
    ∷ creates lamp target "profile" 24 0 (bytes target ++ (0 ∷ 0 ∷ []))
    ∷ creates lamp target "profile" 21 15 (replicate 21 0)
    ∷ creates lamp target "process" 16 0 (bytes lamp)
    -- 10 Target `op_u:op_r:target_t`: 12.
    ∷ gives (text_with "" constrain) false proof "op_u:op_r:target_t" "profile" 12 0 0 0
    -- 11 Empty text: 3 at 0.
    ∷ loads [] 3 0
    ∷ []

-- ---- errors easily made
pub easy : List Case
easy =
    -- testing neverallow with default booleans only: the allow stands in the else branch of an if that is off, then on
    breaks (text_with "if (service) { } else { allow lamp_t target_t : profile retire; }\nneverallow * * : profile retire;\n" "")
    "lamp_t" "target_t" "profile" "retire"
    ∷ breaks (text_with "if (!service) { } else { allow lamp_t target_t : profile retire; }\nneverallow * * : profile retire;\n" "")
    "lamp_t" "target_t" "profile" "retire"
    -- letting a constrain excuse a clash: this one is never true
    ∷ breaks (text_with "neverallow bench * : profile read;\n" "constrain profile read (u1 == u2 and u1 != u2);\n") "lamp_t" "target_t" "profile" "read"
    -- taking `*` with `self` as all pairs
    ∷ loads (text_with "neverallow * self : profile read;\n" "") 0 0
    -- applying `-` in list order
    ∷ loads (text_with "neverallow { -proof_t bench } target_t : profile write;\n" "") 0 0
    -- ending a comment at a CR
    ∷ loads (bytes "# a comment\r}\n" ++ text_with "" "") 0 0
    -- taking source for target in a constrain
    ∷ gives (text_with "" "constrain profile read (t1 == proof_t and t2 == target_t and r2 == object_r and r1 == op_r);\n") false
    proof target "profile" 0 1 0 7
    ∷ gives (text_with "" "constrain profile read (t2 == proof_t or t1 == target_t or r1 == object_r or r2 == op_r);\n") false
    proof target "profile" 0 0 0 7
    -- a bit of auditdeny past the class's
    ∷ gives (text_with "dontaudit { proof_t target_t } target_t : profile ~read;\nauditallow bench self : profile *;\n" "") false
    proof target "profile" 0 1 0 1
    -- a permission of one class taken for another's: 5 where a class named has it not, 4 where the name is of another kind
    ∷ loads (text_with "allow bench target_t : { profile process } read;\n" "") 5 409
    ∷ loads (text_with "allow op_r target_t : profile read;\n" "") 4 372
    -- leaving out a section that must be there: 1, 3, 4, 5
    ∷ loads (bytes "class k { p }\ntype a;\nuser u roles object_r;\n") 3 8
    ∷ loads (bytes "class k\ntype a;\nuser u roles object_r;\n") 3 8
    ∷ loads (bytes "class k\nclass k { p }\nuser u roles object_r;\n") 3 22
    ∷ loads (bytes "class k\nclass k { p }\ntype a;\n") 3 30
    ∷ loads (bytes "class k\nclass k { p }\ntype a;\nuser u roles object_r;\n") 0 0
    ∷ []

-- ---- the test
same_lists : List (List ℕ) → List (List ℕ) → Bool
same_lists [] [] = true
same_lists [] (y ∷ ys) = false
same_lists (x ∷ xs) [] = false
same_lists (x ∷ xs) (y ∷ ys) = same_bytes x y && same_lists xs ys

is_answer : Answer → ℕ → ℕ → ℕ → ℕ → Bool
is_answer a n x y z = eqb a.number n && eqb a.allowed x && eqb a.auditallow y && eqb a.auditdeny z && eqb a.permissive 0

is_output : Text → List ℕ → ℕ → List ℕ → Bool
is_output t out n x = eqb t.number n && same_bytes (output_of t out) x

is_load : Loaded → ℕ → ℕ → Bool
is_load l n p = eqb l.number n && eqb l.place p

is_clash : Loaded → List (List ℕ) → Bool
is_clash l ns = eqb l.number 9 && eqb l.place l.clash.never && same_lists (clash_names l.policy l.clash) ns

-- the policy that a text loads, with the boolean `service` set
with_service : List ℕ → Bool → Policy
with_service s on = (switch (load s).policy (bytes "service") on).policy

pub holds_of : Case → Bool
holds_of (gives s on x y c n a b d) = is_load (load s) 0 0 && is_answer (access (with_service s on) (bytes x) (bytes y) (bytes c)) n a b d
holds_of (loads s n p) = is_load (load s) n p
holds_of (breaks s w x y z) = is_clash (load s) (bytes w ∷ bytes x ∷ bytes y ∷ bytes z ∷ [])
holds_of (creates x y c room n out) =
    is_output (compute (load (text_with "" constrain)).policy create (bytes x) (bytes y) (bytes c) room) (replicate room 0) n out

pub every-case : T (every holds_of cases)
unfolding opened text_with cases is_answer is_output is_load same_lists is_clash with_service holds_of
every-case = tt

pub every-easy : T (every holds_of easy)
unfolding opened text_with easy is_answer is_output is_load same_lists is_clash with_service holds_of
every-easy = tt
