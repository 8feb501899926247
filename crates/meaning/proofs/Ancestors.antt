-- Of an accepted text: parents run in no cycle and a type has at most 127 ancestors, so that the question asked of the parent comes to
-- an end by itself; and what is kept of it is within 01's sizes.
-- From Parents, with the bounds in their range (Aliased) and the sizes (Counts).
-- Assumes nothing.
use mathlib.Core.Path.{◌≡◌, sym, subst}
use mathlib.Core.Bool.{◌&&◌}
use mathlib.Core.List.{List}
use Prim.Native.Nat.{ℕ, ◌<◌, ◌≤◌}
use native.Mathlib.Omega.{arith}
use lib.ListN.{length}
use Rattle.meaning.specs.Sizes.{limits}
use Rattle.meaning.specs.Policy.{parent, Policy}
use Rattle.meaning.specs.Contexts.{Context}
use Rattle.meaning.specs.Access.{own_allows, with_type, allows}
use Rattle.meaning.specs.Refusals.{accepted}
use Rattle.meaning.specs.Load.{load}
use Rattle.meaning.proofs.Accepted.{statements_in, policy_in, NoEarlier, stands}
use Rattle.meaning.proofs.Counts.{Within, within}
use Rattle.meaning.proofs.Aliased.{bounds-in-range}
use Rattle.meaning.proofs.Parents.{Grounded, parent_of, parents-end, parent-asked}

-- An accepted text is within every size.
pub accepted-within : (s : List ℕ) → (load s).number ≡ accepted → Within (statements_in s)
accepted-within s e = within s (stands s e).earlier.reads

few-types : (s : List ℕ) → NoEarlier s → length (policy_in s).types ≤ 128
unfolding limits
few-types s c = (within s c.reads).types

-- the type x of p has d ancestors, and d is at most 127
pub Ended : Policy → ℕ → Type 0
Ended p x = (d : ℕ) × Grounded (parent_of p) x d × (d ≤ 127)

-- Every type of an accepted text has at most 127 ancestors.
pub ancestors : (s : List ℕ) → (load s).number ≡ accepted → (x : ℕ) → x < length (load s).policy.types → Ended (load s).policy x
unfolding Ended
ancestors s e x h =
    let t = stands s e in
    let c = t.earlier in
    let k : x < length (policy_in s).types = subst (λ p. x < length p.types) t.policy h in
    let g = parents-end s c (λ b m. (bounds-in-range s c m).1) x k in
    let few = few-types s c in
    let r : (d : ℕ) × Grounded (parent_of (policy_in s)) x d × (d ≤ 127) = (g.0, g.1, omega (arith, g.2)) in
    subst (λ p. (d : ℕ) × Grounded (parent_of p) x d × (d ≤ 127)) (sym t.policy) r

-- p asks a parent as 01 says: with the parent in the source's place, and allows what both allow
pub AsksParent : Policy → Type 0
AsksParent p =
    (a t : Context) (c i y : ℕ) → a.type < length p.types → parent_of p a.type ≡ parent y
    → allows p (length p.types) a t c i ≡ (own_allows p a t c i && allows p (length p.types) (with_type a y) t c i)

-- The policy of an accepted text asks parents so: the count of those left to ask is never what ends the question.
pub asks-parent : (s : List ℕ) → (load s).number ≡ accepted → AsksParent (load s).policy
unfolding AsksParent
asks-parent s e =
    let t = stands s e in
    subst (λ p. (a b : Context) (c i y : ℕ) → a.type < length p.types → parent_of p a.type ≡ parent y
    → allows p (length p.types) a b c i ≡ (own_allows p a b c i && allows p (length p.types) (with_type a y) b c i)) (sym t.policy)
    (parent-asked s t.earlier (λ b m. (bounds-in-range s t.earlier m).1))
