-- Refusal 8, "placed at the later statement: after expansion, two type rules of one kind agree on source, target and class with
-- different results; likewise role_transition; a second, different parent; a bounds cycle, placed at the statement that closes it.
-- Equal repeats are accepted."
use Rattle.std.specs.Prelude.{ℕ, zero, suc, Bool, true, false, not, ◌&&◌, List, [], ◌∷◌, eqb, length, if◌then◌else◌}
use Rattle.meaning.specs.Plain.{any, Spot, nowhere, at, earlier}
use Rattle.meaning.specs.Statements.{Statement}
use Rattle.meaning.specs.Sets.{Names}
use Rattle.meaning.specs.Policy.{meet, Parent, no_parent, parent, TypeRow, RoleTransition, Policy}
use Rattle.meaning.specs.Rules.{Bound, bounds_of, parent_in}

unfoldable pub types_clash : TypeRow → TypeRow → Bool
types_clash a b =
    eqb a.kind b.kind && eqb a.class b.class && meet a.source b.source && meet a.target b.target
    && not (eqb a.result b.result)

unfoldable pub roles_clash : RoleTransition → RoleTransition → Bool
roles_clash a b = meet a.roles b.roles && meet a.types b.types && meet a.classes b.classes && not (eqb a.result b.result)

-- the place of the first that clashes with one before it; those before stand in the list, the last first
unfoldable pub first_against : {A : Type 0} → (List A → A → Bool) → (A → ℕ) → List A → List A → Spot
first_against clash place before [] = nowhere
first_against clash place before (x ∷ xs) =
    let r = first_against clash place (x ∷ before) xs in
    if clash before x then at (place x) else r

unfoldable pub with_any : {A : Type 0} → (A → A → Bool) → List A → A → Bool
with_any clash before x = any (clash x) before

-- x, its parent, its parent's parent and so on, n times, come to c
unfoldable pub comes_to : List Bound → ℕ → ℕ → ℕ → Bool
comes_to bs c zero x = eqb x c
comes_to bs c (suc n) x =
    let up : Bool = elim (parent_in bs x) [ no_parent ↦ false | parent y ↦ comes_to bs c n y ] in
    if eqb x c then true else up

-- it gives its child another parent than one before it does
unfoldable pub other_parent : Bound → Parent → Bool
other_parent b no_parent = false
other_parent b (parent p) = not (eqb p b.parent)

-- n is the number of types
unfoldable pub bound_clash : ℕ → List Bound → Bound → Bool
bound_clash n before b =
    let cycle = comes_to before b.child n b.parent in
    if other_parent b (parent_in before b.child) then true else cycle

unfoldable pub contradiction : Names → List Statement → Policy → Spot
contradiction n ss p =
    earlier (first_against (with_any types_clash) (λ r. r.at) [] p.type_rows)
    (earlier (first_against (with_any roles_clash) (λ r. r.at) [] p.role_transitions)
    (first_against (bound_clash (length n.types)) (λ b. b.at) [] (bounds_of n ss)))
