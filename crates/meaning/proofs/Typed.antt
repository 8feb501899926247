-- The type of a context is the one that its third part names: of a text that has passed 6, the number found for a name in the policy is
-- that of the type which the name means by the text (Sets.type_named), as a type's own name or as an alias.
-- A name that a type has is no alias's, for they share a name space (Apart); an alias has the number of its type.
-- Assumes nothing.
use mathlib.Core.Path.{◌≡◌, refl, sym, ap, ◌∙◌}
use mathlib.Core.Bool.{Bool, true, false, ◌&&◌, ◌||◌, false≢true}
use mathlib.Core.List.{List, [], ◌∷◌}
use mathlib.Core.Logic.{◌⊎◌, inl, inr}
use Prim.Native.Nat.{ℕ, ◌<◌}
use native.Mathlib.Omega.{arith}
use borrow.Author.Tests.{eqb-true}
use lib.Dec.{eqb, ltb}
use lib.ListN.{length, get_or}
use Rattle.std.specs.Prelude.{if◌then◌else◌}
use Rattle.meaning.specs.Plain.{within, keep, each, joined, index_from, same_bytes, nowhere}
use Rattle.meaning.specs.Statements.{Item, Statement, part, names_at, p_first, p_third}
use Rattle.meaning.specs.Names.{Decl, declares_at, declares, decl_of, declared_by, declared, object_r, space, first_text, declared_twice, d_type, d_alias, d_bool}
use Rattle.meaning.specs.Permissions.{Name, item_name}
use Rattle.meaning.specs.Sets.{Alias, Names, name_of, of_kind, aliases_by, type_named, names_of}
use Rattle.meaning.specs.Policy.{no_parent, TypeEntry}
use Rattle.meaning.specs.Rules.{number_of, alias_entry, types_in, policy_of}
use Rattle.meaning.specs.Contexts.{nameless, aliased, type_number}
use Rattle.meaning.specs.Keywords.{k_name, k_type, k_typealias}
use Rattle.meaning.proofs.Lists.{Among, here, there, if-among, bool_cases, and_both, or_cases, same_bytes_lem, bytes_same, keep-among, among-keep, each-among, among-each, joined-among, among-joined, at-among, get_or-each, index_reads}
use Rattle.meaning.proofs.Accepted.{statements_in, names_in, policy_in}
use Rattle.meaning.proofs.Listed.{types-named, types-counted}
use Rattle.meaning.proofs.Apart.{same-declaration}
use Rattle.meaning.proofs.Rows.{type_name}

-- ---- a type's name is no alias's
-- the item of an alias declares one
declares-alias : (st : Statement) (i : Item) → (eqb st.form k_type || eqb st.form k_typealias) ≡ true → i.pos ≡ p_third → i.kind ≡ k_name
    → declares st i ≡ d_alias
unfolding declares declares_at
declares-alias st i f p k =
    or_cases (eqb st.form k_type) (eqb st.form k_typealias) f
    (λ e. rw (k, p, eqb-true st.form k_type e)) (λ e. rw (k, p, eqb-true st.form k_typealias e))

alias-declared : (ss : List Statement) {a : Alias} → Among a (joined aliases_by ss)
    → (d : Decl) × Among d (joined declared_by ss) × (d.kind ≡ d_alias) × (d.text ≡ a.name.text)
unfolding aliases_by names_at item_name declared_by decl_of
alias-declared ss m =
    let j = joined-among aliases_by ss m in
    let st = j.0 in
    let f : Item → Alias = λ i. record { name = item_name i; type = first_text (part p_first st) } in
    let q : Item → Bool = λ i. eqb i.pos p_third && eqb i.kind k_name in
    let b = if-among (eqb st.form k_type || eqb st.form k_typealias) (each f (keep q st.items)) j.2 in
    let k = each-among f (keep q st.items) b.1 in
    let i = k.0 in
    let h = keep-among q st.items k.1 in
    let w = and_both (eqb i.pos p_third) (eqb i.kind k_name) h.1 in
    let d = declares-alias st i b.0 (eqb-true i.pos p_third w.0) (eqb-true i.kind k_name w.1) in (
      decl_of st i,
      among-joined declared_by j.1 (among-each (decl_of st) (among-keep (λ i. within d_type d_bool (declares st i)) h.0 (rw d))),
      d,
      sym (ap (λ a. a.name.text) k.2),
    )

type-declared : (ss : List Statement) {x : Name} → Among x (of_kind d_type (declared ss))
    → (d : Decl) × Among d (joined declared_by ss) × (d.kind ≡ d_type) × (d.text ≡ x.text)
unfolding of_kind name_of declared object_r
type-declared ss m =
    let k = each-among name_of (keep (λ d. eqb d.kind d_type) (joined declared_by ss)) m in
    let h = keep-among (λ d. eqb d.kind d_type) (joined declared_by ss) k.1 in
    (k.0, h.0, eqb-true k.0.kind d_type h.1, sym (ap (λ x. x.text) k.2))

module _ (s : List ℕ) (once : declared_twice (statements_in s) ≡ nowhere) where
  no-alias : (a : Alias) (x : Name) → Among a (names_in s).aliases → Among x (names_in s).types → a.name.text ≡ x.text → ⊥
  unfolding names_of space
  no-alias a x m k e =
      let ss = statements_in s in
      let c = alias-declared ss m in
      let d = type-declared ss k in
      let p : Decl → Bool = λ d. eqb (space d.kind) d_type in
      let q = same-declaration s once p (λ x y a b. eqb-true (space x.kind) d_type a ∙ sym (eqb-true (space y.kind) d_type b))
      c.1 d.1 (rw c.2) (rw d.2) (c.3 ∙ e ∙ sym d.3) in
      let z : d_alias ≡ d_type = sym c.2 ∙ ap (λ d. d.kind) q ∙ d.2 in
      omega arith

-- ---- the number found for a name
-- of the name x: it is an alias, or none is of that name
pub alias-cases : {P : Type 0} (al : List Alias) (x : List ℕ) → ((a : Alias) → Among a al → a.name.text ≡ x → type_named al x ≡ a.type → P)
    → (type_named al x ≡ x → ((a : Alias) → Among a al → a.name.text ≡ x → ⊥) → P) → P
unfolding type_named
alias-cases [] x f g = g refl (λ a m e. elim m [ ])
alias-cases (a ∷ al) x f g =
    bool_cases (same_bytes x a.name.text) (λ e. f a (here refl) (sym (same_bytes_lem _ _ e)) (rw e))
    (λ e. alias-cases al x (λ b m r q. f b (there m) r (rw e q)) (λ q n. g (rw e q) (λ b m. other b m e n)))
  where
    other : (b : Alias) → Among b (a ∷ al) → same_bytes x a.name.text ≡ false → ((b : Alias) → Among b al → b.name.text ≡ x → ⊥)
        → b.name.text ≡ x → ⊥
    other b (here h) e n q = false≢true (sym e ∙ rw (sym (ap (λ b. b.name.text) h) ∙ q) (bytes_same x))
    other b (there m) e n q = n b m q

alias-number : (n : Names) (al : List Alias) (x : List ℕ) (none : ℕ)
    → (aliased (each (alias_entry n) al) x none ≡ none) ⊎ (aliased (each (alias_entry n) al) x none ≡ number_of n.types (type_named al x))
unfolding aliased alias_entry type_named
alias-number n [] x none = inl refl
alias-number n (a ∷ al) x none = bool_cases (same_bytes x a.name.text) (λ e. rw e (inr refl)) (λ e. rw e (alias-number n al x none))

either_number : {P : Type 0} (b : Bool) (i k j : ℕ) → (if b then i else k) ≡ j → (i ≡ j → P) → (k ≡ j → P) → P
either_number true i k j e f g = f e
either_number false i k j e f g = g e

-- The type found for a name is the one that the name means.
pub type-means : (s : List ℕ) → declared_twice (statements_in s) ≡ nowhere → (x : List ℕ) (j : ℕ) → j ≡ type_number (policy_in s) x → j < length (names_in s).types
    → type_name (names_in s) j ≡ type_named (names_in s).aliases x
unfolding type_number policy_of types_in number_of
type-means s once x j e h =
    let n = names_in s in
    let p = policy_in s in
    let none : TypeEntry = record { name = nameless; parent = no_parent; permissive = false } in
    let l : length p.types ≡ length n.types = types-counted (statements_in s) in
    either_number (ltb (index_from (λ t. same_bytes x t.name.text) 0 p.types) (length p.types)) _ _ j (sym e)
    (λ q.
    let a : (get_or p.types j none).name.text ≡ x = index_reads (λ t. t.name.text) x p.types none j q (omega arith) in
    let b : type_name n j ≡ x = ap (λ y. (get_or y j nameless).text) (sym (types-named (statements_in s)))
    ∙ ap (λ y. y.text) (get_or-each (λ t. t.name) p.types j none nameless (omega arith)) ∙ a in
    b ∙ alias-cases n.aliases x (λ c m w q. absurd (no-alias s once c _ m (at-among n.types j nameless h) (w ∙ sym b))) (λ q no. sym q))
    (λ q. elim (alias-number n n.aliases x (length p.types)) [
      | inl w ↦ absurd (omega arith)
      | inr w ↦ index_reads (λ y. y.text) (type_named n.aliases x) n.types nameless j (sym w ∙ q) h
    ])
