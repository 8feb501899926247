-- In a text that is not refused with 4 every name that must be declared is (`found`), so its number is below the count of the names
-- of its kind: of roles, users and booleans (`named-below`), and of classes (`class-below`); of types, which aliases name too, it is
-- in Aliased. A name's number is the place of the first that reads so, and one does.
-- Assumes nothing.
use Prim.Native.Nat.{ℕ, ◌<◌}
use native.Mathlib.Omega.{arith}
use mathlib.Core.Path.{◌≡◌, refl, sym}
use mathlib.Core.Bool.{Bool, true, false, false≢true}
use mathlib.Core.List.{List, [], ◌∷◌}
use lib.Dec.{eqb}
use lib.ListN.{length, get_or}
use Rattle.std.specs.Prelude.{if◌then◌else◌}
use Rattle.meaning.specs.Plain.{any, index_from, same_bytes, nowhere, at, first_at}
use Rattle.meaning.specs.Keywords.{k_name}
use Rattle.meaning.specs.Statements.{Item, Statement}
use Rattle.meaning.specs.Names.{Decl, declared, uses_at, uses, serves, is_served, unknown, undeclared, d_class}
use Rattle.meaning.specs.Permissions.{Class, class_of, classes_in}
use Rattle.meaning.specs.Sets.{name_of, of_kind}
use Rattle.meaning.specs.Rules.{number_of, class_number}
use Rattle.meaning.proofs.Lists.{bool_cases, and_both, same_bytes_lem, bytes_same, Among, among-keep, among-each, among-any, any-among, index-found, index_reads, first-nowhere}

-- ---- a declaration of one of the kinds u that reads x
pub record Found (ss : List Statement) (u : List ℕ) (x : List ℕ) : Type 0 where
  pub decl : Decl
  pub among : Among decl (declared ss)
  pub kind : any (eqb decl.kind) u ≡ true
  pub reads : decl.text ≡ x

known-served : (b : Bool) (p : ℕ) → (if b then nowhere else at p) ≡ nowhere → b ≡ true
known-served true p e = refl
known-served false p e = absurd (false≢true (cc))

-- Every name that must be of some kind is declared so.
pub found : (ss : List Statement) → undeclared ss ≡ nowhere → {st : Statement} {i : Item} → Among st ss → Among i st.items
    → eqb i.kind k_name ≡ true → (f : ℕ) → st.form ≡ f → (k : ℕ) (u : List ℕ) → uses_at f i.pos ≡ k ∷ u → Found ss (k ∷ u) i.text
unfolding undeclared unknown uses is_served serves
found ss n {st = st} {i = i} m l e f h k u q =
    let ds = declared ss in
    let a = known-served (is_served ds (uses st i) i.text) i.at
    (first-nowhere (unknown ds st) (first-nowhere (λ st. first_at (unknown ds st) st.items) n m) l) in
    let r = any-among (serves (k ∷ u) i.text) ds (rw (e, h, q, uses) at a) in
    let b = and_both (any (eqb r.0.kind) (k ∷ u)) (same_bytes i.text r.0.text) r.2 in
    record { decl = r.0; among = r.1; kind = b.0; reads = sym (same_bytes_lem i.text r.0.text b.1) }

-- ---- the number of a name that is found
index_below : {A : Type 0} (p : A → Bool) {x : A} {l : List A} → Among x l → p x ≡ true → index_from p 0 l < length l
index_below p {x = x} {l = l} m q = let r = index-found p l x 0 (among-any p m q) in omega (arith, r.2)

one-kind : {ss : List Statement} {k : ℕ} {x : List ℕ} (r : Found ss (k ∷ []) x) → eqb r.decl.kind k ≡ true
one-kind {k = k} r = bool_cases (eqb r.decl.kind k) (λ e. e) (λ e. absurd (false≢true (rw e at r.kind)))

reads_same : {x y : List ℕ} → y ≡ x → same_bytes x y ≡ true
reads_same {x = x} e = rw e (bytes_same x)

pub named-below : (ss : List Statement) (k : ℕ) (x : List ℕ) → Found ss (k ∷ []) x
    → number_of (of_kind k (declared ss)) x < length (of_kind k (declared ss))
unfolding number_of of_kind name_of
named-below ss k x r =
    index_below (λ n. same_bytes x n.text) (among-each name_of (among-keep (λ d. eqb d.kind k) r.among (one-kind r))) (reads_same r.reads)

among-classes : (ss : List Statement) (x : List ℕ) (r : Found ss (d_class ∷ []) x) → Among (class_of ss r.decl) (classes_in ss)
unfolding classes_in
among-classes ss x r = among-each (class_of ss) (among-keep (λ d. eqb d.kind d_class) r.among (one-kind r))

pub class-below : (ss : List Statement) (x : List ℕ) → Found ss (d_class ∷ []) x → class_number (classes_in ss) x < length (classes_in ss)
unfolding class_number class_of
class-below ss x r = index_below (λ c. same_bytes x c.name.text) (among-classes ss x r) (reads_same r.reads)

-- the class of that number reads so
pub class-reads : (ss : List Statement) (x : List ℕ) (d : Class) → Found ss (d_class ∷ []) x
    → x ≡ (get_or (classes_in ss) (class_number (classes_in ss) x) d).name.text
unfolding class_number
class-reads ss x d r = sym (index_reads (λ c. c.name.text) x (classes_in ss) d _ refl (class-below ss x r))
