-- In a text with no earlier refusal a type's name or an alias has a number below the count of the types (`type-below`): an alias is
-- that of a type that is declared (`alias-typed`). So the bounds of a text are between types (`bounds-in-range`).
-- The first word of a part where a name must stand is a name (`first-name`): what there is to say of it then is said of that name.
-- Assumes nothing.
use Prim.Native.Nat.{ℕ, ◌<◌}
use mathlib.Core.Path.{◌≡◌, refl, ◌∙◌}
use mathlib.Core.Bool.{Bool, true, false, ◌||◌, false≢true}
use mathlib.Core.List.{List, [], ◌∷◌}
use borrow.Author.Tests.{eqb-true}
use lib.Dec.{eqb}
use lib.ListN.{length}
use Rattle.meaning.specs.Plain.{joined}
use Rattle.meaning.specs.Keywords.{k_name, k_type, k_typealias, k_typebounds}
use Rattle.meaning.specs.Statements.{Item, Statement, part, names_at, of_form, p_first, p_second, p_third}
use Rattle.meaning.specs.Names.{first_text, uses_at, a_type, d_type, d_alias}
use Rattle.meaning.specs.Sets.{Alias, names_of, aliases_by}
use Rattle.meaning.specs.Rules.{type_number, Bound, bounds_by, bounds_of}
use Rattle.meaning.proofs.Lists.{bool_cases, or_cases, if-among, Among, here, keep-among, among-keep, each-among, joined-among}
use Rattle.meaning.proofs.Typed.{alias-cases}
use Rattle.meaning.proofs.Accepted.{NoEarlier, statements_in, names_in}
use Rattle.meaning.proofs.Seats.{due, paid, names_only}
use Rattle.meaning.proofs.Forms.{plain_form}
use Rattle.meaning.proofs.Shapes.{Shape, shape}
use Rattle.meaning.proofs.Served.{Found, found, named-below}
use Rattle.meaning.proofs.Declared.{alias-among, type-found}

-- ---- the first word of a part
first_of : (l : List Item) {i : Item} → Among i l → (j : Item) × Among j l × (first_text l ≡ j.text)
unfolding first_text
first_of [] m = elim m [ ]
first_of (x ∷ l) m = (x, here refl, refl)

-- a word of a statement of the form f, a name where one must stand, which reads as the first word of l
pub record FirstName (f : ℕ) (st : Statement) (l : List Item) : Type 0 where
  pub item : Item
  pub among : Among item st.items
  pub place : due f item.pos ≡ true
  pub name : eqb item.kind k_name ≡ true
  pub reads : first_text l ≡ item.text

middle : (a b c : Bool) → b ≡ true → (a || b || c) ≡ true
middle true b c e = refl
middle false b c e = rw e

module _ (s : List ℕ) (c : NoEarlier s) {st : Statement} (m : Among st (statements_in s)) (f : ℕ) (e : st.form ≡ f) (plain : plain_form f ≡ true) where
  shape-as : Shape f p_first st.items
  shape-as = rw e at (shape s c m (rw e plain))

  -- where only names say something, every word is a name
  pub all-names : (i : Item) → Among i st.items → names_only f i.pos ≡ true → eqb i.kind k_name ≡ true
  all-names = shape-as.named

  -- where a name must stand in l and only there, the first word of l is one
  pub first-name : paid f p_first ≡ false → (l : List Item) → ((i : Item) → Among i st.items → due f i.pos ≡ true → Among i l)
      → ((i : Item) → Among i l → Among i st.items × (due f i.pos ≡ true)) → FirstName f st l
  first-name n l h g =
      let o = shape-as.owed n in
      let j = first_of l (h o.0 o.1 o.2) in
      let k = g j.0 j.1 in
      let a = all-names j.0 k.0 (middle (eqb f k_typebounds) (due f j.0.pos) _ k.1) in
      record { item = j.0; among = k.0; place = k.1; name = a; reads = j.2 }

  -- the same of the words at a position
  pub first-at : paid f p_first ≡ false → (p : ℕ) → ((q : ℕ) → due f q ≡ true → eqb q p ≡ true) → due f p ≡ true → FirstName f st (part p st)
  unfolding part
  first-at n p h d =
      first-name n (part p st) (λ i k d. among-keep (λ i. eqb i.pos p) k (h i.pos d))
      (λ i k. let r = keep-among (λ i. eqb i.pos p) st.items k in (r.0, rw (eqb-true i.pos p r.1) d))

left-of : (a : Bool) → (a || false || false) ≡ true → a ≡ true
left-of true e = refl
left-of false e = absurd (false≢true e)

-- ---- aliases
module _ (s : List ℕ) (c : NoEarlier s) where
  abbrev ss : List Statement
  ss = statements_in s

  -- the type of a `type` or a `typealias` is declared
  type-of : {st : Statement} → Among st ss → (eqb st.form k_type || eqb st.form k_typealias) ≡ true
      → Found ss (d_type ∷ []) (first_text (part p_first st))
  unfolding uses_at
  type-of {st = st} m e =
      or_cases (eqb st.form k_type) (eqb st.form k_typealias) e
      (λ t.
      let r = first-at s c m k_type (eqb-true st.form k_type t) refl refl p_first (λ q d. left-of _ d) refl in
      rw r.reads (type-found ss m r.among t (left-of _ r.place) r.name))
      (λ t.
      let q = eqb-true st.form k_typealias t in
      let r = first-at s c m k_typealias q refl refl p_first (λ q d. left-of _ d) refl in
      rw r.reads (found ss c.known m r.among r.name k_typealias q d_type [] (rw (left-of (eqb r.item.pos p_first) r.place, uses_at))))

  -- An alias is that of a type that is declared.
  pub alias-typed : {a : Alias} → Among a (joined aliases_by ss) → Found ss (d_type ∷ []) a.type
  unfolding aliases_by
  alias-typed m =
      let (st, mst, ma) = joined-among aliases_by ss m in
      let (e, mi) = if-among (eqb st.form k_type || eqb st.form k_typealias) _ ma in
      let r = each-among _ (names_at p_third st) mi in
      rw r.2 (type-of mst e)

  -- A type's name or an alias has the number of a type.
  pub type-below : (x : List ℕ) → Found ss a_type x → type_number (names_in s) x < length (names_in s).types
  unfolding type_number names_of
  type-below x r =
      alias-cases (joined aliases_by ss) x (λ a m q e. rw e (named-below ss d_type a.type (alias-typed m)))
      (λ e no. rw e (bool_cases (eqb r.decl.kind d_type)
      (λ t. named-below ss d_type x (record { decl = r.decl; among = r.among; kind = rw t; reads = r.reads }))
      (λ t.
      let a = alias-among ss r.among (bool_cases (eqb r.decl.kind d_alias) (λ q. q) (λ q. absurd (false≢true (rw (t, q) at r.kind)))) in
      absurd (no a.0 a.1 (a.2 ∙ r.reads)))))

  -- ---- bounds
  -- A bound's child and parent are types.
  pub bounds-in-range : {b : Bound} → Among b (bounds_of (names_in s) ss)
      → (b.child < length (names_in s).types) × (b.parent < length (names_in s).types)
  unfolding bounds_of bounds_by of_form part uses_at
  bounds-in-range m =
      let (st, mk, mb) = joined-among (bounds_by (names_in s)) (of_form k_typebounds ss) m in
      let k = keep-among (λ st. eqb st.form k_typebounds) ss mk in
      let q = eqb-true st.form k_typebounds k.1 in
      let (i, mi, e) = each-among _ (part p_second st) mb in
      let l = (keep-among (λ i. eqb i.pos p_second) st.items mi).0 in
      let r = first-at s c k.0 k_typebounds q refl refl p_first (λ q d. left-of _ d) refl in
      let a = all-names s c k.0 k_typebounds q refl i l refl in
      let child = type-below i.text (found ss c.known k.0 l a k_typebounds q d_type (d_alias ∷ []) refl) in
      let parent = type-below r.item.text (found ss c.known k.0 r.among r.name k_typebounds q d_type (d_alias ∷ []) refl) in
      rw e (child, rw r.reads parent)
