-- In a text that has passed 6 two declarations of one name space that read the same are one; so no two types read the same, and no two
-- classes. Their places rise along the list (Places): of two, one stands before the other, and 6 would have been given at the later.
-- Assumes nothing.
use mathlib.Core.Path.{◌≡◌, refl, sym, ap, ◌∙◌}
use mathlib.Core.Bool.{Bool, true, false, not, ◌&&◌, false≢true}
use mathlib.Core.List.{List, [], ◌∷◌}
use Prim.Native.Nat.{ℕ, zero, suc, ◌<◌, ◌≤◌}
use native.Mathlib.Nat.{not-suc-le-zero, le_of_suc-le-suc}
use native.Mathlib.Omega.{arith}
use borrow.Author.Tests.{eqb-true, eq-eqb, ne_eqb, lt-ltb, ltb-true, ltb-false, leb-true}
use lib.Dec.{eqb, ltb, leb}
use lib.ListN.{length, get_or}
use Rattle.std.specs.Prelude.{if◌then◌else◌}
use Rattle.meaning.specs.Plain.{any, keep, each, joined, within, nowhere, first_at}
use Rattle.meaning.specs.Statements.{Item, Statement}
use Rattle.meaning.specs.Names.{Decl, declares, decl_of, declared_by, declared, object_r, repeats, space, perm_decls, twice_word, second_perms, twice_in, declared_twice, d_none, d_type, d_role, d_class, d_bool, d_perm}
use Rattle.meaning.specs.Permissions.{class_of, classes_in}
use Rattle.meaning.specs.Sets.{name_of, of_kind, names_of}
use Rattle.meaning.proofs.Lists.{Among, there, bool_cases, and_both, bytes_same, keep-among, among-keep, each-among, joined-among, among-any, at-among, among-at, length-each, get_or-each, if-nowhere, first-nowhere}
use Rattle.meaning.proofs.Sorted.{Sorted, sorted-keep}
use Rattle.meaning.proofs.Places.{declarations-sorted}
use Rattle.meaning.proofs.Accepted.{statements_in, names_in}

-- ---- in order, what stands at a smaller number is smaller
sorted-at : {A : Type 0} (R : A → A → Type 0) (l : List A) (d : A) → Sorted R l → (i j : ℕ) → i < j → j < length l → R (get_or l i d) (get_or l j d)
sorted-at R [] d r i j h k = absurd (not-suc-le-zero k)
sorted-at R (x ∷ l) d r i zero h k = absurd (not-suc-le-zero h)
sorted-at R (x ∷ l) d r zero (suc j) h k = r.0 (get_or l j d) (at-among l j d (le_of_suc-le-suc k))
sorted-at R (x ∷ l) d r (suc i) (suc j) h k = sorted-at R l d r.1 i j (le_of_suc-le-suc h) (le_of_suc-le-suc k)

-- ---- 6 at the later of two
-- a declaration is made by an item of a statement
declared-by : (ss : List Statement) {y : Decl} → Among y (joined declared_by ss)
    → (st : Statement) × (i : Item) × Among st ss × Among i st.items × (y ≡ decl_of st i) × (within d_type d_bool (declares st i) ≡ true)
unfolding declared_by
declared-by ss m =
    let j = joined-among declared_by ss m in
    let st = j.0 in
    let p : Item → Bool = λ i. within d_type d_bool (declares st i) in
    let k = each-among (decl_of st) (keep p st.items) j.2 in
    let h = keep-among p st.items k.1 in
    (st, k.0, j.1, h.0, k.2, h.1)

is_declared : (k : ℕ) → within d_type d_bool k ≡ true → (eqb k d_none ≡ false) × (eqb k d_perm ≡ false)
is_declared k e =
    let h = and_both (leb d_type k) (leb k d_bool) e in
    let l : 1 ≤ k = leb-true 1 k h.0 in
    let u : k ≤ 8 = leb-true k 8 h.1 in
    (ne_eqb k 0 (λ q. omega arith), ne_eqb k 9 (λ q. omega arith))

module _ (ss : List Statement) (once : declared_twice ss ≡ nowhere) where
  item-differs : (st : Statement) (i : Item) (x : Decl) → Among st ss → Among i st.items → Among x (declared ss)
      → within d_type d_bool (declares st i) ≡ true → repeats (decl_of st i) x ≡ true → ⊥
  unfolding declared_twice twice_in twice_word decl_of
  item-differs st i x m k n d h =
      let ds = declared ss in
      let ps = perm_decls ss st in
      let a = first-nowhere (twice_in ss ds) once m in
      let b = (if-nowhere (second_perms ss st) st.at (first_at (twice_word ds ps st) st.items) a).1 in
      let c = first-nowhere (twice_word ds ps st) b k in
      let y : Bool = not (eqb (declares st i) d_none) && any (repeats (decl_of st i)) (if eqb (declares st i) d_perm then ps else ds) in
      let r = is_declared (declares st i) d in
      let t : y ≡ true = rw (r.0, r.1) (among-any (repeats (decl_of st i)) n h) in
      false≢true (sym (if-nowhere y i.at nowhere c).0 ∙ t)

  later-differs : (x y : Decl) → Among x (joined declared_by ss) → Among y (joined declared_by ss) → x.at < y.at
      → space x.kind ≡ space y.kind → x.text ≡ y.text → ⊥
  unfolding repeats declared
  later-differs x y m k l e t =
      let b = declared-by ss k in
      let h : repeats y x ≡ true = rw (lt-ltb x.at y.at l, eq-eqb (space x.kind) (space y.kind) e, t) (bytes_same y.text) in
      item-differs b.0 b.1 x b.2 b.3 (there m) b.5 (rw b.4 at h)

-- ---- the declarations of one name space
-- two elements that read the same stand at one number
abbrev pub Apart : {A : Type 0} → (A → List ℕ) → List A → Type 0
Apart text l = (d : _) (i j : ℕ) → i < length l → j < length l → text (get_or l i d) ≡ text (get_or l j d) → i ≡ j

each-apart : {A B : Type 0} (a : A → List ℕ) (b : B → List ℕ) (f : A → B) → ((x : A) → b (f x) ≡ a x) → (z : A) (l : List A) → Apart a l → Apart b (each f l)
each-apart a b f h z l p d i j hi hj e =
    let ki : i < length l = omega (arith, length-each f l) in
    let kj : j < length l = omega (arith, length-each f l) in
    p z i j ki kj (sym (ap b (get_or-each f l i z d ki) ∙ h (get_or l i z)) ∙ e ∙ (ap b (get_or-each f l j z d kj) ∙ h (get_or l j z)))

module _ (s : List ℕ) (once : declared_twice (statements_in s) ≡ nowhere) (p : Decl → Bool)
    (one : (x y : Decl) → p x ≡ true → p y ≡ true → space x.kind ≡ space y.kind) where
  two-differ : (d : Decl) (i j : ℕ) → i < j → j < length (keep p (joined declared_by (statements_in s)))
      → (get_or (keep p (joined declared_by (statements_in s))) i d).text ≡ (get_or (keep p (joined declared_by (statements_in s))) j d).text → ⊥
  two-differ d i j h l e =
      let ss = statements_in s in
      let ds = joined declared_by ss in
      let x = get_or (keep p ds) i d in
      let y = get_or (keep p ds) j d in
      let R : Decl → Decl → Type 0 = λ a b. a.at < b.at in
      let mx = keep-among p ds (at-among (keep p ds) i d (omega arith)) in
      let my = keep-among p ds (at-among (keep p ds) j d l) in
      let lt = sorted-at R (keep p ds) d (sorted-keep R p ds (declarations-sorted s)) i j h l in
      later-differs ss once x y mx.0 my.0 lt (one x y mx.1 my.1) e

  apart : Apart (λ d. d.text) (keep p (joined declared_by (statements_in s)))
  apart d i j h l e =
      bool_cases (ltb i j) (λ q. absurd (two-differ d i j (ltb-true i j q) l e)) (λ q.
      bool_cases (ltb j i) (λ r. absurd (two-differ d j i (ltb-true j i r) h (sym e))) (λ r.
      let a : j ≤ i = ltb-false i j q in
      let b : i ≤ j = ltb-false j i r in
      omega arith))

  -- Two declarations of one name space that read the same are one.
  pub same-declaration : {x y : Decl} → Among x (joined declared_by (statements_in s)) → Among y (joined declared_by (statements_in s))
      → p x ≡ true → p y ≡ true → x.text ≡ y.text → x ≡ y
  same-declaration {x = x} {y = y} m k a b e =
      let ds = joined declared_by (statements_in s) in
      let i = among-at object_r (among-keep p m a) in
      let j = among-at object_r (among-keep p k b) in
      let q : i.0 ≡ j.0 = apart object_r i.0 j.0 i.1 j.1 (ap (λ d. d.text) i.2 ∙ e ∙ sym (ap (λ d. d.text) j.2)) in
      sym i.2 ∙ ap (λ (n : ℕ). get_or (keep p ds) n object_r) q ∙ j.2

-- `object_r` is none of the declarations of kind k
of-kind : (s : List ℕ) → declared_twice (statements_in s) ≡ nowhere → (k : ℕ) → eqb d_role k ≡ false
    → Apart (λ d. d.text) (keep (λ d. eqb d.kind k) (declared (statements_in s)))
unfolding declared object_r
of-kind s once k e =
    rw e (apart s once (λ d. eqb d.kind k) (λ x y a b. ap space (eqb-true x.kind k a ∙ sym (eqb-true y.kind k b))))

-- No two types of a text that has passed 6 read the same.
pub types-apart : (s : List ℕ) → declared_twice (statements_in s) ≡ nowhere → Apart (λ x. x.text) (names_in s).types
unfolding names_of of_kind name_of
types-apart s once =
    let ds = keep (λ d. eqb d.kind d_type) (declared (statements_in s)) in
    each-apart (λ d. d.text) (λ x. x.text) name_of (λ d. refl) object_r ds (of-kind s once d_type refl)

-- No two classes do.
pub classes-apart : (s : List ℕ) → declared_twice (statements_in s) ≡ nowhere → Apart (λ c. c.name.text) (names_in s).classes
unfolding names_of classes_in class_of
classes-apart s once =
    let ss = statements_in s in
    let ds = keep (λ d. eqb d.kind d_class) (declared ss) in
    each-apart (λ d. d.text) (λ c. c.name.text) (class_of ss) (λ d. refl) object_r ds (of-kind s once d_class refl)
