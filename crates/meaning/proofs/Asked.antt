-- What a question that is not refused is about: both contexts read, with a type of the policy, and the class is one of the policy.
-- By Judged, and the tests of `named` and of the three steps of `asked`, one after the other.
-- Assumes nothing.
use mathlib.Core.Path.{◌≡◌, refl, ap, subst}
use mathlib.Core.Bool.{Bool, true, false, false≢true}
use mathlib.Core.List.{List, [], ◌∷◌}
use Prim.Native.Nat.{ℕ, ◌<◌}
use borrow.Author.Tests.{ltb-true}
use lib.Dec.{ltb}
use lib.ListN.{length, get_or}
use Rattle.std.specs.Prelude.{if◌then◌else◌}
use Rattle.meaning.specs.Policy.{Policy}
use Rattle.meaning.specs.Rules.{class_number}
use Rattle.meaning.specs.Contexts.{Context, Reading, wrong, reads, judged, parts, named, context_of, nameless, type_number, class_at, Asked, refused_with, about, asked_class, asked_target, asked_source, asked}
use Rattle.meaning.specs.Refusals.{no_class}
use Rattle.meaning.proofs.Lists.{index_reads}
use Rattle.meaning.proofs.Judged.{read_only}

-- ---- contexts
judged-type : (p : Policy) (c d : Context) → judged p c ≡ reads d → (d.type ≡ c.type) × (d.type < length p.types)
judged-type p c d e = let h = read_only p c d e in rw (← h.2) (refl, h.0.type)

named-type : (p : Policy) (l : List (List ℕ)) (d : Context) → named p l ≡ reads d → (d.type ≡ type_number p (get_or l 2 [])) × (d.type < length p.types)
unfolding named
named-type p [] d e = absurd (false≢true (cc))
named-type p (u ∷ []) d e = absurd (false≢true (cc))
named-type p (u ∷ r ∷ []) d e = absurd (false≢true (cc))
named-type p (u ∷ r ∷ t ∷ []) d e = judged-type p _ d e
named-type p (u ∷ r ∷ t ∷ x ∷ xs) d e = absurd (false≢true (cc))

-- A context that reads has the type of the policy that its third part names.
pub reads_type : (p : Policy) (x : List ℕ) (d : Context) → context_of p x ≡ reads d
    → (d.type ≡ type_number p (get_or (parts x) 2 [])) × (d.type < length p.types)
unfolding context_of
reads_type p x d e = named-type p (parts x) d e

-- ---- the question
pub record About (p : Policy) (x y k : List ℕ) (a b : Context) (m : ℕ) : Type 0 where
  pub source : context_of p x ≡ reads a
  pub target : context_of p y ≡ reads b
  pub class : class_number p.classes k ≡ m
  pub below : m < length p.classes

if-about : (q : Bool) (x : Asked) (n : ℕ) (a b : Context) (m : ℕ) → (if q then x else refused_with n) ≡ about a b m → (q ≡ true) × (x ≡ about a b m)
if-about true x n a b m e = (refl, e)
if-about false x n a b m e = absurd (false≢true (cc))

about-class : (p : Policy) (c d : Context) (k : List ℕ) (a b : Context) (m : ℕ) → asked_class p c d k ≡ about a b m
    → (c ≡ a) × (d ≡ b) × (class_number p.classes k ≡ m) × (m < length p.classes)
unfolding asked_class
about-class p c d k a b m e =
    let j = class_number p.classes k in
    let h = if-about (ltb j (length p.classes)) (about c d j) no_class a b m e in
    let q = h.1 in
    let z : j ≡ m = cc q in
    (cc q, cc q, z, subst (λ (x : ℕ). x < length p.classes) z (ltb-true _ _ h.0))

about-target : (p : Policy) (c : Context) (k : List ℕ) (r : Reading) (a b : Context) (m : ℕ) → asked_target p c r k ≡ about a b m
    → (c ≡ a) × (r ≡ reads b) × (class_number p.classes k ≡ m) × (m < length p.classes)
unfolding asked_target
about-target p c k (wrong w) a b m e = absurd (false≢true (cc))
about-target p c k (reads d) a b m e = let h = about-class p c d k a b m e in (h.0, ap reads h.1, h.2, h.3)

about-source : (p : Policy) (y k : List ℕ) (r : Reading) (a b : Context) (m : ℕ) → asked_source p r y k ≡ about a b m
    → (r ≡ reads a) × (context_of p y ≡ reads b) × (class_number p.classes k ≡ m) × (m < length p.classes)
unfolding asked_source
about-source p y k (wrong w) a b m e = absurd (false≢true (cc))
about-source p y k (reads c) a b m e = let h = about-target p c k (context_of p y) a b m e in (ap reads h.0, h.1, h.2, h.3)

-- The class found for a name has that name.
pub class-reads : (p : Policy) (k : List ℕ) (m : ℕ) → class_number p.classes k ≡ m → m < length p.classes → (class_at p m).name.text ≡ k
unfolding class_number class_at
class-reads p k m q h = index_reads (λ c. c.name.text) k p.classes (record { name = nameless; perms = [] }) m q h

-- A question that is not refused is about contexts that read and a class of the policy.
pub about-of : (p : Policy) (x y k : List ℕ) (a b : Context) (m : ℕ) → asked p x y k ≡ about a b m → About p x y k a b m
unfolding asked
about-of p x y k a b m e =
    let h = about-source p y k (context_of p x) a b m e in
    record { source = h.0; target = h.1; class = h.2; below = h.3 }
