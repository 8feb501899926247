-- The texts of a grammar by its shape: of two grammars one after the other (`◌·◌`), of one or the other (`or`), and the empty text.
-- And the step from a test of every rule to each (`each-rule`).
-- Assumes nothing.
use Prim.Native.Nat.{ℕ, zero, suc}
use mathlib.Core.Path.{◌≡◌, refl, sym, ◌∙◌, ap}
use mathlib.Core.Logic.{◌⊎◌, inl, inr}
use mathlib.Core.Bool.{Bool, true, false, not, false≢true}
use mathlib.Core.List.{List, [], ◌∷◌, ◌++◌, append_assoc}
use lib.ListN.{get_or}
use Rattle.meaning.specs.Plain.{every}
use Rattle.meaning.specs.Grammar.{G, none, eps, tok, seq, alt, star, nt, ◌·◌, In, in-eps, in_tok, in-seq, in_left, in_right, in-stop, in-more, in-rule, nullable, is_none, or, rule, rules}
use Rattle.meaning.proofs.Lists.{and_both, both-and, if-both, or_cases, either-right}

-- a test that every rule passes, and `none`, which stands for a rule that is not there: each rule passes it
pub each-rule : (f : G → Bool) → every f rules ≡ true → f none ≡ true → (i : ℕ) → f (rule i) ≡ true
unfolding rule
each-rule f e z i = at rules e i
  where
    at : (l : List G) → every f l ≡ true → (i : ℕ) → f (get_or l i none) ≡ true
    at [] e i = z
    at (x ∷ xs) e zero = (if-both (f x) (every f xs) e).0
    at (x ∷ xs) e (suc i) = at xs (if-both (f x) (every f xs) e).1 i

-- ---- the texts of two grammars, one after the other
pub some_is : {g : G} {ks : List ℕ} → In g ks → is_none g ≡ false
unfolding is_none
some_is (in-eps e) = refl
some_is (in_tok e) = refl
some_is (in-seq u v e p q) = refl
some_is (in_left p) = refl
some_is (in_right p) = refl
some_is (in-stop e) = refl
some_is (in-more u v e p q) = refl
some_is (in-rule p) = refl

pub no_none : {A : Type 0} {ks : List ℕ} → In none ks → A
unfolding is_none
no_none h = absurd (false≢true (sym (some_is h)))

pub after-in : (a y : G) (ks u v : List ℕ) → ks ≡ u ++ v → In a u → In y v → In (a · y) ks
after-in none y ks u v e p q = no_none p
after-in eps y ks u v e (in-eps z) q = rw (e, z) q
after-in (tok k) y ks u v e p q = in-seq u v e p q
after-in (seq a b) y ks u v e (in-seq s t f p r) q =
    after-in a (b · y) ks s (t ++ v) (rw (e, f) (append_assoc s t v)) p (after-in b y (t ++ v) t v refl r q)
after-in (alt a b) y ks u v e p q = in-seq u v e p q
after-in (star a) y ks u v e p q = in-seq u v e p q
after-in (nt i) y ks u v e p q = in-seq u v e p q

-- ks is a text of a and then one of y
pub record Split (a y : G) (ks : List ℕ) : Type 0 where
  pub front : List ℕ
  pub back : List ℕ
  pub joins : ks ≡ front ++ back
  pub of-front : In a front
  pub of-back : In y back

seq-out : {a y : G} {ks : List ℕ} → In (seq a y) ks → Split a y ks
seq-out (in-seq u v e p q) = record { front = u; back = v; joins = e; of-front = p; of-back = q }

pub after-out : (a y : G) (ks : List ℕ) → In (a · y) ks → Split a y ks
after-out none y ks h = no_none h
after-out eps y ks h = record { front = []; back = ks; joins = refl; of-front = in-eps refl; of-back = h }
after-out (tok k) y ks h = seq-out h
after-out (seq a b) y ks h =
    let s = after-out a (b · y) ks h in
    let t = after-out b y s.back s.of-back in
    record {
      front = s.front ++ t.front;
      back = t.back;
      joins = rw (append_assoc, ← t.joins) s.joins;
      of-front = in-seq s.front t.front refl s.of-front t.of-front;
      of-back = t.of-back;
    }
after-out (alt a b) y ks h = seq-out h
after-out (star a) y ks h = seq-out h
after-out (nt i) y ks h = seq-out h

-- ---- `or` has the texts of both
abbrev pub or_by : Bool → Bool → G → G → G
or_by m n a b = elim m as (λ _. G) [ true ↦ b | false ↦ elim n as (λ _. G) [ true ↦ a | false ↦ alt a b ] ]

pub or-out : (a b : G) (ks : List ℕ) → In (or a b) ks → In a ks ⊎ In b ks
unfolding or
or-out a b ks h = by (is_none a) (is_none b) h
  where
    by : (m n : Bool) → In (or_by m n a b) ks → In a ks ⊎ In b ks
    by true n p = inr p
    by false true p = inl p
    by false false (in_left p) = inl p
    by false false (in_right p) = inr p

pub or_left : (a b : G) (ks : List ℕ) → In a ks → In (or a b) ks
unfolding or
or_left a b ks h = by (is_none a) (is_none b) (some_is h)
  where
    by : (m n : Bool) → m ≡ false → In (or_by m n a b) ks
    by true n e = absurd (false≢true (sym e))
    by false true e = h
    by false false e = in_left h

pub or_right : (a b : G) (ks : List ℕ) → In b ks → In (or a b) ks
unfolding or
or_right a b ks h = by (is_none a) (is_none b) (some_is h)
  where
    by : (m n : Bool) → n ≡ false → In (or_by m n a b) ks
    by true n e = h
    by false true e = absurd (false≢true (sym e))
    by false false e = in_right h

-- ---- the empty text
pub empty-in : (g : G) → nullable g ≡ true → In g []
unfolding nullable
empty-in none e = absurd (false≢true e)
empty-in eps e = in-eps refl
empty-in (tok k) e = absurd (false≢true e)
empty-in (seq a b) e = let p = and_both (nullable a) (nullable b) e in in-seq [] [] refl (empty-in a p.0) (empty-in b p.1)
empty-in (alt a b) e = or_cases (nullable a) (nullable b) e (λ p. in_left (empty-in a p)) (λ p. in_right (empty-in b p))
empty-in (star a) e = in-stop refl
empty-in (nt i) e = absurd (false≢true e)

-- no rule has it
rule-full : (i : ℕ) → nullable (rule i) ≡ true → {A : Type 0} → A
unfolding rules nullable
rule-full i e = absurd (false≢true (sym (ap not e) ∙ each-rule (λ g. not (nullable g)) refl refl i))

pub cons-nil : {A : Type 0} (k : ℕ) (ks : List ℕ) → k ∷ ks ≡ [] → A
cons-nil k ks e = absurd (false≢true (cc))

front-nil : (u v : List ℕ) → [] ≡ u ++ v → u ≡ []
front-nil [] v e = refl
front-nil (x ∷ u) v e = cons-nil x (u ++ v) (sym e)

pub empty-out : {g : G} {ks : List ℕ} → In g ks → ks ≡ [] → nullable g ≡ true
unfolding nullable
empty-out (in-eps e) z = refl
empty-out (in_tok {k = k} e) z = cons-nil k [] (sym e ∙ z)
empty-out (in-seq {a = a} {b = b} u v e p q) z =
    let n : u ≡ [] = front-nil u v (sym z ∙ e) in
    let m : v ≡ [] = sym (ap (λ x. x ++ v) n) ∙ sym e ∙ z in
    both-and (nullable a) (nullable b) (empty-out p n) (empty-out q m)
empty-out (in_left {a = a} {b = b} p) z = rw (empty-out p z)
empty-out (in_right {a = a} {b = b} p) z = either-right (nullable a) (nullable b) (empty-out p z)
empty-out (in-stop e) z = refl
empty-out (in-more u v e p q) z = refl
empty-out (in-rule {i = i} p) z = rule-full i (empty-out p z)
