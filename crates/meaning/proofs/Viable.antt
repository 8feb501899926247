-- Something is left of the grammar behind some words just where some text of it begins with them: `begins` and `stops`.
-- What follows the words in a text is a text of what is left behind them (Left), so where a text begins so something is left.
-- The other way, what is left has a text: each rule has one (`samples`), and no word leaves a piece that has none (`clean`).
-- Assumes nothing.
use Prim.Native.Nat.{ℕ, zero, suc}
use mathlib.Core.Path.{◌≡◌, refl, sym, ◌∙◌}
use mathlib.Core.Bool.{Bool, true, false, ◌&&◌, ◌||◌, false≢true}
use mathlib.Core.List.{List, [], ◌∷◌, ◌++◌, append-nil}
use lib.Dec.{eqb}
use lib.ListN.{get_or}
use Rattle.meaning.specs.Grammar.{G, none, eps, tok, seq, alt, star, nt, ◌·◌, policy, In, in-eps, in_tok, in-seq, in_left, in-stop, in-rule, nullable, is_none, or, left_by, left_in, left, rule, rules}
use Rattle.meaning.specs.Keywords.{spelt, marks, keywords, k_name, k_open, k_close, k_semi, k_colon, k_same, k_class, k_common, k_attribute, k_allow, k_user, k_constrain, k_roles, k_u1, k_u2}
use Rattle.meaning.proofs.Lists.{and_both, both-and, or_cases, either-right}
use Rattle.meaning.proofs.Texts.{each-rule, some_is, or_by, empty-in, empty-out}
use Rattle.meaning.proofs.Left.{seq_by, tok_by, left-sound, left-complete}

-- what is left of g behind words of these kinds
unfoldable pub lefts : G → List ℕ → G
lefts g [] = g
lefts g (k ∷ ks) = lefts (left g k) ks

-- ---- the texts of what is left are just what follows the words
lefts-sound : (g : G) (ks v : List ℕ) → In (lefts g ks) v → In g (ks ++ v)
unfolding lefts
lefts-sound g [] v h = h
lefts-sound g (k ∷ ks) v h = left-sound g k (ks ++ v) (lefts-sound (left g k) ks v h)

lefts-complete : (g : G) (ks v : List ℕ) → In g (ks ++ v) → In (lefts g ks) v
unfolding lefts
lefts-complete g [] v h = h
lefts-complete g (k ∷ ks) v h = lefts-complete (left g k) ks v (left-complete g k (ks ++ v) h)

-- words are a whole text just where what is left behind them has the empty one
pub whole_in : (g : G) (ks : List ℕ) → nullable (lefts g ks) ≡ true → In g ks
whole_in g ks e = rw append-nil at (lefts-sound g ks [] (empty-in (lefts g ks) e))

pub whole_out : (g : G) (ks : List ℕ) → In g ks → nullable (lefts g ks) ≡ true
whole_out g ks h = empty-out (lefts-complete g ks [] (rw append-nil h)) refl

-- ---- what has a text
-- a text of each rule
samples : List (List ℕ)
samples =
    (k_class ∷ k_name ∷ k_class ∷ k_name ∷ k_open ∷ k_name ∷ k_close ∷ k_attribute ∷ k_name ∷ k_semi ∷ k_user ∷ k_name ∷ k_roles ∷ k_name ∷ k_semi ∷ [])
    ∷ (k_class ∷ k_name ∷ [])
    ∷ (k_common ∷ k_name ∷ k_open ∷ k_name ∷ k_close ∷ [])
    ∷ (k_class ∷ k_name ∷ k_open ∷ k_name ∷ k_close ∷ [])
    ∷ (k_attribute ∷ k_name ∷ k_semi ∷ [])
    ∷ (k_user ∷ k_name ∷ k_roles ∷ k_name ∷ k_semi ∷ [])
    ∷ (k_constrain ∷ k_name ∷ k_name ∷ k_u1 ∷ k_same ∷ k_u2 ∷ k_semi ∷ [])
    ∷ (k_open ∷ k_name ∷ k_close ∷ [])
    ∷ (k_allow ∷ k_name ∷ k_name ∷ k_colon ∷ k_name ∷ k_name ∷ k_semi ∷ [])
    ∷ (k_name ∷ [])
    ∷ (k_u1 ∷ k_same ∷ k_u2 ∷ [])
    ∷ []

-- every piece of g has a text; of a rule that is tried on its sample
clean : G → Bool
clean none = false
clean eps = true
clean (tok k) = true
clean (seq a b) = clean a && clean b
clean (alt a b) = clean a && clean b
clean (star a) = clean a
clean (nt i) = nullable (lefts (rule i) (get_or samples i []))

has-text : (g : G) → clean g ≡ true → (ks : List ℕ) × In g ks
unfolding clean
has-text none e = absurd (false≢true e)
has-text eps e = ([], in-eps refl)
has-text (tok k) e = (k ∷ [], in_tok refl)
has-text (seq a b) e =
    let p = and_both (clean a) (clean b) e in
    let s = has-text a p.0 in
    let t = has-text b p.1 in
    (s.0 ++ t.0, in-seq s.0 t.0 refl s.1 t.1)
has-text (alt a b) e = let s = has-text a (and_both (clean a) (clean b) e).0 in (s.0, in_left s.1)
has-text (star a) e = ([], in-stop refl)
has-text (nt i) e = (get_or samples i [], in-rule (whole_in (rule i) (get_or samples i []) e))

-- ---- no word leaves a piece that has none: what is left is nothing or clean
good : G → Bool
good g = is_none g || clean g

is-none : (g : G) → is_none g ≡ true → g ≡ none
unfolding is_none
is-none none e = refl
is-none eps e = absurd (false≢true e)
is-none (tok k) e = absurd (false≢true e)
is-none (seq a b) e = absurd (false≢true e)
is-none (alt a b) e = absurd (false≢true e)
is-none (star a) e = absurd (false≢true e)
is-none (nt i) e = absurd (false≢true e)

after-clean : (a y : G) → clean a ≡ true → clean y ≡ true → clean (a · y) ≡ true
unfolding clean
after-clean none y e f = e
after-clean eps y e f = f
after-clean (tok k) y e f = f
after-clean (seq a b) y e f = let p = and_both (clean a) (clean b) e in after-clean a (b · y) p.0 (after-clean b y p.1 f)
after-clean (alt a b) y e f = both-and (clean (alt a b)) (clean y) e f
after-clean (star a) y e f = both-and (clean a) (clean y) e f
after-clean (nt i) y e f = both-and (clean (nt i)) (clean y) e f

after-good : (a y : G) → good a ≡ true → clean y ≡ true → good (a · y) ≡ true
unfolding good is_none
after-good a y g f =
    or_cases (is_none a) (clean a) g (λ n. rw (is-none a n)) (λ c. either-right (is_none (a · y)) (clean (a · y)) (after-clean a y c f))

or-good : (a b : G) → good a ≡ true → good b ≡ true → good (or a b) ≡ true
unfolding or good is_none clean
or-good a b g h = by (is_none a) (is_none b) refl refl
  where
    by : (m n : Bool) → is_none a ≡ m → is_none b ≡ n → good (or_by m n a b) ≡ true
    by true n e f = h
    by false true e f = g
    by false false e f = both-and (clean a) (clean b) (rw (e, ◌||◌) at g) (rw (f, ◌||◌) at h)

module _ (r : ℕ → ℕ → G) (hr : (i k : ℕ) → good (r i k) ≡ true) where
  by-good : (g : G) (k : ℕ) → clean g ≡ true → good (left_by r g k) ≡ true
  unfolding left_by clean good is_none
  by-good none k e = refl
  by-good eps k e = refl
  by-good (tok j) k e = tok-by (eqb j k)
    where
      tok-by : (t : Bool) → good (tok_by t) ≡ true
      tok-by true = refl
      tok-by false = refl
  by-good (seq a b) k e =
      let p = and_both (clean a) (clean b) e in
      seq-by (nullable a) _ _ (after-good (left_by r a k) b (by-good a k p.0) p.1) (by-good b k p.1)
    where
      seq-by : (n : Bool) (x y : G) → good x ≡ true → good y ≡ true → good (seq_by n x y) ≡ true
      seq-by true x y p q = or-good x y p q
      seq-by false x y p q = p
  by-good (alt a b) k e =
      let p = and_both (clean a) (clean b) e in
      or-good (left_by r a k) (left_by r b k) (by-good a k p.0) (by-good b k p.1)
  by-good (star a) k e = after-good (left_by r a k) (star a) (by-good a k e) e
  by-good (nt i) k e = hr i k

rule-good : (i : ℕ) → good (rule i) ≡ true
unfolding rules rule good is_none clean nullable samples lefts left left_in left_by or spelt marks keywords
rule-good i = each-rule good refl refl i

in-good : (n : ℕ) (g : G) (k : ℕ) → good g ≡ true → good (left_in n g k) ≡ true
unfolding left_in left_by good is_none
in-good zero g k e = or_cases (is_none g) (clean g) e (λ z. rw (is-none g z)) (λ c. by-good (λ i j. none) (λ i j. refl) g k c)
in-good (suc n) g k e =
    or_cases (is_none g) (clean g) e (λ z. rw (is-none g z))
    (λ c. by-good (λ i j. left_in n (rule i) j) (λ i j. in-good n (rule i) j (rule-good i)) g k c)

lefts-good : (g : G) (ks : List ℕ) → good g ≡ true → good (lefts g ks) ≡ true
unfolding lefts left
lefts-good g [] e = e
lefts-good g (k ∷ ks) e = lefts-good (left g k) ks (in-good 2 g k e)

policy-good : good policy ≡ true
unfolding rules rule good is_none clean nullable samples lefts left left_in left_by or spelt marks keywords
policy-good = refl

-- ---- the theorem
-- Where something is left behind these words, some text of the grammar begins with them.
pub begins : (ks : List ℕ) → is_none (lefts policy ks) ≡ false → (v : List ℕ) × In policy (ks ++ v)
unfolding good
begins ks f =
    let t = has-text (lefts policy ks) (rw (f, ◌||◌) at (lefts-good policy ks policy-good)) in
    (t.0, lefts-sound policy ks t.0 t.1)

-- Where nothing is left, none does.
pub stops : (ks : List ℕ) → is_none (lefts policy ks) ≡ true → (v : List ℕ) → In policy (ks ++ v) → ⊥
stops ks f v h = false≢true (sym (some_is (lefts-complete policy ks v h)) ∙ f)
