-- One word: the texts of what is left of a grammar behind a word (`left` of Grammar) are just what follows the word in its texts
-- (`left-sound`, `left-complete`). Both by the shape of the grammar. Where it begins with a rule, that rule is gone into, as deep as
-- `left` goes; a computed test says that no rule begins with rules deeper than that (`deep-enough`).
-- Assumes nothing.
use Prim.Native.Nat.{ℕ, zero, suc}
use mathlib.Core.Path.{◌≡◌, refl, ◌∙◌, ap}
use mathlib.Core.Logic.{◌⊎◌, inl, inr, ⊎_elim}
use mathlib.Core.Bool.{Bool, true, false, not, ◌&&◌, ◌||◌, false≢true}
use mathlib.Core.List.{List, [], ◌∷◌, ◌++◌}
use borrow.Author.Tests.{eqb-true, eq-eqb}
use lib.Dec.{eqb}
use Rattle.meaning.specs.Grammar.{G, none, eps, tok, seq, alt, star, nt, ◌·◌, In, in-eps, in_tok, in-seq, in_left, in_right, in-stop, in-more, in-rule, nullable, or, left_by, left_in, left, rule, rules}
use Rattle.meaning.proofs.Lists.{and_both, both-and, either-right}
use Rattle.meaning.proofs.Texts.{each-rule, no_none, cons-nil, after-in, after-out, or-out, or_left, or_right, empty-in, empty-out}

-- ---- a sequence and a word, by the test that `left_by` makes
abbrev pub seq_by : Bool → G → G → G
seq_by n x y = elim n as (λ _. G) [ true ↦ or x y | false ↦ x ]

seq-by-out : (n : Bool) (x y : G) (ks : List ℕ) → In (seq_by n x y) ks → In x ks ⊎ ((n ≡ true) × In y ks)
seq-by-out true x y ks h = ⊎_elim (λ p. inl p) (λ p. inr (refl, p)) (or-out x y ks h)
seq-by-out false x y ks h = inl h

seq-by-left : (n : Bool) (x y : G) (ks : List ℕ) → In x ks → In (seq_by n x y) ks
seq-by-left true x y ks h = or_left x y ks h
seq-by-left false x y ks h = h

seq-by-right : (n : Bool) (x y : G) (ks : List ℕ) → n ≡ true → In y ks → In (seq_by n x y) ks
seq-by-right true x y ks e h = or_right x y ks h
seq-by-right false x y ks e h = absurd (false≢true e)

abbrev pub tok_by : Bool → G
tok_by t = elim t as (λ _. G) [ true ↦ eps | false ↦ none ]

tok-by-out : (t : Bool) (ks : List ℕ) → In (tok_by t) ks → (t ≡ true) × (ks ≡ [])
tok-by-out true ks (in-eps e) = (refl, e)
tok-by-out false ks h = no_none h

tok-by-in : (t : Bool) (ks : List ℕ) → t ≡ true → ks ≡ [] → In (tok_by t) ks
tok-by-in true ks e z = in-eps z
tok-by-in false ks e z = absurd (false≢true e)

-- ---- a text of what is left, with the word before it, is a text
module _ (r : ℕ → ℕ → G) (hr : (i k : ℕ) (ks : List ℕ) → In (r i k) ks → In (nt i) (k ∷ ks)) where
  by-sound : (g : G) (k : ℕ) (ks : List ℕ) → In (left_by r g k) ks → In g (k ∷ ks)
  unfolding left_by
  by-sound none k ks h = no_none h
  by-sound eps k ks h = no_none h
  by-sound (tok j) k ks h =
      let p = tok-by-out (eqb j k) ks h in
      let e : k ∷ ks ≡ j ∷ [] = cc (eqb-true j k p.0, p.1) in
      in_tok e
  by-sound (seq a b) k ks h =
      ⊎_elim
      (λ p. let s = after-out (left_by r a k) b ks p in
      in-seq (k ∷ s.front) s.back (ap (k ∷◌) s.joins) (by-sound a k s.front s.of-front) s.of-back)
      (λ p. in-seq [] (k ∷ ks) refl (empty-in a p.0) (by-sound b k ks p.1))
      (seq-by-out (nullable a) (left_by r a k · b) (left_by r b k) ks h)
  by-sound (alt a b) k ks h =
      ⊎_elim (λ p. in_left (by-sound a k ks p)) (λ p. in_right (by-sound b k ks p)) (or-out (left_by r a k) (left_by r b k) ks h)
  by-sound (star a) k ks h =
      let s = after-out (left_by r a k) (star a) ks h in
      in-more (k ∷ s.front) s.back (ap (k ∷◌) s.joins) (by-sound a k s.front s.of-front) s.of-back
  by-sound (nt i) k ks h = hr i k ks h

sound : (n : ℕ) (g : G) (k : ℕ) (ks : List ℕ) → In (left_in n g k) ks → In g (k ∷ ks)
unfolding left_in
sound zero g k ks h = by-sound (λ i j. none) (λ i j v p. no_none p) g k ks h
sound (suc n) g k ks h = by-sound (λ i j. left_in n (rule i) j) (λ i j v p. in-rule (sound n (rule i) j v p)) g k ks h

pub left-sound : (g : G) (k : ℕ) (ks : List ℕ) → In (left g k) ks → In g (k ∷ ks)
unfolding left
left-sound g k ks h = sound 2 g k ks h

-- ---- what follows the word in a text is a text of what is left
-- the rules with which g may begin pass the test q
head_by : (ℕ → Bool) → G → Bool
head_by q none = true
head_by q eps = true
head_by q (tok k) = true
head_by q (seq a b) = head_by q a && (not (nullable a) || head_by q b)
head_by q (alt a b) = head_by q a && head_by q b
head_by q (star a) = head_by q a
head_by q (nt i) = q i

-- g begins with rules at most n deep
heads : ℕ → G → Bool
heads zero g = head_by (λ i. false) g
heads (suc n) g = head_by (λ i. heads n (rule i)) g

head-all : (q : ℕ → Bool) → ((i : ℕ) → q i ≡ true) → (g : G) → head_by q g ≡ true
unfolding head_by
head-all q h none = refl
head-all q h eps = refl
head-all q h (tok k) = refl
head-all q h (seq a b) = both-and (head_by q a) _ (head-all q h a) (either-right (not (nullable a)) (head_by q b) (head-all q h b))
head-all q h (alt a b) = both-and (head_by q a) (head_by q b) (head-all q h a) (head-all q h b)
head-all q h (star a) = head-all q h a
head-all q h (nt i) = h i

-- any grammar over these rules: a rule begins with rules at most one deep
deep-enough : (g : G) → heads 2 g ≡ true
unfolding heads head_by rule rules nullable
deep-enough g = head-all (λ i. heads 1 (rule i)) (λ i. each-rule (heads 1) refl refl i) g

-- a text of star a that begins with k is one of a that does, and more
begun : {a : G} {v : List ℕ} → In (star a) v → (k : ℕ) (ks : List ℕ) → k ∷ ks ≡ v
    → (u t : List ℕ) × (ks ≡ u ++ t) × In a (k ∷ u) × In (star a) t
begun (in-stop e) k ks f = cons-nil k ks (f ∙ e)
begun (in-more [] v e p q) k ks f = begun q k ks (f ∙ e)
begun (in-more (x ∷ u) v e p q) k ks f =
    let h : k ≡ x = cc in (u, v, cc, rw h p, q)

must : (n b : Bool) → n ≡ true → (not n || b) ≡ true → b ≡ true
must true b e h = h
must false b e h = absurd (false≢true e)

module _ (r : ℕ → ℕ → G) (q : ℕ → Bool) (hr : (i k : ℕ) (ks : List ℕ) → q i ≡ true → In (rule i) (k ∷ ks) → In (r i k) ks) where
  by-complete : (g : G) (k : ℕ) (ks : List ℕ) → head_by q g ≡ true → In g (k ∷ ks) → In (left_by r g k) ks
  unfolding left_by head_by
  by-complete none k ks d h = no_none h
  by-complete eps k ks d (in-eps e) = cons-nil k ks e
  by-complete (tok j) k ks d (in_tok e) = tok-by-in (eqb j k) ks (eq-eqb j k (cc)) (cc)
  by-complete (seq a b) k ks d (in-seq [] v e p s) =
      let n : nullable a ≡ true = empty-out p refl in
      let m = must (nullable a) (head_by q b) n (and_both (head_by q a) (not (nullable a) || head_by q b) d).1 in
      seq-by-right (nullable a) (left_by r a k · b) (left_by r b k) ks n (by-complete b k ks m (rw e s))
  by-complete (seq a b) k ks d (in-seq (x ∷ u) v e p s) =
      let h : k ≡ x = cc in
      let t = by-complete a k u (and_both (head_by q a) (not (nullable a) || head_by q b) d).0 (rw h p) in
      seq-by-left (nullable a) (left_by r a k · b) (left_by r b k) ks (after-in (left_by r a k) b ks u v (cc) t s)
  by-complete (alt a b) k ks d (in_left p) =
      or_left (left_by r a k) (left_by r b k) ks (by-complete a k ks (and_both (head_by q a) (head_by q b) d).0 p)
  by-complete (alt a b) k ks d (in_right p) =
      or_right (left_by r a k) (left_by r b k) ks (by-complete b k ks (and_both (head_by q a) (head_by q b) d).1 p)
  by-complete (star a) k ks d h =
      let s = begun h k ks refl in
      after-in (left_by r a k) (star a) ks s.0 s.1 s.2 (by-complete a k s.0 d s.3) s.4
  by-complete (nt i) k ks d (in-rule p) = hr i k ks d p

complete : (n : ℕ) (g : G) (k : ℕ) (ks : List ℕ) → heads n g ≡ true → In g (k ∷ ks) → In (left_in n g k) ks
unfolding left_in heads
complete zero g k ks d h = by-complete (λ i j. none) (λ i. false) (λ i j v e p. absurd (false≢true e)) g k ks d h
complete (suc n) g k ks d h =
    by-complete (λ i j. left_in n (rule i) j) (λ i. heads n (rule i)) (λ i j v e p. complete n (rule i) j v e p) g k ks d h

pub left-complete : (g : G) (k : ℕ) (ks : List ℕ) → In g (k ∷ ks) → In (left g k) ks
unfolding left
left-complete g k ks h = complete 2 g k ks (deep-enough g) h
