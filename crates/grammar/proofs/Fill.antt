-- A grammar with a hole: what is left behind a word of the filled grammar is what is left of the grammar, filled (`left-fill`), where
-- the word does not reach the hole (`guarded`). Filling twice is filling once (`fill-fill`). And no word's kind is as high as
-- kind_count, so behind such a one nothing is left (`left-beyond`).
-- Assumes nothing.
use Prim.Native.Nat.{ℕ, zero, suc, ◌≤◌}
use native.Mathlib.Omega.{arith}
use mathlib.Core.Path.{◌≡◌, refl, sym, ◌∙◌, ap, ap₂}
use mathlib.Core.Bool.{Bool, true, false, not, ◌&&◌, ◌||◌, false≢true}
use borrow.Author.Tests.{ltb-true, ne_eqb}
use lib.Dec.{eqb, ltb}
use Rattle.std.specs.Prelude.{if◌then◌else◌}
use Rattle.meaning.specs.Keywords.{spelt, marks, keywords}
use Rattle.meaning.specs.Grammar.{G, none, eps, tok, seq, alt, star, nt, ◌·◌, nullable, is_none, or, left_by, left_in, left, rule, rules}
use Rattle.meaning.proofs.Lists.{and_both}
use Rattle.meaning.proofs.Texts.{each-rule, or_by}
use Rattle.meaning.proofs.Left.{seq_by, tok_by}
use Rattle.grammar.specs.Table.{hole_rule, kind_count}
use Rattle.grammar.specs.States.{fill}

-- ---- filling
fill-then : (t x y : G) → fill t (x · y) ≡ x · fill t y
unfolding fill
fill-then t none y = refl
fill-then t eps y = refl
fill-then t (tok k) y = refl
fill-then t (seq a b) y = fill-then t a (b · y) ∙ ap (a ·◌) (fill-then t b y)
fill-then t (alt a b) y = refl
fill-then t (star a) y = refl
fill-then t (nt i) y = refl

pub fill-fill : (t u g : G) → fill t (fill u g) ≡ fill (fill t u) g
unfolding fill
fill-fill t u none = refl
fill-fill t u eps = refl
fill-fill t u (tok k) = refl
fill-fill t u (seq a b) = ap (seq a) (fill-fill t u b)
fill-fill t u (alt a b) = rw (fill-fill t u a, fill-fill t u b)
fill-fill t u (star a) = refl
fill-fill t u (nt i) = by (eqb i hole_rule) refl
  where
    by : (b : Bool) → eqb i hole_rule ≡ b → fill t (if b then u else nt i) ≡ (if b then fill t u else nt i)
    by true e = refl
    by false e = rw (fill, e)

-- something that has no empty text stands before the hole
unfoldable pub guarded : G → Bool
guarded none = true
guarded eps = false
guarded (tok k) = false
guarded (seq a b) = not (nullable a) || guarded b
guarded (alt a b) = false
guarded (star a) = false
guarded (nt i) = false

pub nullable-fill : (t g : G) → guarded g ≡ true → nullable (fill t g) ≡ nullable g
unfolding fill nullable guarded
nullable-fill t none e = refl
nullable-fill t eps e = refl
nullable-fill t (tok k) e = refl
nullable-fill t (seq a b) e = by (nullable a) e (nullable-fill t b)
  where
    by : (n : Bool) → (not n || guarded b) ≡ true → (guarded b ≡ true → nullable (fill t b) ≡ nullable b)
        → (n && nullable (fill t b)) ≡ (n && nullable b)
    by true e h = h e
    by false e h = refl
nullable-fill t (alt a b) e = absurd (false≢true e)
nullable-fill t (star a) e = refl
nullable-fill t (nt i) e = absurd (false≢true e)

module _ (t : G) (live : is_none t ≡ false) where
  pub fill_none : (g : G) → is_none (fill t g) ≡ is_none g
  unfolding fill is_none
  fill_none none = refl
  fill_none eps = refl
  fill_none (tok k) = refl
  fill_none (seq a b) = refl
  fill_none (alt a b) = refl
  fill_none (star a) = refl
  fill_none (nt i) = by (eqb i hole_rule)
    where
      by : (b : Bool) → is_none (if b then t else nt i) ≡ false
      by true = live
      by false = refl

  fill-or : (a b : G) → fill t (or a b) ≡ or (fill t a) (fill t b)
  unfolding or fill
  fill-or a b =
      by (is_none a) (is_none b) ∙ sym (ap₂ (λ m n. or_by m n (fill t a) (fill t b)) (fill_none a) (fill_none b))
    where
      by : (m n : Bool) → fill t (or_by m n a b) ≡ or_by m n (fill t a) (fill t b)
      by true n = refl
      by false true = refl
      by false false = refl

  by-fill : (r : ℕ → ℕ → G) (g : G) (k : ℕ) → guarded g ≡ true → left_by r (fill t g) k ≡ fill t (left_by r g k)
  unfolding fill left_by guarded
  by-fill r none k e = refl
  by-fill r eps k e = absurd (false≢true e)
  by-fill r (tok j) k e = absurd (false≢true e)
  by-fill r (seq a b) k e = by (nullable a) e (by-fill r b k)
    where
      by : (n : Bool) → (not n || guarded b) ≡ true → (guarded b ≡ true → left_by r (fill t b) k ≡ fill t (left_by r b k))
          → seq_by n (left_by r a k · fill t b) (left_by r (fill t b) k) ≡ fill t (seq_by n (left_by r a k · b) (left_by r b k))
      by true e h = rw (h e, ← fill-then t (left_by r a k) b, fill-or)
      by false e h = sym (fill-then t (left_by r a k) b)
  by-fill r (alt a b) k e = absurd (false≢true e)
  by-fill r (star a) k e = absurd (false≢true e)
  by-fill r (nt i) k e = absurd (false≢true e)

  pub left-fill : (g : G) (k : ℕ) → guarded g ≡ true → left (fill t g) k ≡ fill t (left g k)
  unfolding left left_in
  left-fill g k e = by-fill (λ i j. left_in 1 (rule i) j) g k e

-- ---- kinds that are too high
-- the words of g are of kinds below kind_count
unfoldable pub known : G → Bool
known none = true
known eps = true
known (tok k) = ltb k kind_count
known (seq a b) = known a && known b
known (alt a b) = known a && known b
known (star a) = known a
known (nt i) = true

rule-known : (i : ℕ) → known (rule i) ≡ true
unfolding known rules spelt marks keywords
rule-known i = each-rule known refl refl i

module _ (k : ℕ) (high : kind_count ≤ k) where
  by-beyond : (r : ℕ → ℕ → G) → ((i : ℕ) → r i k ≡ none) → (g : G) → known g ≡ true → left_by r g k ≡ none
  unfolding left_by known or is_none
  by-beyond r h none e = refl
  by-beyond r h eps e = refl
  by-beyond r h (tok j) e = ap tok_by (ne_eqb j k (λ z. let l = ltb-true j kind_count e in omega arith))
  by-beyond r h (seq a b) e =
      let p = and_both (known a) (known b) e in
      by (nullable a) (left_by r a k) (left_by r b k) (by-beyond r h a p.0) (by-beyond r h b p.1)
    where
      by : (n : Bool) (x y : G) → x ≡ none → y ≡ none → seq_by n (x · b) y ≡ none
      by true x y e f = rw (e, f)
      by false x y e f = rw e
  by-beyond r h (alt a b) e = let p = and_both (known a) (known b) e in ap₂ or (by-beyond r h a p.0) (by-beyond r h b p.1)
  by-beyond r h (star a) e = ap (◌· star a) (by-beyond r h a e)
  by-beyond r h (nt i) e = h i

  in-beyond : (n : ℕ) (g : G) → known g ≡ true → left_in n g k ≡ none
  unfolding left_in
  in-beyond zero g e = by-beyond (λ i j. none) (λ i. refl) g e
  in-beyond (suc n) g e = by-beyond (λ i j. left_in n (rule i) j) (λ i. in-beyond n (rule i) (rule-known i)) g e

  pub left-beyond : (g : G) → known g ≡ true → left g k ≡ none
  unfolding left
  left-beyond g e = in-beyond 2 g e
