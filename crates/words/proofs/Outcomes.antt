-- The three ways in which `word_at` answers: at the end, a name, a mark. q is the place at which the scan from p over what
-- separates words stops.
-- Assumes nothing.
use Prim.Native.Nat.{ℕ, suc, ◌+◌, ◌-◌, ◌≤◌, ◌<◌}
use native.Mathlib.Omega.{arith}
use native.Mathlib.Nat.{add-zero}
use native.Mathlib.Numerals.{add-one}
use mathlib.Core.Path.{◌≡◌, sym, ◌∙◌, ap}
use mathlib.Core.Bool.{true, false}
use mathlib.Core.List.{List, ◌∷◌}
use lib.ListN.{length, take, drop, get_or, drop_of_length-le, length-drop}
use lib.Seq.{drop-cons, length-take-le}
use Rattle.meaning.specs.Keywords.{kind_of, k_end}
use Rattle.meaning.specs.Words.{is_letter, between, naming, scan_to, mark_here, word_here, word_at}
use Rattle.words.specs.declared.Span.{Span}
use Rattle.words.specs.Spans.{span_of, Placed}
use Rattle.words.proofs.Scanned.{scan-from, scan-inside}
use Rattle.words.proofs.Located.{word-here, word-placed}

-- both clauses of the contract
abbrev Answer : List ℕ → ℕ → Span → Type 0
Answer s p r = (r ≡ span_of (word_at s p)) × Placed s p r

-- the name that begins at q ends behind q, inside the text
pub name-ends : (s : List ℕ) (q end : ℕ) → q < length s → end ≡ scan_to naming (q + 1) (drop (q + 1) s) → (q < end) × (end ≤ length s)
name-ends s q end l f = omega (arith, scan-from naming (q + 1) (drop (q + 1) s), scan-inside naming (q + 1) s (omega arith))

module _ (s : List ℕ) (p q : ℕ) (e : q ≡ scan_to between p (drop p s)) where
  answer : (r : Span) → r ≡ span_of (word_here q (drop q s)) → Answer s p r
  answer r h =
      let is : r ≡ span_of (word_at s p) = rw (word-here s p q e) h in
      (is, rw is (word-placed s p))

  pub at-end : length s ≤ q → Answer s p (record { kind = k_end; start = q; end = q })
  unfolding word_here span_of
  at-end l = answer _ (rw (drop_of_length-le s l, add-zero))

  module _ (l : q < length s) where
    pub at_mark : is_letter (get_or s q 0) ≡ false → (r : Span) → r ≡ span_of (mark_here q (get_or s q 0) (drop (q + 1) s)) → Answer s p r
    unfolding word_here
    at_mark t r h = answer r (h ∙ rw (drop-cons s q 0 l, t, word_here, add-one))

    pub at_name : is_letter (get_or s q 0) ≡ true → (end : ℕ) → end ≡ scan_to naming (q + 1) (drop (q + 1) s)
        → (kind : ℕ) → kind ≡ kind_of (take (end - q) (drop q s)) → Answer s p (record { kind = kind; start = q; end = end })
    unfolding word_here span_of
    at_name t end f kind k =
        let h = name-ends s q end l f in
        let stop : scan_to naming (q + 1) (drop (suc q) s) ≡ end = sym (f ∙ ap (λ n. scan_to naming (q + 1) (drop n s)) (add-one q)) in
        let more : end - q ≡ suc (end - (q + 1)) = omega arith in
        let name : take (end - q) (drop q s) ≡ get_or s q 0 ∷ take (end - (q + 1)) (drop (suc q) s) = rw (more, drop-cons s q 0 l) in
        let size = length-take-le (end - (q + 1)) (drop (suc q) s) (omega (arith, length-drop (suc q) s)) in
        let sum : q + suc (length (take (end - (q + 1)) (drop (suc q) s))) ≡ end = omega arith in
        answer _ (rw (drop-cons s q 0 l, t, word_here, stop, k, name, sum))
