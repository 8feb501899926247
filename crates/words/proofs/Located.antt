-- Where the word at a place lies.
--
--   word-here      it begins where the scan over what separates words stops
--   word-placed    it begins at the place or behind, ends inside the text, and has a byte unless it is the end
--   word_bytes     its bytes are the text's from its beginning to its end
-- Assumes nothing.
use Prim.Native.Nat.{ℕ, zero, suc, ◌+◌, ◌-◌, ◌<◌}
use native.Mathlib.Omega.{arith}
use mathlib.Core.Path.{◌≡◌, refl, ◌∙◌, ap}
use mathlib.Core.Bool.{Bool, true, false}
use mathlib.Core.List.{List, [], ◌∷◌}
use lib.Dec.{eqb}
use lib.ListN.{length, take, drop, length-take, length-drop}
use lib.Seq.{drop-drop}
use Rattle.std.specs.Prelude.{if◌then◌else◌}
use Rattle.meaning.specs.Keywords.{mark_of, kind_of, k_bad, k_end}
use Rattle.meaning.specs.Words.{Word, word, is_letter, between, naming, scan_to, mark_here, word_here, word_from, word_at}
use Rattle.words.specs.declared.Span.{Span}
use Rattle.words.specs.Spans.{span_of, Placed}
use Rattle.words.proofs.Scanned.{scan-from, scan-inside}

-- w stands at q, at the front of the bytes l
record Front (q : ℕ) (l : List ℕ) (w : Word) : Type 0 where
  at : w.at ≡ q
  bytes : w.text ≡ take (length w.text) l
  some : (w.kind ≡ k_end → ⊥) → 0 < length w.text

taken : (n : ℕ) (l : List ℕ) → take n l ≡ take (length (take n l)) l
taken zero l = refl
taken (suc n) [] = refl
taken (suc n) (b ∷ l) = ap (λ x. b ∷ x) (taken n l)

made : (q k b n : ℕ) (l : List ℕ) → Front q (b ∷ l) (word k q (b ∷ take n l))
made q k b n l = record { at = refl; bytes = taken (suc n) (b ∷ l); some = λ _. omega arith }

mark-front : (q b : ℕ) (l : List ℕ) → Front q (b ∷ l) (mark_here q b l)
unfolding mark_here
mark-front q b l = go (eqb (mark_of (b ∷ take 1 l)) k_bad)
  where
    go : (t : Bool) → Front q (b ∷ l) (if t then word (mark_of (b ∷ [])) q (b ∷ []) else word (mark_of (b ∷ take 1 l)) q (b ∷ take 1 l))
    go true = made q _ b 0 l
    go false = made q _ b 1 l

here-front : (q : ℕ) (l : List ℕ) → Front q l (word_here q l)
unfolding word_here
here-front q [] = record { at = refl; bytes = refl; some = λ n. absurd (n refl) }
here-front q (b ∷ l) = go (scan_to naming (q + 1) l - (q + 1)) (is_letter b)
  where
    go : (n : ℕ) (t : Bool) → Front q (b ∷ l) (if t then word (kind_of (b ∷ take n l)) q (b ∷ take n l) else mark_here q b l)
    go n true = made q _ b n l
    go n false = mark-front q b l

pub word-here : (s : List ℕ) (p q : ℕ) → q ≡ scan_to between p (drop p s) → word_at s p ≡ word_here q (drop q s)
unfolding word_at word_from
word-here s p q e =
    let sum : p + (q - p) ≡ q = omega (arith, scan-from between p (drop p s)) in
    rw (← e, drop-drop, sum)

module _ (s : List ℕ) (p : ℕ) where
  front : (q : ℕ) → q ≡ scan_to between p (drop p s) → Front q (drop q s) (word_at s p)
  front q e = rw (word-here s p q e) (here-front q (drop q s))

  pub word-placed : Placed s p (span_of (word_at s p))
  unfolding span_of
  word-placed =
      let q = scan_to between p (drop p s) in
      let f = front q refl in
      let size = ap length f.bytes ∙ length-take (length (word_at s p).text) (drop q s) in
      record {
        begins = omega (arith, scan-from between p (drop p s));
        onward = λ n. omega (arith, scan-from between p (drop p s), f.some n);
        inside = λ l. omega (arith, scan-inside between p s l, length-drop q s);
      }

  -- r is what `word_at` answers at p
  pub word_bytes : (r : Span) → r ≡ span_of (word_at s p) → (word_at s p).text ≡ take (r.end - r.start) (drop r.start s)
  unfolding span_of
  word_bytes r e =
      let f = front _ refl in
      let size : r.end - r.start ≡ length (word_at s p).text = omega (arith, ap (λ x. x.end) e, ap (λ x. x.start) e) in
      let start : r.start ≡ scan_to between p (drop p s) = ap (λ x. x.start) e ∙ f.at in
      rw (size, start) f.bytes
