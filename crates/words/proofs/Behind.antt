-- The words of a text at or behind a place, one after the other: what a loop over the words cites.
--
--   words-next    the first is the word at the place, and the others are those behind its end
--   words-end     there are none where that word is the end
--   enough        `words_from` with any number that is no less than the bytes left gives them
--   few-words     there are no more words than bytes
--   words-lie     each lies inside the text and has its bytes
--   left-next, left-end   the same of the spans that an iterator has left
--   drained               all that an iterator gives
--   spans-first, spans-none    where there is a span, there is a word before it; where none is, there is no word
-- Assumes nothing.
use Prim.Native.Nat.{ℕ, zero, suc, ◌+◌, ◌-◌, ◌≤◌, ◌<◌}
use native.Mathlib.Omega.{arith}
use mathlib.Core.Path.{◌≡◌, refl, sym, ◌∙◌, ap}
use mathlib.Core.Bool.{Bool, true, false}
use mathlib.Core.List.{List, [], ◌∷◌}
use borrow.Author.Tests.{eq-eqb, ne_eqb, eqb-true, eqb-false}
use lib.Dec.{eqb}
use lib.ListN.{length, drop, drop_of_length-le}
use lib.Seq.{drop-drop, drop-nil}
use Rattle.std.specs.Iterator.{YieldsFirst, Drains}
use Rattle.meaning.specs.Plain.{each}
use Rattle.meaning.specs.Keywords.{k_end}
use Rattle.meaning.proofs.Lists.{Among, here, there, none-among, bool_cases}
use Rattle.meaning.specs.Words.{Word, end_of, scan_to, word_here, word_from, word_at, words_from, words_of}
use Rattle.words.specs.declared.Span.{Span}
use Rattle.words.specs.declared.Words.{Words}
use Rattle.words.specs.Spans.{span_of, Lies, words_behind, spans_left}
use Rattle.words.proofs.Located.{word-placed, word_bytes}

onward : (s : List ℕ) (p : ℕ) → ((word_at s p).kind ≡ k_end → ⊥) → p < end_of (word_at s p)
unfolding span_of
onward s p n = (word-placed s p).onward n

-- ---- by the number that `words_from` counts down
pub next_word : (s : List ℕ) (p n : ℕ) → ((word_at s p).kind ≡ k_end → ⊥)
    → words_from (suc n) p (drop p s) ≡ word_at s p ∷ words_from n (end_of (word_at s p)) (drop (end_of (word_at s p)) s)
unfolding words_from word_at
next_word s p n k =
    let sum : p + (end_of (word_from p (drop p s)) - p) ≡ end_of (word_from p (drop p s)) = omega (arith, onward s p k) in
    rw (ne_eqb _ _ k, words_from, drop-drop, sum)

pub last_word : (s : List ℕ) (p n : ℕ) → (word_at s p).kind ≡ k_end → words_from n p (drop p s) ≡ []
unfolding words_from word_at
last_word s p zero e = refl
last_word s p (suc n) e = rw (eq-eqb _ _ e, words_from)

past_end : (s : List ℕ) (p : ℕ) → length s ≤ p → (word_at s p).kind ≡ k_end
unfolding word_at word_from word_here scan_to
past_end s p h = rw (drop_of_length-le s h, drop-nil)

-- two numbers that are enough give the same words
alike : (s : List ℕ) (m n p : ℕ) → length s ≤ p + m → length s ≤ p + n → words_from m p (drop p s) ≡ words_from n p (drop p s)
alike s zero n p h g = let e = past_end s p (omega arith) in last_word s p zero e ∙ sym (last_word s p n e)
alike s (suc m) zero p h g = let e = past_end s p (omega arith) in last_word s p (suc m) e ∙ sym (last_word s p zero e)
alike s (suc m) (suc n) p h g = go (eqb (word_at s p).kind k_end) refl (alike s m n (end_of (word_at s p)))
  where
    go : (t : Bool) → eqb (word_at s p).kind k_end ≡ t
        → (length s ≤ end_of (word_at s p) + m → length s ≤ end_of (word_at s p) + n
        → words_from m (end_of (word_at s p)) (drop (end_of (word_at s p)) s) ≡ words_from n (end_of (word_at s p)) (drop (end_of (word_at s p)) s))
        → words_from (suc m) p (drop p s) ≡ words_from (suc n) p (drop p s)
    go true e f = last_word s p (suc m) (eqb-true _ _ e) ∙ sym (last_word s p (suc n) (eqb-true _ _ e))
    go false e f =
        let k = eqb-false _ _ e in
        let l = onward s p k in
        next_word s p m k ∙ ap (λ ws. word_at s p ∷ ws) (f (omega arith) (omega arith)) ∙ sym (next_word s p n k)

-- ---- the words behind a place
pub enough : (s : List ℕ) (p n : ℕ) → length s ≤ p + n → words_from n p (drop p s) ≡ words_behind s p
unfolding words_behind
enough s p n h = alike s n (length s) p h (omega arith)

next : (s : List ℕ) (p : ℕ) → ((word_at s p).kind ≡ k_end → ⊥) → words_behind s p ≡ word_at s p ∷ words_behind s (end_of (word_at s p))
unfolding words_behind
next s p k = go (length s) refl
  where
    go : (n : ℕ) → length s ≡ n → words_from n p (drop p s) ≡ word_at s p ∷ words_behind s (end_of (word_at s p))
    go zero e = absurd (k (past_end s p (omega arith)))
    go (suc n) e =
        let l = onward s p k in
        next_word s p n k ∙ ap (λ ws. word_at s p ∷ ws) (enough s (end_of (word_at s p)) n (omega arith))

-- r is what `word_at` answers at p
module _ (s : List ℕ) (p : ℕ) (r : Span) (e : r ≡ span_of (word_at s p)) where
  pub words-next : (r.kind ≡ k_end → ⊥) → words_behind s p ≡ word_at s p ∷ words_behind s r.end
  unfolding span_of
  words-next k = rw e (next s p (λ q. k (ap (λ x. x.kind) e ∙ q)))

  pub words-end : r.kind ≡ k_end → words_behind s p ≡ []
  unfolding span_of words_behind
  words-end k = last_word s p (length s) (sym (ap (λ x. x.kind) e) ∙ k)

few : (n p : ℕ) (s : List ℕ) → length (words_from n p s) ≤ n
unfolding words_from
few zero p s = omega arith
few (suc n) p s = by (eqb (word_from p s).kind k_end) (few n _ _)
  where
    by : (t : Bool) → length (words_from n (end_of (word_from p s)) (drop (end_of (word_from p s) - p) s)) ≤ n
        → length (elim t as (λ _. List Word) [ true ↦ [] | false ↦ word_from p s ∷ words_from n (end_of (word_from p s)) (drop (end_of (word_from p s) - p) s) ]) ≤ suc n
    by true h = omega arith
    by false h = omega arith

pub few-words : (s : List ℕ) → length (words_of s) ≤ length s
unfolding words_of
few-words s = few (length s) 0 s

lies-at : (s : List ℕ) (p : ℕ) → p ≤ length s → Lies s (word_at s p)
unfolding span_of
lies-at s p h =
    let w = word_at s p in
    let size : end_of w - w.at ≡ length w.text = omega arith in
    record { bytes = rw size at (word_bytes s p (span_of w) refl); inside = (word-placed s p).inside h }

first_or : (s : List ℕ) (w : Word) (ws : List Word) → Lies s w → ((x : Word) → Among x ws → Lies s x) → (x : Word) → Among x (w ∷ ws) → Lies s x
first_or s w ws l f x (here e) = rw e l
first_or s w ws l f x (there m) = f x m

lie-from : (s : List ℕ) (n p : ℕ) → p ≤ length s → (x : Word) → Among x (words_from n p (drop p s)) → Lies s x
unfolding words_from
lie-from s zero p h x m = none-among m
lie-from s (suc n) p h x m =
    bool_cases (eqb (word_at s p).kind k_end)
    (λ t. none-among (rw (last_word s p (suc n) (eqb-true _ _ t)) at m))
    (λ t.
    let l = lies-at s p h in
    first_or s (word_at s p) (words_from n (end_of (word_at s p)) (drop (end_of (word_at s p)) s)) l
    (lie-from s n (end_of (word_at s p)) l.inside) x (rw (next_word s p n (eqb-false _ _ t)) at m))

pub words-lie : (s : List ℕ) (x : Word) → Among x (words_of s) → Lies s x
unfolding words_of
words-lie s x m = lie-from s (length s) 0 (omega arith) x m

-- ---- what an iterator gives before it ends is what it had left
pub drained : {S A : Type 0} (rest : S → List A) (s : S) (xs : List A) → Drains (YieldsFirst rest) s xs → xs ≡ rest s
drained rest s [] (u, (t, e, n)) = rw e (sym n.0)
drained rest s (x ∷ xs) (u, (t, (j, h, y), n)) = ap (λ l. x ∷ l) (drained rest j xs (u, (t, y, n))) ∙ sym h

-- ---- of an iterator; r is the word at its place
module _ (it : Words) (r : Span) (e : r ≡ span_of (word_at it.text.now it.at)) where
  pub left-next : (r.kind ≡ k_end → ⊥) → spans_left it ≡ r ∷ spans_left (record { keys = it.keys; text = it.text; at = r.end })
  unfolding spans_left
  left-next k = rw (words-next it.text.now it.at r e k, e)

  pub left-end : r.kind ≡ k_end → spans_left it ≡ []
  unfolding spans_left
  left-end k = rw (words-end it.text.now it.at r e k)

-- ---- from spans back to words
pub spans-none : (ws : List Word) → each span_of ws ≡ [] → ws ≡ []
spans-none [] e = refl
spans-none (x ∷ ws) e = absurd (cc e)

-- the words ws are x and more
pub record First (ws : List Word) (w : Span) (l : List Span) : Type 0 where
  pub word : Word
  pub others : List Word
  pub are : ws ≡ word ∷ others
  pub span : w ≡ span_of word
  pub spans : each span_of others ≡ l

pub spans-first : (ws : List Word) (w : Span) (l : List Span) → each span_of ws ≡ w ∷ l → First ws w l
spans-first [] w l e = absurd (cc e)
spans-first (x ∷ ws) w l e = record { word = x; others = ws; are = refl; span = cc e; spans = cc e }
