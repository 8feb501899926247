-- What the answer of `recognise` says. `number_in` and `place_in` are 01's number and place of an answer.
--
--   refusal-long, refusal-read    the answer for a text that is too long, and for one that is not
--   accepted-number               the number is 0 just where the text is accepted
--   numbers-are                   2 and 0 for a text that is too long, else 0, or 3 or 7 and the place, as it reads (`numbers_of`)
--   accepted-is                   a text is accepted exactly if it is not too long and its reading fits
--   refused-load                  a refusal is the load's, with its place
--   one_answer                    two answers that meet the contract of `recognise` are equal
-- By cases: the text's length, then what its reading comes to.
-- Assumes nothing.
use Prim.Native.Nat.{ℕ, ◌≤◌, ◌<◌}
use native.Mathlib.Omega.{arith}
use mathlib.Core.Path.{◌≡◌, refl, sym, ◌∙◌, ap}
use mathlib.Core.Bool.{Bool, true, false}
use mathlib.Core.List.{List}
use mathlib.Core.Logic.{◌↔◌}
use borrow.Author.Tests.{lt-ltb, le-ltb, ltb-true, ltb-false}
use lib.Dec.{ltb}
use lib.ListN.{length}
use Rattle.std.specs.Prelude.{Result, Ok, Err, if◌then◌else◌}
use Rattle.meaning.specs.Words.{Word, words_of}
use Rattle.meaning.specs.Sizes.{Verdict, fits, ungrammatical, oversize, read_text}
use Rattle.meaning.specs.Load.{text_size, Loaded, refused, after_reading, load_words, load}
use Rattle.meaning.specs.Refusals.{accepted, long_text, not_grammar, over_size}
use Rattle.recogniser.specs.declared.Refusal.{Refusal}
use Rattle.recogniser.specs.declared.Refusal.TheVariants.{LongText, NotGrammar, OverSize}
use Rattle.recogniser.specs.Refusal.{of_verdict, refusal_of, number_in, place_in}

abbrev read_of : List ℕ → Verdict
read_of s = read_text (length s) (words_of s)

pub refusal-long : (s : List ℕ) → text_size < length s → refusal_of s ≡ Err LongText
unfolding refusal_of
refusal-long s h = rw (lt-ltb text_size (length s) h)

pub refusal-read : (s : List ℕ) → length s ≤ text_size → refusal_of s ≡ of_verdict (read_of s)
unfolding refusal_of
refusal-read s h = rw (le-ltb text_size (length s) h)

-- ---- numbers
pub accepted-number : (r : Result (Unit {0}) Refusal) → (number_in r ≡ accepted) ↔ (r ≡ Ok tt)
accepted-number (Ok t) = (λ e. refl, λ e. refl)
accepted-number (Err LongText) = (λ e. absurd (omega arith), λ e. cc)
accepted-number (Err (NotGrammar p)) = (λ e. absurd (omega arith), λ e. cc)
accepted-number (Err (OverSize p)) = (λ e. absurd (omega arith), λ e. cc)

abbrev pub numbers_of : Verdict → ℕ × ℕ
numbers_of fits = (accepted, 0)
numbers_of (ungrammatical p) = (not_grammar, p)
numbers_of (oversize p) = (over_size, p)

abbrev numbers_in : Result (Unit {0}) Refusal → ℕ × ℕ
numbers_in r = (number_in r, place_in r)

numbers-read : (v : Verdict) → numbers_in (of_verdict v) ≡ numbers_of v
unfolding of_verdict
numbers-read fits = refl
numbers-read (ungrammatical p) = refl
numbers-read (oversize p) = refl

pub numbers-are : (s : List ℕ) → (number_in (refusal_of s), place_in (refusal_of s))
    ≡ (if ltb text_size (length s) then (long_text, 0) else numbers_of (read_text (length s) (words_of s)))
unfolding refusal_of
numbers-are s = by (ltb text_size (length s))
  where
    by : (b : Bool)
        → numbers_in (if b then Err LongText else of_verdict (read_of s)) ≡ (if b then (long_text, 0) else numbers_of (read_of s))
    by true = refl
    by false = numbers-read (read_of s)

-- ---- accepted
fits-only : (v : Verdict) → number_in (of_verdict v) ≡ accepted → v ≡ fits
unfolding of_verdict
fits-only fits e = refl
fits-only (ungrammatical p) e = absurd (omega arith)
fits-only (oversize p) e = absurd (omega arith)

short-only : (s : List ℕ) (b : Bool) → ltb text_size (length s) ≡ b → number_in (refusal_of s) ≡ accepted → length s ≤ text_size
short-only s true h e = let z = ap number_in (refusal-long s (ltb-true _ _ h)) in absurd (omega arith)
short-only s false h e = ltb-false _ _ h

pub accepted-is : (s : List ℕ)
    → (number_in (refusal_of s) ≡ accepted) ↔ ((length s ≤ text_size) × (read_text (length s) (words_of s) ≡ fits))
unfolding of_verdict
accepted-is s = (
  λ e. let h = short-only s _ refl e in (h, fits-only (read_of s) (sym (ap number_in (refusal-read s h)) ∙ e)),
  λ h. ap number_in (refusal-read s h.0 ∙ ap of_verdict h.1),
)

-- ---- refused
-- what `load` answers is what the recogniser does
abbrev Agrees : Loaded → Result (Unit {0}) Refusal → Type 0
Agrees l r = (l.number ≡ number_in r) × (l.place ≡ place_in r)

agrees-read : (v : Verdict) (ws : List Word) → (number_in (of_verdict v) ≡ accepted → ⊥) → Agrees (after_reading v ws) (of_verdict v)
unfolding of_verdict after_reading refused
agrees-read fits ws n = absurd (n refl)
agrees-read (ungrammatical p) ws n = (refl, refl)
agrees-read (oversize p) ws n = (refl, refl)

pub refused-load : (s : List ℕ) → (number_in (refusal_of s) ≡ accepted → ⊥)
    → ((load s).number ≡ number_in (refusal_of s)) × ((load s).place ≡ place_in (refusal_of s))
unfolding load load_words refused refusal_of
refused-load s = by (ltb text_size (length s))
  where
    by : (b : Bool) → (number_in (if b then Err LongText else of_verdict (read_of s)) ≡ accepted → ⊥)
        → Agrees (elim b [ true ↦ refused long_text 0 | false ↦ load_words (length s) (words_of s) ])
        (if b then Err LongText else of_verdict (read_of s))
    by true n = (refl, refl)
    by false n = agrees-read (read_of s) (words_of s) n

-- ---- one answer
pub one_answer : (s : List ℕ) (r r' : Result (Unit {0}) Refusal) → r ≡ refusal_of s → r' ≡ refusal_of s → r ≡ r'
one_answer s r r' p q = p ∙ sym q
