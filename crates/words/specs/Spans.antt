-- A word of a text as the code has it: its kind, the place of its first byte and the place behind its last.
--
--   span_of w           the span of the word w
--   Placed s p r       where r lies, the span of the word of s at or behind the place p: what a loop over the words lives on
--   Lies s w           the word w has the bytes of s from its place on, and ends inside s
--   words_behind s p    the words of s at or behind the place p; each has a byte, so no more are asked for than s has bytes
--   spans_of s          the spans of all words of s
--   spans_left it       the spans of the words that the iterator it has left
--   unless_stopped st   what a scan is in, where it has not stopped
use Rattle.std.specs.Prelude.{ℕ, ◌≤◌, ◌<◌, ◌≡◌, List, length, take, drop, Option}
use Rattle.meaning.specs.Plain.{each}
use Rattle.meaning.specs.Keywords.{k_end}
use Rattle.meaning.specs.Words.{Word, stopped, end_of, words_from, words_of}
use Rattle.kinds.specs.Kinds.{unless}
use Rattle.words.specs.declared.Span.{Span}
use Rattle.words.specs.declared.Words.{Words}

unfoldable pub span_of : Word → Span
span_of w = record { kind = w.kind; start = w.at; end = end_of w }

pub record Placed (s : List ℕ) (p : ℕ) (r : Span) : Type 0 where
  pub begins : p ≤ r.start
  pub onward : (r.kind ≡ k_end → ⊥) → p < r.end
  pub inside : p ≤ length s → r.end ≤ length s

pub record Lies (s : List ℕ) (w : Word) : Type 0 where
  pub bytes : w.text ≡ take (length w.text) (drop w.at s)
  pub inside : end_of w ≤ length s

unfoldable pub words_behind : List ℕ → ℕ → List Word
words_behind s p = words_from (length s) p (drop p s)

abbrev pub spans_of : List ℕ → List Span
spans_of s = each span_of (words_of s)

unfoldable pub spans_left : Words → List Span
spans_left it = each span_of (words_behind it.text.now it.at)

abbrev pub unless_stopped : ℕ → Option ℕ
unless_stopped st = unless stopped st
