-- A text read up to a place: the reading from the turn on, over the words that are left, comes to what the reading of the whole text
-- does. No more words are read and left than the text has bytes, so no total and no depth is above that. The loop of `recognise` keeps
-- this: it holds at the start (`reached-first`) and behind a word (`reached-next`), and gives the answer at a refusal (`reached-stop`)
-- and at the end (`reached-end`).
-- Assumes nothing.
use Prim.Native.Nat.{ℕ, ◌+◌, ◌^◌, ◌≤◌, ◌<◌}
use native.Mathlib.Omega.{arith}
use mathlib.Core.Path.{◌≡◌, refl, sym, ◌∙◌, ap}
use mathlib.Core.List.{List, [], ◌∷◌}
use lib.ListN.{length}
use Rattle.std.specs.Prelude.{Result, Ok, Err}
use Rattle.std.proofs.Common.{subst}
use Rattle.meaning.specs.Plain.{each}
use Rattle.meaning.specs.Words.{Word, words_of}
use Rattle.meaning.specs.Sizes.{read_text}
use Rattle.words.specs.declared.Span.{Span}
use Rattle.words.specs.Spans.{span_of, spans_of}
use Rattle.words.proofs.Behind.{few-words, First, spans-first, spans-none}
use Rattle.reading.specs.Counts.{Room}
use Rattle.reading.proofs.Room.{room-none, room_most}
use Rattle.recogniser.specs.declared.Reading.{Reading}
use Rattle.recogniser.specs.declared.Refusal.{Refusal}
use Rattle.recogniser.specs.Refusal.{of_verdict}
use Rattle.recogniser.specs.Turn.{ahead, Begun, Taken}
use Rattle.recogniser.proofs.Turns.{forward}

pub record Reached (s : List ℕ) (left : List Span) (t : Reading) : Type 0 where
  pub words : List Word
  pub spans : each span_of words ≡ left
  pub done : ℕ
  pub count : done + length words ≤ length s
  pub depth : t.state.depth ≤ done
  pub room : Room done t.counts
  pub rest : ahead (length s) t words ≡ read_text (length s) (words_of s)

pub reached-first : (s : List ℕ) (t : Reading) → Begun t → Reached s (spans_of s) t
unfolding ahead read_text
reached-first s t b =
    record {
      words = words_of s;
      spans = refl;
      done = 0;
      count = omega (arith, few-words s);
      depth = omega arith;
      room = rw b.counts room-none;
      rest = rw (b.grammar, b.seen, b.counts, b.last);
    }

pub reached-end : (s : List ℕ) (t : Reading) (left : List Span) → left ≡ [] → Reached s left t
    → ahead (length s) t [] ≡ read_text (length s) (words_of s)
reached-end s t left e o = rw (spans-none o.words (o.spans ∙ e)) at o.rest

-- the next word is w
module _ (s : List ℕ) (t : Reading) (all left : List Span) (w : Span) (e : all ≡ w ∷ left) (o : Reached s all t) where
  next : First o.words w left
  next = spans-first o.words w left (o.spans ∙ e)

  onward : ahead (length s) t (next.word ∷ next.others) ≡ read_text (length s) (words_of s)
  onward = rw next.are at o.rest

  pub reached-asks : length s ≤ 65534 → (t.state.depth + 1 < 2 ^ 64) × Room 65534 t.counts × (w.start ≤ w.end)
  reached-asks h = (omega (arith, o.depth, o.count), room_most o.room (omega (arith, o.count)), forward w next.word next.span)

  -- r is what `take` answers, and t' what it leaves
  module _ (r : Result (Unit {0}) Refusal) (t' : Reading) (h : (x : Word) → w ≡ span_of x → Taken t x r t') where
    taken : Taken t next.word r t'
    taken = h next.word next.span

    pub reached-stop : (f : Refusal) → r ≡ Err f → r ≡ of_verdict (read_text (length s) (words_of s))
    reached-stop f q = rw q (subst (λ a. Taken t next.word a t') q taken (length s) next.others ∙ ap of_verdict onward)

    pub reached-next : (u : Unit {0}) → r ≡ Ok u → Reached s left t'
    reached-next u q =
        let g = subst (λ a. Taken t next.word a t') q taken in
        record {
          words = next.others;
          spans = next.spans;
          done = o.done + 1;
          count = omega (arith, o.count, ap length next.are);
          depth = omega (arith, g.depth, o.depth);
          room = g.room o.done o.room;
          rest = sym (g.same (length s) next.others) ∙ onward;
        }
