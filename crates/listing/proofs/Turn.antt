-- One turn of the loop of `list_statements`. The invariant, `Reading`: the rows put together with what the words to come give are all
-- statements of the text, no count is past the words done, and the rows keep their bounds.
--
--   turn-start    it holds at the start
--   turn-room     there is room for a word
--   turn-next     it holds behind the word, with what `put_word` and `next` answer
--   turn_end      at the end of the text, with the form that is put in last, the rows are the statements
-- Assumes nothing.
use Prim.Native.Nat.{ℕ, ◌+◌, ◌-◌, ◌≤◌}
use native.Mathlib.Omega.{arith}
use mathlib.Core.Path.{◌≡◌, refl, sym, ◌∙◌, ap}
use mathlib.Core.Bool.{Bool, true, false}
use mathlib.Core.List.{List, [], ◌∷◌}
use lib.Dec.{eqb}
use lib.ListN.{length, take, drop}
use Rattle.std.specs.Prelude.{if◌then◌else◌}
use Rattle.meaning.specs.Plain.{each}
use Rattle.meaning.specs.Keywords.{k_if}
use Rattle.meaning.specs.Words.{Word, words_of}
use Rattle.meaning.specs.Statements.{Seen, outside, Branch, always, gather, step, branch_at, statements_of}
use Rattle.meaning.proofs.Lists.{Among, here, there}
use Rattle.words.specs.declared.Span.{Span}
use Rattle.words.specs.Spans.{span_of, Lies, spans_of}
use Rattle.words.proofs.Behind.{few-words, words-lie, spans-none}
use Rattle.listing.specs.declared.Rows.{Rows}
use Rattle.listing.specs.declared.carry.Track.{Track}
use Rattle.listing.specs.Branches.{most}
use Rattle.listing.specs.Joined.{onto, ifs_behind, joined_with, joined_rows, Firsts, Inside}
use Rattle.listing.specs.Answers.{FormPut, RoomFor, WordPut, Passed, AllListed}
use Rattle.listing.proofs.Whole.{all-put}

-- the words to come have the spans `left`
pub record Reading (s items stmts : List ℕ) (left : List Span) (t : Track) (r : Rows) : Type 0 where
  pub words : List Word
  pub spans : each span_of words ≡ left
  pub lie : (x : Word) → Among x words → Lies s x
  pub whole : statements_of (words_of s) ≡ joined_rows s items stmts r (gather t.seen t.ifs t.branch words)
  pub done : ℕ
  pub within : done + length words ≤ length s
  pub statements : r.statements ≤ done
  pub rows : r.items ≤ done
  pub ifs : t.ifs ≤ done
  pub firsts : Firsts stmts r.statements r.items
  pub inside : Inside (length s) items r.items

gather-next : (st : Seen) (n : ℕ) (b : Branch) (x : Word) (ws : List Word)
    → gather st n b (x ∷ ws) ≡ onto st b x (gather (step st x.kind) (ifs_behind n x.kind) (branch_at st n b x.kind) ws)
unfolding gather onto
gather-next st n b x ws = refl

pub turn-start : (s items stmts : List ℕ) (left : List Span) (t : Track) → left ≡ spans_of s
    → t.seen ≡ outside → t.ifs ≡ 0 → t.branch ≡ always → Reading s items stmts left t (record { statements = 0; items = 0; known = true })
unfolding joined_with statements_of
turn-start s items stmts left t a e i b =
    record {
      words = words_of s;
      spans = sym a;
      lie = words-lie s;
      whole = rw (e, i, b);
      done = 0;
      within = omega (arith, few-words s);
      statements = omega arith;
      rows = omega arith;
      ifs = omega arith;
      firsts = record { first = λ j h. absurd (omega arith) };
      inside = record { end = λ j h. absurd (omega arith) };
    }

module _ (s items stmts : List ℕ) (left : List Span) (t : Track) (r : Rows) (now : Reading s items stmts left t r) where
  pub turn_end : left ≡ [] → length s ≤ most → (l : List ℕ) → FormPut stmts l r 0
      → AllListed s items l (record { statements = r.statements; items = r.items })
  unfolding gather
  turn_end k few l put =
      let none = spans-none now.words (now.spans ∙ k) in
      record {
        same = now.whole ∙ rw none (put.joins s items _ refl ∙ all-put s items l r.statements r.items 0);
        few_statements = omega (arith, now.within, now.statements);
        few_items = omega (arith, now.within, now.rows);
        firsts = record { first = λ j h. omega (arith, put.firsts j, now.firsts.first j h) };
        inside = now.inside;
      }

  -- the word x of the span w comes, and xs behind it
  module _ (w : Span) (x : Word) (xs : List Word) (are : now.words ≡ x ∷ xs) (e : w ≡ span_of x) where
    lies : Lies s x
    lies = now.lie x (rw are (here refl))

    more : now.done + 1 + length xs ≤ length s
    more = omega (arith, now.within, ap length are)

    ends : (w.start ≤ w.end) × (w.end ≤ length s)
    unfolding span_of
    ends = omega (arith, ap (λ z. z.start) e, ap (λ z. z.end) e, lies.inside)

    pub turn-room : length s ≤ most → RoomFor stmts r w
    turn-room few =
        record {
          row_items = omega (arith, now.rows, more);
          row_stmts = omega (arith, now.statements, more);
          ordered = ends.0;
          inside = omega (arith, ends);
          firsts = now.firsts;
        }

    module _ (left' : List Span) (f : each span_of xs ≡ left') (items' stmts' : List ℕ) (t' : Track) (r' : Rows)
        (put : WordPut items stmts items' stmts' r r' t.seen t.branch w) (passed : Passed t t' w.kind) where
      ifs-next : t'.ifs ≤ now.done + 1
      ifs-next = rw passed.ifs (go (eqb w.kind k_if))
        where
          go : (b : Bool) → (if b then t.ifs + 1 else t.ifs) ≤ now.done + 1
          go true = omega (arith, now.ifs)
          go false = omega (arith, now.ifs)

      pub turn-next : Reading s items' stmts' left' t' r'
      unfolding span_of
      turn-next =
          let kind : w.kind ≡ x.kind = ap (λ z. z.kind) e in
          let size : w.end - w.start ≡ length x.text = omega (arith, ap (λ z. z.start) e, ap (λ z. z.end) e) in
          let start : w.start ≡ x.at = ap (λ z. z.start) e in
          let bytes : x.text ≡ take (w.end - w.start) (drop w.start s) = rw (size, start) lies.bytes in
          record {
            words = xs;
            spans = f;
            lie = λ y m. now.lie y (rw are (there m));
            whole =
                now.whole
                ∙ rw (are, gather-next, passed.seen, passed.ifs, passed.branch, kind)
                (put.joins s x _ e bytes);
            done = now.done + 1;
            within = more;
            statements = omega (arith, now.statements, put.more_statements);
            rows = omega (arith, now.rows, put.more_items);
            ifs = ifs-next;
            firsts = put.firsts;
            inside = put.inside (length s) ends.1 now.inside;
          }
