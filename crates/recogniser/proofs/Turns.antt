-- One word of the reading, w, the span of x. `read_from` is opened here only: at a word with which no text of the grammar begins it
-- comes to 3 (`taken-three`), at one that goes past a size to 7 (`taken-seven`), else it goes on behind the word (`taken-on`): what
-- `take` answers at its returns. The same of the definition, of any grammar and any counts: `read-three`, `read-seven`, `read-on`, and at
-- the end, where the grammar decides, `read_whole` and `read_short`. `forward` is what `take` asks of the word's span.
-- Assumes nothing.
use Prim.Native.Nat.{ℕ, ◌-◌, ◌≤◌}
use native.Mathlib.Omega.{arith}
use mathlib.Core.Path.{◌≡◌, sym, ◌∙◌, ap}
use mathlib.Core.Bool.{Bool, true, false}
use mathlib.Core.List.{List, [], ◌∷◌}
use lib.ListN.{length}
use Rattle.std.specs.Prelude.{Err}
use Rattle.meaning.specs.Words.{Word}
use Rattle.meaning.specs.Grammar.{G, none, left, is_none, nullable}
use Rattle.meaning.specs.Statements.{Seen, step}
use Rattle.meaning.specs.Sizes.{Counts, counted, exceeds, place_of, fits, ungrammatical, oversize, read_from}
use Rattle.words.specs.declared.Span.{Span}
use Rattle.words.specs.Spans.{span_of}
use Rattle.reading.proofs.Room.{room_next}
use Rattle.grammar.specs.States.{regex, Stepped}
use Rattle.grammar.specs.declared.State.{State}
use Rattle.recogniser.specs.declared.Reading.{Reading}
use Rattle.recogniser.specs.declared.Refusal.TheVariants.{NotGrammar, OverSize}
use Rattle.recogniser.specs.Refusal.{of_verdict}
use Rattle.recogniser.specs.Turn.{ahead, Gone}

-- ---- of the definition
module _ (end : ℕ) (g : G) (st : Seen) (c : Counts) (last : ℕ) where
  pub read_whole : nullable g ≡ true → read_from end g st c last [] ≡ fits
  unfolding read_from
  read_whole e = rw (e, read_from)

  pub read_short : nullable g ≡ false → read_from end g st c last [] ≡ ungrammatical end
  unfolding read_from
  read_short e = rw (e, read_from)

  module _ (w : Word) (ws : List Word) where
    pub read-three : is_none (left g w.kind) ≡ true → read_from end g st c last (w ∷ ws) ≡ ungrammatical w.at
    unfolding read_from
    read-three e = rw (e, read_from)

    pub read-seven : is_none (left g w.kind) ≡ false → exceeds st w (counted st w.kind c) ≡ true
        → read_from end g st c last (w ∷ ws) ≡ oversize (place_of st w last)
    unfolding read_from
    read-seven e h = rw (e, h, read_from)

    pub read-on : is_none (left g w.kind) ≡ false → exceeds st w (counted st w.kind c) ≡ false
        → read_from end g st c last (w ∷ ws) ≡ read_from end (left g w.kind) (step st w.kind) (counted st w.kind c) w.at ws
    unfolding read_from
    read-on e h = rw (e, h, read_from)

-- w is the span of the word x
module _ (w : Span) (x : Word) (e : w ≡ span_of x) where
  kind : x.kind ≡ w.kind
  unfolding span_of
  kind = sym (ap (λ y. y.kind) e)

  start : x.at ≡ w.start
  unfolding span_of
  start = sym (ap (λ y. y.start) e)

  size : length x.text ≡ w.end - w.start
  unfolding span_of
  size = omega (arith, ap (λ y. y.start) e, ap (λ y. y.end) e)

  pub forward : w.start ≤ w.end
  unfolding span_of
  forward = omega (arith, ap (λ y. y.start) e, ap (λ y. y.end) e)

module _ (t : Reading) (w : Span) (x : Word) (e : w ≡ span_of x) where
  pub taken-three : left (regex t.state.s t.state.depth) w.kind ≡ none
      → (end : ℕ) (ws : List Word) → Err (NotGrammar w.start) ≡ of_verdict (ahead end t (x ∷ ws))
  unfolding ahead of_verdict read_from is_none
  taken-three n end ws = rw (kind w x e, n, start w x e)

  -- something is left behind the word, c are the counts there, and b is what `exceeds` answers
  module _ (some : is_none (left (regex t.state.s t.state.depth) w.kind) ≡ false)
      (c : Counts) (h : c ≡ counted t.seen w.kind t.counts)
      (b : Bool) (a : (y : Word) → y.kind ≡ w.kind → length y.text ≡ w.end - w.start → b ≡ exceeds t.seen y c) where
    alive : is_none (left (regex t.state.s t.state.depth) x.kind) ≡ false
    alive = rw (kind w x e) some

    behind : c ≡ counted t.seen x.kind t.counts
    behind = rw (kind w x e) h

    past : exceeds t.seen x c ≡ b
    past = sym (a x (kind w x e) (size w x e))

    pub taken-seven : b ≡ true → (n : ℕ) → ((y : Word) → y.kind ≡ w.kind → y.at ≡ w.start → n ≡ place_of t.seen y t.last)
        → (end : ℕ) (ws : List Word) → Err (OverSize n) ≡ of_verdict (ahead end t (x ∷ ws))
    unfolding ahead of_verdict read_from
    taken-seven q n m end ws = rw (m x (kind w x e) (start w x e), alive, ← behind, past, q)

    pub taken-on : b ≡ false → (s : State) → Stepped t.state.s t.state.depth w.kind s.s s.depth
        → (st : Seen) → st ≡ step t.seen w.kind → Gone t x (record { state = s; seen = st; counts = c; last = w.start })
    unfolding ahead read_from
    taken-on q s p st f =
        record {
          same = λ end ws. rw (alive, ← behind, past, q, kind w x e, start w x e, f, p.goes);
          depth = p.depth;
          room = λ n m. room_next t.seen x m behind (past ∙ q);
        }
