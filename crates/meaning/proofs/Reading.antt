-- Where the reading of a text (`read_text` of Sizes) stops, said by the texts of the grammar:
--
--   refusal-3      3 stands at the first word with which no text of the grammar begins, or at the end of a text that is not whole
--   fits-is        a text that is refused with neither 3 nor 7 is one of the grammar; fits-sized: no word of it goes past a size
--   three-first    up to the word that goes past a size, and with it, the words begin a text of the grammar: 7 hides no 3
--
-- In both refusals no word before goes past a size (`sized`): 3 hides no 7, and 7 is given for the first word that does.
-- One induction over the words (`reading`) says where the reading stops and what is left of the grammar there; Viable says what that
-- means for texts.
-- Assumes nothing.
use Prim.Native.Nat.{ℕ}
use mathlib.Core.Path.{◌≡◌, refl, sym, ◌∙◌, ap}
use mathlib.Core.Bool.{Bool, true, false, not, ◌&&◌, false≢true}
use mathlib.Core.List.{List, [], ◌∷◌, ◌++◌, append-nil}
use Rattle.std.specs.Prelude.{if◌then◌else◌}
use Rattle.meaning.specs.Plain.{each}
use Rattle.meaning.specs.Words.{Word}
use Rattle.meaning.specs.Grammar.{G, policy, In, nullable, is_none, left}
use Rattle.meaning.specs.Statements.{Seen, outside, step}
use Rattle.meaning.specs.Sizes.{Counts, no_counts, counted, exceeds, place_of, Verdict, fits, ungrammatical, oversize, read_from, read_text}
use Rattle.meaning.proofs.Lists.{both-and}
use Rattle.meaning.proofs.Viable.{lefts, begins, stops, whole_in, whole_out}

abbrev pub kinds : List Word → List ℕ
kinds ws = each (λ w. w.kind) ws

-- some text of the grammar begins with these words
abbrev pub Begins : List Word → Type 0
Begins ws = (v : List ℕ) × In policy (kinds ws ++ v)

-- ---- what the reading has come to behind some words: in the statement, in the counts, the last word's place
unfoldable pub seen_by : Seen → List Word → Seen
seen_by st [] = st
seen_by st (w ∷ ws) = seen_by (step st w.kind) ws

unfoldable pub counts_by : Seen → Counts → List Word → Counts
counts_by st c [] = c
counts_by st c (w ∷ ws) = counts_by (step st w.kind) (counted st w.kind c) ws

unfoldable pub last_by : ℕ → List Word → ℕ
last_by p [] = p
last_by p (w ∷ ws) = last_by w.at ws

-- no word goes past a size
unfoldable pub sized : Seen → Counts → List Word → Bool
sized st c [] = true
sized st c (w ∷ ws) = not (exceeds st w (counted st w.kind c)) && sized (step st w.kind) (counted st w.kind c) ws

-- ---- the reading stops before the words that are given last
data Stop (end : ℕ) (g : G) (st : Seen) (c : Counts) (last : ℕ) : Verdict → List Word → Type 0 where
  whole : nullable g ≡ true → Stop end g st c last fits []
  short : nullable g ≡ false → Stop end g st c last (ungrammatical end) []
  wrong : {w : Word} {ws : List Word} → is_none (left g w.kind) ≡ true → Stop end g st c last (ungrammatical w.at) (w ∷ ws)
  large : {w : Word} {ws : List Word} → is_none (left g w.kind) ≡ false → exceeds st w (counted st w.kind c) ≡ true
      → Stop end g st c last (oversize (place_of st w last)) (w ∷ ws)

record Reading (end : ℕ) (g : G) (st : Seen) (c : Counts) (last : ℕ) (r : Verdict) (ws : List Word) : Type 0 where
  before : List Word
  behind : List Word
  all : ws ≡ before ++ behind
  some : is_none (lefts g (kinds before)) ≡ false
  small : sized st c before ≡ true
  stop : Stop end (lefts g (kinds before)) (seen_by st before) (counts_by st c before) (last_by last before) r behind

reading : (ws : List Word) (end last : ℕ) (g : G) (st : Seen) (c : Counts) → is_none g ≡ false
    → Reading end g st c last (read_from end g st c last ws) ws
unfolding read_from lefts sized seen_by counts_by last_by
reading [] end last g st c n = record { before = []; behind = []; all = refl; some = n; small = refl; stop = by (nullable g) refl }
  where
    by : (b : Bool) → nullable g ≡ b → Stop end g st c last (if b then fits else ungrammatical end) []
    by true e = whole e
    by false e = short e
reading (w ∷ ws) end last g st c n =
    by (is_none (left g k)) (exceeds st w (counted st k c)) refl refl (λ h. reading ws end w.at (left g k) (step st k) (counted st k c) h)
  where
    k : ℕ
    k = w.kind

    r : Verdict
    r = read_from end (left g k) (step st k) (counted st k c) w.at ws

    here : (v : Verdict) → Stop end g st c last v (w ∷ ws) → Reading end g st c last v (w ∷ ws)
    here v s = record { before = []; behind = w ∷ ws; all = refl; some = n; small = refl; stop = s }

    by : (m x : Bool) → is_none (left g k) ≡ m → exceeds st w (counted st k c) ≡ x
        → (is_none (left g k) ≡ false → Reading end (left g k) (step st k) (counted st k c) w.at r ws)
        → Reading end g st c last (if m then ungrammatical w.at else if x then oversize (place_of st w last) else r) (w ∷ ws)
    by true x e f t = here _ (wrong e)
    by false true e f t = here _ (large e f)
    by false false e f t =
        let s = t e in
        record {
          before = w ∷ s.before;
          behind = s.behind;
          all = ap (w ∷◌) s.all;
          some = s.some;
          small = both-and (not (exceeds st w (counted st k c))) _ (ap not f) s.small;
          stop = s.stop;
        }

read-text : (end : ℕ) (ws : List Word) (r : Verdict) → read_text end ws ≡ r → Reading end policy outside no_counts 0 r ws
unfolding read_text is_none
read-text end ws r e = rw e at (reading ws end 0 policy outside no_counts refl)

-- behind the words `before` of a text
abbrev StopBehind : List Word → ℕ → Verdict → List Word → Type 0
StopBehind before end r behind =
    Stop end (lefts policy (kinds before)) (seen_by outside before) (counts_by outside no_counts before) (last_by 0 before) r behind

lefts-on : (g : G) (ws : List Word) (w : Word) → lefts g (kinds (ws ++ (w ∷ []))) ≡ left (lefts g (kinds ws)) w.kind
unfolding lefts
lefts-on g [] w = refl
lefts-on g (x ∷ ws) w = lefts-on (left g x.kind) ws w

-- ---- refusal 3
-- what stands at the place p: the word with which no text begins any more, or the end, where the words are no whole text
pub data Misfit (end p : ℕ) (before : List Word) : List Word → Type 0 where
  at-word : {w : Word} {ws : List Word} → p ≡ w.at → (Begins (before ++ (w ∷ [])) → ⊥) → Misfit end p before (w ∷ ws)
  at-end : p ≡ end → (In policy (kinds before) → ⊥) → Misfit end p before []

pub record NoText (end p : ℕ) (ws : List Word) : Type 0 where
  pub before : List Word
  pub behind : List Word
  pub all : ws ≡ before ++ behind
  pub begun : Begins before
  pub small : sized outside no_counts before ≡ true
  pub here : Misfit end p before behind

misfit : {end p : ℕ} {before behind : List Word} → StopBehind before end (ungrammatical p) behind → Misfit end p before behind
misfit {before = before} (short n) = at-end refl (λ h. false≢true (sym n ∙ whole_out policy (kinds before) h))
misfit {before = before} (wrong {w = w} n) =
    at-word refl (λ h. stops (kinds (before ++ (w ∷ []))) (ap is_none (lefts-on policy before w) ∙ n) h.0 h.1)

-- A text that is refused with 3 at p: the words before p begin a text of the grammar, and with the word at p none does any more; or p
-- is the end of the text, and its words are no whole text of the grammar. No word before p goes past a size.
pub refusal-3 : (end p : ℕ) (ws : List Word) → read_text end ws ≡ ungrammatical p → NoText end p ws
refusal-3 end p ws e =
    let t = read-text end ws (ungrammatical p) e in
    record {
      before = t.before;
      behind = t.behind;
      all = t.all;
      begun = begins (kinds t.before) t.some;
      small = t.small;
      here = misfit t.stop;
    }

-- ---- no refusal
-- the reading has come to the end
all_read : {end : ℕ} {g : G} {st : Seen} {c : Counts} {last : ℕ} {behind : List Word}
    → Stop end g st c last fits behind → (nullable g ≡ true) × (behind ≡ [])
all_read (whole n) = (n, refl)

-- A text that is refused with neither 3 nor 7 is one of the grammar;
pub fits-is : (end : ℕ) (ws : List Word) → read_text end ws ≡ fits → In policy (kinds ws)
fits-is end ws e =
    let t = read-text end ws fits e in
    rw (t.all, (all_read t.stop).1, append-nil) (whole_in policy (kinds t.before) (all_read t.stop).0)

-- and no word of it goes past a size.
pub fits-sized : (end : ℕ) (ws : List Word) → read_text end ws ≡ fits → sized outside no_counts ws ≡ true
fits-sized end ws e = let t = read-text end ws fits e in rw (t.all, (all_read t.stop).1, append-nil) t.small

-- ---- refusal 7
pub record Exceeded (p : ℕ) (ws : List Word) : Type 0 where
  pub before : List Word
  pub word : Word
  pub behind : List Word
  pub all : ws ≡ before ++ (word ∷ behind)
  pub some : is_none (lefts policy (kinds (before ++ (word ∷ [])))) ≡ false
  pub begun : Begins (before ++ (word ∷ []))
  pub small : sized outside no_counts before ≡ true
  pub over : exceeds (seen_by outside before) word (counted (seen_by outside before) word.kind (counts_by outside no_counts before)) ≡ true
  pub place : p ≡ place_of (seen_by outside before) word (last_by 0 before)

exceeded : {end : ℕ} (before : List Word) {p : ℕ} {behind : List Word} → sized outside no_counts before ≡ true
    → StopBehind before end (oversize p) behind → Exceeded p (before ++ behind)
exceeded before s (large {w = w} {ws = ws} n f) =
    let m : is_none (lefts policy (kinds (before ++ (w ∷ [])))) ≡ false = ap is_none (lefts-on policy before w) ∙ n in
    record {
      before = before;
      word = w;
      behind = ws;
      all = refl;
      some = m;
      begun = begins (kinds (before ++ (w ∷ []))) m;
      small = s;
      over = f;
      place = refl;
    }

-- A text that is refused with 7: up to the word that goes past a size, and with it, the words begin a text of the grammar. No word
-- before goes past a size.
pub three-first : (end p : ℕ) (ws : List Word) → read_text end ws ≡ oversize p → Exceeded p ws
three-first end p ws e = let t = read-text end ws (oversize p) e in rw t.all (exceeded t.before t.small t.stop)
