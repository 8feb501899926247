-- A text that fits, as it is read: `Passed st c g` says that from the reading st and the counts c on each word is within the sizes,
-- and that g is gathered. It goes word by word: a word begins a statement (`begins`), or the statement goes on (`goes`).
-- From it: outside statements nothing is said, the form is one of the keyword's, and what holds of each statement that a
-- reading begins with holds of all.
-- Assumes nothing.
use mathlib.Core.Path.{◌≡◌, refl}
use mathlib.Core.Bool.{Bool, true, false, ◌&&◌, false≢true}
use mathlib.Core.List.{List, [], ◌∷◌}
use mathlib.Core.Logic.{⊎_elim}
use Prim.Native.Nat.{ℕ, ◌≤◌}
use borrow.Author.Tests.{ltb-false}
use lib.Dec.{eqb, ltb}
use lib.ListN.{length, get_or}
use Rattle.std.specs.Prelude.{if◌then◌else◌}
use Rattle.meaning.specs.Words.{Word}
use Rattle.meaning.specs.Grammar.{G, policy, left, is_none}
use Rattle.meaning.specs.Statements.{Seen, begun, outside, step, of_e, Branch, Statement, says, item_of, ends, form_at, Gathered, gather}
use Rattle.meaning.specs.Sizes.{limits, count_of, own_limit, Counts, no_counts, counted, exceeds, place_of, c_none, longest_name, nested_parentheses, Verdict, fits, ungrammatical, oversize, read_from, read_text}
use Rattle.meaning.specs.Keywords.{k_name, k_lparen}
use Rattle.meaning.proofs.Lists.{bool_cases, or-neither}
use Rattle.meaning.proofs.Lengths.{All, empty, more}
use Rattle.meaning.proofs.Steps.{active, active-starts, starts-ends, begin-step, stays, keyword-kept, quiet-on, says-quiet, Form, none, form-at}

-- ---- a text that fits, from some word on
-- what is gathered with one more word in front of r: it begins a statement in the branch b, or it begins none
abbrev pub made_of : ℕ → Branch → Gathered → Statement
made_of p b r = record { form = r.form; at = p; branch = b; items = r.items }

abbrev pub behind_first : Seen → Word → Branch → Gathered → Gathered
behind_first st w b r = record { items = []; form = form_at st w.kind; rest = made_of w.at b r ∷ r.rest }

abbrev pub behind_word : Seen → Word → Gathered → Gathered
behind_word st w r =
    record {
      items = if says st w.kind then item_of st w ∷ r.items else r.items;
      form = if ends st w.kind then form_at st w.kind else r.form;
      rest = r.rest;
    }

-- what `exceeds` leaves open, where c has the word counted
pub record Fine (st : Seen) (w : Word) (c : Counts) : Type 0 where
  pub name : eqb w.kind k_name ≡ true → length w.text ≤ longest_name
  pub total : ltb (count_of st w.kind) c_none ≡ true → get_or c.totals (count_of st w.kind) 0 ≤ get_or limits (count_of st w.kind) 0
  pub own : ltb 0 (own_limit st w.kind) ≡ true → c.own ≤ own_limit st w.kind

under : (b : Bool) (m n : ℕ) → (b && ltb m n) ≡ false → b ≡ true → n ≤ m
under true m n e h = ltb-false m n e
under false m n e h = absurd (false≢true h)

fine : (st : Seen) (w : Word) (c : Counts) → exceeds st w c ≡ false → Fine st w c
unfolding exceeds
fine st w c e =
    let d = or-neither _ (of_e st w.kind && eqb w.kind k_lparen && eqb st.depth nested_parentheses) e in
    let o = or-neither _ (ltb 0 (own_limit st w.kind) && ltb (own_limit st w.kind) c.own) d.0 in
    let t = or-neither (eqb w.kind k_name && ltb longest_name (length w.text)) _ o.0 in
    record { name = under _ _ _ t.0; total = under _ _ _ t.1; own = under _ _ _ o.1 }

pub data Passed : Seen → Counts → Gathered → Type 0 where
  done : {st : Seen} {c : Counts} → Passed st c (record { items = []; form = 0; rest = [] })
  begins : {st : Seen} {c : Counts} {r : Gathered} (w : Word) (b : Branch) → active w.kind ≡ true
      → Fine st w (counted st w.kind c) → Passed (begun w.kind) (counted st w.kind c) r → Passed st c (behind_first st w b r)
  goes : {st : Seen} {c : Counts} {r : Gathered} (w : Word) → active w.kind ≡ false
      → Fine st w (counted st w.kind c) → Passed (step st w.kind) (counted st w.kind c) r → Passed st c (behind_word st w r)

-- a turn of the reading that does not end it
turn : (none over : Bool) (p q : ℕ) (v : Verdict) → (if none then ungrammatical p else if over then oversize q else v) ≡ fits
    → (over ≡ false) × (v ≡ fits)
turn true over p q v e = absurd (false≢true (cc))
turn false true p q v e = absurd (false≢true (cc))
turn false false p q v e = (refl, e)

passed : (end : ℕ) (ws : List Word) (g : G) (st : Seen) (c : Counts) (last n : ℕ) (b : Branch) → read_from end g st c last ws ≡ fits
    → Passed st c (gather st n b ws)
unfolding gather read_from
passed end [] g st c last n b e = done
passed end (w ∷ ws) g st c last n b e =
    let t = turn (is_none (left g w.kind)) (exceeds st w (counted st w.kind c)) w.at (place_of st w last) _ e in
    next (active w.kind) refl (fine st w _ t.0) (passed end ws _ (step st w.kind) (counted st w.kind c) w.at _ _ t.1) where
      next : {r : Gathered} (a : Bool) → active w.kind ≡ a → Fine st w (counted st w.kind c)
          → Passed (step st w.kind) (counted st w.kind c) r
          → Passed st c (if a then record { items = []; form = (behind_word st w r).form; rest = made_of w.at b r ∷ r.rest } else behind_word st w r)
      next {r} true a x p =
          let s = active-starts w.kind a in
          rw (starts-ends st w.kind s) (begins w b a x (rw (begin-step st w.kind s) at p))
      next false a x p = goes w a x p

pub text-passed : (end : ℕ) (ws : List Word) → read_text end ws ≡ fits → Passed outside no_counts (gather outside 0 Branch.always ws)
unfolding read_text
text-passed end ws e = passed end ws policy outside no_counts 0 0 Branch.always e

-- ---- what is gathered
pub nothing_said : {st : Seen} {c : Counts} {g : Gathered} → Passed st c g → active st.kw ≡ false → g.items ≡ []
nothing_said done h = refl
nothing_said (begins w b a x p) h = refl
nothing_said {st} (goes w a x p) h = rw (says-quiet st w.kind h) (nothing_said p (quiet-on st w.kind a h))

-- the items behind a word that begins nothing are of the same statement, or there are none
pub tail-cases : {P : Type 0} (st : Seen) (k : ℕ) {c : Counts} {r : Gathered} → active k ≡ false → Passed (step st k) c r
    → ((step st k).kw ≡ st.kw → P) → (r.items ≡ [] → P) → P
tail-cases st k a p f g = ⊎_elim f (λ e. g (nothing_said p e)) (keyword-kept st k a)

pub form_of : {st : Seen} {c : Counts} {g : Gathered} → Passed st c g → Form st.kw g.form
form_of done = none
form_of {st} (begins w b a x p) = form-at st w.kind
form_of {st} (goes {r = r} w a x p) =
    let f : Form (step st w.kind).kw r.form = form_of p in
    bool_cases (ends st w.kind) (λ e. rw e (form-at st w.kind)) (λ e. rw e (rw (stays st w.kind e) at f))

-- a statement begins with nothing counted of its own
pub statements-all : {st : Seen} {c : Counts} {g : Gathered} (S : Statement → Type 0)
    → ((k p : ℕ) (b : Branch) (c : Counts) (r : Gathered) → active k ≡ true → c.own ≡ 0 → Passed (begun k) c r → S (made_of p b r))
    → Passed st c g → All S g.rest
statements-all S f done = empty
statements-all {st} {c} S f (begins {r = r} w b a x p) =
    more (f w.kind w.at b (counted st w.kind c) r a (unfold counted in rw (active-starts w.kind a)) p) (statements-all S f p)
statements-all S f (goes w a x p) = statements-all S f p
