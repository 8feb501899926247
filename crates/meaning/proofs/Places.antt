-- Places rise along the words of a text, and so along its statements, their items and the declarations: each word begins behind the end
-- of the one before, and a statement's place and an item's are places of words, taken in order.
--   Rises place m l    the places of l rise strictly, from m on
-- Assumes nothing.
use mathlib.Core.Path.{◌≡◌, refl, sym, ap}
use mathlib.Core.Bool.{Bool, true, false, not, ◌&&◌, false≢true}
use mathlib.Core.List.{List, [], ◌∷◌, ◌++◌}
use Prim.Native.Nat.{ℕ, zero, suc, ◌+◌, ◌-◌, ◌≤◌, ◌<◌}
use native.Mathlib.Omega.{arith}
use lib.Dec.{eqb}
use lib.ListN.{length, take, drop}
use Rattle.std.specs.Prelude.{if◌then◌else◌}
use Rattle.meaning.specs.Plain.{within, keep, each, joined}
use Rattle.meaning.specs.Words.{Word, end_of, is_letter, scan_step, scan_to, stopped, between, word, mark_here, word_here, word_from, words_from, words_of}
use Rattle.meaning.specs.Statements.{Seen, step, Item, item_of, Branch, always, Statement, says, branch_at, ends, form_at, outside, Gathered, gather, statements_of}
use Rattle.meaning.specs.Names.{Decl, declares, decl_of, declared_by, d_type, d_bool}
use Rattle.meaning.specs.Sets.{Names}
use Rattle.meaning.specs.Rules.{rule_of, av_statements, rules_of}
use Rattle.meaning.specs.Keywords.{mark_of, k_bad, k_end, k_if, k_else, starts, is_av}
use Rattle.meaning.proofs.Lists.{Among, here, there, bool_cases}
use Rattle.meaning.proofs.Sorted.{Sorted, sorted-keep, sorted-each}

abbrev pub Rises : {A : Type 0} → (A → ℕ) → ℕ → List A → Type 0
Rises place m [] = Unit {0}
Rises place m (x ∷ l) = (m ≤ place x) × Rises place (place x + 1) l

module _ {A : Type 0} (place : A → ℕ) where
  rises-from : (m k : ℕ) (l : List A) → k ≤ m → Rises place m l → Rises place k l
  rises-from m k [] h r = tt
  rises-from m k (x ∷ l) h r = (let a : m ≤ place x = r.0 in omega arith, r.1)

  rises-right : (m : ℕ) (l k : List A) → Rises place m (l ++ k) → Rises place m k
  rises-right m [] k r = r
  rises-right m (x ∷ l) k r = let a : m ≤ place x = r.0 in rises-from (place x + 1) m k (omega arith) (rises-right (place x + 1) l k r.1)

  rises-behind : (m : ℕ) (l : List A) → Rises place m l → {x : A} → Among x l → m ≤ place x
  rises-behind m [] r k = elim k [ ]
  rises-behind m (y ∷ l) r (here e) = let a : m ≤ place y = r.0 in omega (arith, ap place e)
  rises-behind m (y ∷ l) r {x = x} (there k) =
      let a : m ≤ place y = r.0 in
      let b : place y + 1 ≤ place x = rises-behind (place y + 1) l r.1 k in
      omega arith

  pub rises_sorted : (m : ℕ) (l : List A) → Rises place m l → Sorted (λ x y. place x < place y) l
  rises_sorted m [] r = tt
  rises_sorted m (x ∷ l) r =
      (λ y k. let h : place x + 1 ≤ place y = rises-behind (place x + 1) l r.1 k in omega arith, rises_sorted (place x + 1) l r.1)

-- ---- words
abbrev word_place : Word → ℕ
word_place w = w.at

scan-on : (st p : ℕ) (s : List ℕ) → p ≤ scan_to st p s
unfolding scan_to
scan-on st p [] = omega arith
scan-on st p (b ∷ s) = step (eqb (scan_step st b) stopped) (scan-on (scan_step st b) (p + 1) s)
  where
    step : (t : Bool) → p + 1 ≤ scan_to (scan_step st b) (p + 1) s → p ≤ elim t [ true ↦ p | false ↦ scan_to (scan_step st b) (p + 1) s ]
    step true h = omega arith
    step false h = omega arith

-- a word stands at q and has a byte
record Begins (q : ℕ) (w : Word) : Type 0 where
  at : w.at ≡ q
  long : 1 ≤ length w.text

begins : {q k b : ℕ} {x : List ℕ} → Begins q (word k q (b ∷ x))
begins = record { at = refl; long = omega arith }

mark-begins : (q b : ℕ) (s : List ℕ) → Begins q (mark_here q b s)
unfolding mark_here
mark-begins q b s = bool_cases (eqb (mark_of (b ∷ take 1 s)) k_bad) (λ e. rw e begins) (λ e. rw e begins)

word-begins : (q : ℕ) (s : List ℕ) → eqb (word_here q s).kind k_end ≡ false → Begins q (word_here q s)
unfolding word_here
word-begins q [] e = absurd (false≢true (sym e))
word-begins q (b ∷ s) e = bool_cases (is_letter b) (λ e. rw e begins) (λ e. rw e (mark-begins q b s))

words_step : (p : ℕ) (w : Word) (ws : List Word) (b : Bool) → (b ≡ false → (p ≤ w.at) × Rises word_place (w.at + 1) ws)
    → Rises word_place p (elim b as (λ c. List Word) [ true ↦ [] | false ↦ w ∷ ws ])
words_step p w ws true f = tt
words_step p w ws false f = f refl

words-rise : (n p : ℕ) (s : List ℕ) → Rises word_place p (words_from n p s)
unfolding words_from word_from
words-rise zero p s = tt
words-rise (suc n) p s =
    let q = scan_to between p s in
    let w = word_here q (drop (q - p) s) in
    let l : p ≤ q = scan-on between p s in
    let ws = words_from n (end_of w) (drop (end_of w - p) s) in
    let r : Rises word_place (end_of w) ws = words-rise n (end_of w) (drop (end_of w - p) s) in
    words_step p w ws (eqb w.kind k_end)
    (λ e. let h = word-begins q (drop (q - p) s) e in (omega arith, rises-from word_place (end_of w) (w.at + 1) ws (omega arith) r))

-- ---- statements and items
abbrev statement_place : Statement → ℕ
statement_place st = st.at

abbrev item_place : Item → ℕ
item_place i = i.at

-- one step of `gather`: the word, at p, begins a statement (c) or is an item i of one (d), or neither
abbrev pub stepped : Bool → Bool → ℕ → ℕ → Branch → Item → Gathered → Gathered
stepped c d f p b i r =
    if c
    then record { items = []; form = f; rest = record { form = r.form; at = p; branch = b; items = r.items } ∷ r.rest }
    else record { items = if d then i ∷ r.items else r.items; form = f; rest = r.rest }

-- all items, in order
abbrev items_of : List Statement → List Item
items_of ss = joined (λ st. st.items) ss

abbrev items_in : Gathered → List Item
items_in g = g.items ++ items_of g.rest

step-statements : (c d : Bool) (f p m : ℕ) (b : Branch) (i : Item) (r : Gathered) → m ≤ p → Rises statement_place (p + 1) r.rest
    → Rises statement_place m (stepped c d f p b i r).rest
step-statements true d f p m b i r l h = (l, h)
step-statements false d f p m b i r l h = rises-from statement_place (p + 1) m r.rest (omega arith) h

step-items : (c d : Bool) (f p m : ℕ) (b : Branch) (i : Item) (r : Gathered) → m ≤ p → i.at ≡ p → Rises item_place (p + 1) (items_in r)
    → Rises item_place m (items_in (stepped c d f p b i r))
step-items true d f p m b i r l e h = rises-from item_place (p + 1) m (items_in r) (omega arith) h
step-items false true f p m b i r l e h = (omega arith, rises-from item_place (p + 1) (i.at + 1) (items_in r) (omega arith) h)
step-items false false f p m b i r l e h = rises-from item_place (p + 1) m (items_in r) (omega arith) h

gather-rises : (ws : List Word) (m : ℕ) (st : Seen) (n : ℕ) (b : Branch) → Rises word_place m ws
    → Rises statement_place m (gather st n b ws).rest × Rises item_place m (items_in (gather st n b ws))
unfolding gather item_of
gather-rises [] m st n b r = (tt, tt)
gather-rises (w ∷ ws) m st n b r =
    let k = w.kind in
    let g = gather (step st k) (if eqb k k_if then n + 1 else n) (branch_at st n b k) ws in
    let h = gather-rises ws (w.at + 1) (step st k) (if eqb k k_if then n + 1 else n) (branch_at st n b k) r.1 in
    let c = starts k && not (eqb k k_else) in
    let f = if ends st k then form_at st k else g.form in
    (step-statements c (says st k) f w.at m b (item_of st w) g r.0 h.0, step-items c (says st k) f w.at m b (item_of st w) g r.0 refl h.1)

text-rises : (s : List ℕ) → Rises statement_place 0 (statements_of (words_of s)) × Rises item_place 0 (items_of (statements_of (words_of s)))
unfolding statements_of words_of
text-rises s =
    let g = gather outside 0 always (words_from (length s) 0 s) in
    let h = gather-rises (words_from (length s) 0 s) 0 outside 0 always (words-rise (length s) 0 s) in
    (h.0, rises-right item_place 0 g.items (items_of g.rest) h.1)

-- The statements of a text stand in the order of their places.
pub statements-sorted : (s : List ℕ) → Sorted (λ x y. x.at < y.at) (statements_of (words_of s))
statements-sorted s = rises_sorted statement_place 0 (statements_of (words_of s)) (text-rises s).0

-- So do its rules.
pub rules-sorted : (n : Names) (s : List ℕ) → Sorted (λ a b. a.at < b.at) (rules_of n (statements_of (words_of s)))
unfolding rules_of av_statements rule_of
rules-sorted n s =
    let ss = statements_of (words_of s) in
    let R : Statement → Statement → Type 0 = λ x y. x.at < y.at in
    sorted-each R (λ a b. a.at < b.at) (rule_of n) (λ x y h. h) (av_statements ss) (sorted-keep R (λ st. is_av st.form) ss (statements-sorted s))

-- ---- declarations
abbrev decl_place : Decl → ℕ
decl_place d = d.at

decls-step : (st : Statement) (p : Item → Bool) (l : List Item) (k : List Item) (ds : List Decl) → ((m : ℕ) → Rises item_place m k → Rises decl_place m ds)
    → (m : ℕ) → Rises item_place m (l ++ k) → Rises decl_place m (each (decl_of st) (keep p l) ++ ds)
unfolding decl_of
decls-step st p [] k ds f m r = f m r
decls-step st p (i ∷ l) k ds f m r =
    let h : Rises decl_place (i.at + 1) (each (decl_of st) (keep p l) ++ ds) = decls-step st p l k ds f (i.at + 1) r.1 in
    let a : m ≤ i.at = r.0 in
    bool_cases (p i) (λ e. rw e (a, h)) (λ e. rw e (rises-from decl_place (i.at + 1) m (each (decl_of st) (keep p l) ++ ds) (omega arith) h))

decls-rise : (ss : List Statement) (m : ℕ) → Rises item_place m (items_of ss) → Rises decl_place m (joined declared_by ss)
unfolding declared_by
decls-rise [] m r = tt
decls-rise (st ∷ ss) m r = decls-step st (λ i. within d_type d_bool (declares st i)) st.items (items_of ss) (joined declared_by ss) (decls-rise ss) m r

-- So do its declarations, `object_r` apart.
pub declarations-sorted : (s : List ℕ) → Sorted (λ d e. d.at < e.at) (joined declared_by (statements_of (words_of s)))
declarations-sorted s =
    let ss = statements_of (words_of s) in
    rises_sorted decl_place 0 (joined declared_by ss) (decls-rise ss 0 (text-rises s).1)
