-- In a text of the grammar a statement stands outside ifs or in a branch of one of them: the number of its if is below the number of
-- ifs (`branch-below`). An if has the number of those begun before it; what comes behind it finds it ended, so that it is one of the
-- statements of its form; and no `else` comes before an if.
-- Assumes nothing.
use Prim.Native.Nat.{ℕ, suc, ◌+◌, ◌-◌, ◌≤◌, ◌<◌}
use native.Mathlib.Omega.{arith}
use mathlib.Core.Path.{◌≡◌, refl, sym, ◌∙◌}
use mathlib.Core.Bool.{Bool, true, false, not, ◌&&◌, ◌||◌, false≢true}
use mathlib.Core.List.{List, [], ◌∷◌}
use borrow.Author.Tests.{eqb-true}
use lib.Dec.{eqb}
use lib.ListN.{length}
use Rattle.std.specs.Prelude.{if◌then◌else◌}
use Rattle.meaning.specs.Keywords.{k_close, k_if, k_else}
use Rattle.meaning.specs.Words.{Word, words_of}
use Rattle.meaning.specs.Statements.{Seen, outside, step, Branch, always, when_true, when_false, Statement, statements_of, ends, form_at, branch_at, Gathered, gather, of_form, says}
use Rattle.meaning.proofs.Lists.{bool_cases, Among, here, there}
use Rattle.meaning.proofs.Reading.{kinds}
use Rattle.meaning.proofs.Steps.{active, active-starts, starts-ends, stays}
use Rattle.meaning.proofs.Seats.{begun_if, proper-is, Walks}
use Rattle.meaning.proofs.Shapes.{gathered, text-walks}
use Rattle.meaning.proofs.Accepted.{NoEarlier, statements_in}

-- the if of a branch is one of the first n
abbrev pub Below : ℕ → Branch → Type 0
Below n always = Unit {0}
Below n (when_true i) = i < n
Below n (when_false i) = i < n

below_more : (n m : ℕ) (b : Branch) → n ≤ m → Below n b → Below m b
below_more n m always h l = tt
below_more n m (when_true i) h l = omega arith
below_more n m (when_false i) h l = omega arith

abbrev counted : ℕ → ℕ → ℕ
counted n k = if eqb k k_if then n + 1 else n

begun-some : (f : Bool) (n k : ℕ) → (f ≡ true → 1 ≤ n) → begun_if f k ≡ true → 1 ≤ counted n k
begun-some f n k h = bool_cases (eqb k k_if) (λ e. rw e (λ z. omega arith)) (λ e. rw e h)

-- behind a word
branch-on : (f : Bool) (st : Seen) (n : ℕ) (b : Branch) (k : ℕ) → (f ≡ true → 1 ≤ n) → (not (eqb k k_else) || f) ≡ true
    → Below n b → Below (counted n k) (branch_at st n b k)
unfolding branch_at
branch-on f st n b k h p l = by (eqb k k_if) (eqb k k_else) (eqb k k_close && not st.inside) p
  where
    by : (i e c : Bool) → (not e || f) ≡ true
        → Below (if i then n + 1 else n) (if i then when_true n else if e then when_false (n - 1) else if c then always else b)
    by true e c p = omega arith
    by false true c p = let q = h p in omega arith
    by false false true p = tt
    by false false false p = l

-- ---- an if that a statement comes behind is ended
if-ended : (ws : List Word) (st : Seen) (n : ℕ) (b : Branch) → eqb st.kw k_if ≡ true
    → {x : Statement} → Among x (gather st n b ws).rest → eqb (gather st n b ws).form k_if ≡ true
unfolding gather
if-ended [] st n b e m = elim m [ ]
if-ended (w ∷ ws) st n b e m =
    by (active k) (ends st k) refl refl _
    (λ q m. if-ended ws (step st k) _ _ (rw (stays st k q) e) m) m
  where
    k : ℕ
    k = w.kind

    form-if : eqb (form_at st k) k_if ≡ true
    form-if = unfold form_at in rw (eqb-true st.kw k_if e, form_at)

    by : (c d : Bool) → active k ≡ c → ends st k ≡ d → (r : Gathered) {x : Statement}
        → (ends st k ≡ false → Among x r.rest → eqb r.form k_if ≡ true)
        → Among x (gathered c d (says st k) st w b r).rest → eqb (gathered c d (says st k) st w b r).form k_if ≡ true
    by true true o q r h m = form-if
    by false true o q r h m = form-if
    by true false o q r h m = absurd (false≢true (sym q ∙ starts-ends st k (active-starts k o)))
    by false false o q r h m = h q m

-- ---- the branches
ifs : List Statement → ℕ
ifs ss = length (of_form k_if ss)

ifs-more : (x : Statement) (ss : List Statement) → ifs ss ≤ ifs (x ∷ ss)
unfolding ifs of_form
ifs-more x ss = bool_cases (eqb x.form k_if) (λ e. rw e (omega arith)) (λ e. rw e (omega arith))

ifs-one : (x : Statement) (ss : List Statement) → eqb x.form k_if ≡ true → ifs (x ∷ ss) ≡ suc (ifs ss)
unfolding ifs of_form
ifs-one x ss e = rw e

branches : (ws : List Word) (f : Bool) (st : Seen) (n : ℕ) (b : Branch) → Walks f st (kinds ws) → (f ≡ true → 1 ≤ n) → Below n b
    → {x : Statement} → Among x (gather st n b ws).rest → Below (n + ifs (gather st n b ws).rest) x.branch
unfolding gather Walks
branches [] f st n b g h l m = elim m [ ]
branches (w ∷ ws) f st n b g h l m =
    by (active k) refl _
    (λ m. branches ws (begun_if f k) (step st k) (counted n k) (branch_at st n b k) g.1 (begun-some f n k h)
    (branch-on f st n b k h (proper-is _ k _ g.0).else-behind l) m)
    (λ q m. if-ended ws (step st k) _ _ (begun-if q) m) m
  where
    k : ℕ
    k = w.kind

    begun-if : eqb k k_if ≡ true → eqb (step st k).kw k_if ≡ true
    begun-if q = unfold step in rw (eqb-true k k_if q)

    by : (c : Bool) → active k ≡ c → (r : Gathered) {x : Statement}
        → (Among x r.rest → Below (counted n k + ifs r.rest) x.branch)
        → (eqb k k_if ≡ true → Among x r.rest → eqb r.form k_if ≡ true)
        → Among x (gathered c (ends st k) (says st k) st w b r).rest
        → Below (n + ifs (gathered c (ends st k) (says st k) st w b r).rest) x.branch
    by true o r i j (here e) = rw e (below_more n _ b (omega arith) l)
    by true o r {x = x} i j (there m) =
        let y : Statement = record { form = r.form; at = w.at; branch = b; items = r.items } in
        bool_cases (eqb k k_if)
        (λ q. below_more (n + 1 + ifs r.rest) _ x.branch (omega (arith, ifs-one y r.rest (j q m))) (rw q at (i m)))
        (λ q. below_more (n + ifs r.rest) _ x.branch (omega (arith, ifs-more y r.rest)) (rw q at (i m)))
    by false o r i j m =
        bool_cases (eqb k k_if) (λ q. absurd (false≢true (sym o ∙ rw (eqb-true k k_if q)))) (λ q. rw q at (i m))

-- The if of a statement's branch is one of the ifs.
pub branch-below : (s : List ℕ) → NoEarlier s → {x : Statement} → Among x (statements_in s)
    → Below (length (of_form k_if (statements_in s))) x.branch
unfolding statements_of ifs
branch-below s c {x = x} m =
    below_more (0 + ifs (statements_in s)) _ x.branch (omega arith)
    (branches (words_of s) false outside 0 always (text-walks s c) (λ e. absurd (false≢true e)) tt m)
