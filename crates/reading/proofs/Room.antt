-- What `count` asks of the counts, and that a loop over the words keeps it:
--
--   count-below  every word counts for one of the 14 totals
--   room-none    there is room at the start
--   room_next    a word raises no total by more than one; if it goes past no size, the statement's own count stays within 40
--   room_most    room for n is room for more
-- Assumes nothing.
use Prim.Native.Nat.{ℕ, ◌+◌, ◌≤◌, ◌<◌}
use native.Mathlib.Omega.{arith}
use Rattle.std.proofs.lemmas.Grind.{common_steps}
use mathlib.Core.Path.{◌≡◌}
use mathlib.Core.Bool.{Bool, true, false, ◌&&◌}
use mathlib.Core.List.{List}
use lib.Dec.{eqb, ltb, lit<}
use lib.ListN.{get_or, set, replicate}
use Rattle.std.specs.Prelude.{if◌then◌else◌}
use Rattle.meaning.specs.Words.{Word}
use Rattle.meaning.specs.Keywords.{starts}
use Rattle.meaning.specs.Statements.{Seen}
use Rattle.meaning.specs.Sizes.{Counts, no_counts, name_count, form_count, count_of, own_limit, counted, exceeds, expression_words}
use Rattle.reading.specs.Counts.{Room}

-- ---- numbers of a definition by cases
either-below : (b : Bool) (x y n : ℕ) → x < n → y < n → (if b then x else y) < n
either-below true x y n p q = p
either-below false x y n p q = q

name_below : (k p : ℕ) → name_count k p < 14
unfolding name_count
name_below k p = search (either-below, lit<, tt) depth 16

form-below : (f : ℕ) → form_count f < 14
unfolding form_count
form-below f = search (either-below, lit<, tt) depth 16

pub count-below : (st : Seen) (k : ℕ) → count_of st k < 14
unfolding count_of
count-below st k = search (either-below, name_below, form-below, lit<, tt) depth 16

-- ---- the totals
one_more : (l : List ℕ) (j i : ℕ) → get_or (set l j (get_or l j 0 + 1)) i 0 ≤ get_or l i 0 + 1
one_more l j i = grind (arith, common_steps)

zeros : (n i : ℕ) → get_or (replicate n 0) i 0 ≤ 0
zeros n i = grind (arith, common_steps)

-- ---- the statement's own count: o before the word
limit-below : (st : Seen) (k : ℕ) → own_limit st k < expression_words + 1
unfolding own_limit
limit-below st k = grind (arith, common_steps)

own-within : (st : Seen) (w : Word) (c : Counts) → exceeds st w c ≡ false
    → (ltb 0 (own_limit st w.kind) && ltb (own_limit st w.kind) c.own) ≡ false
unfolding exceeds
own-within st w c h = grind (arith, common_steps)

own-kept : (b : Bool) (l o : ℕ) → l < expression_words + 1 → o ≤ expression_words
    → (ltb 0 l && ltb l (if b then 0 else if eqb l 0 then o else o + 1)) ≡ false
    → (if b then 0 else if eqb l 0 then o else o + 1) ≤ expression_words
own-kept b l o p q h = grind (arith, common_steps)

-- ---- room
pub room-none : Room 0 no_counts
unfolding no_counts
room-none = record { totals = zeros 14; own = omega arith }

pub room_most : {n m : ℕ} {c : Counts} → Room n c → n ≤ m → Room m c
room_most r h = record { totals = λ i. omega (arith, r.totals i); own = r.own }

-- c' are the counts behind the word
pub room_next : {n : ℕ} {c c' : Counts} (st : Seen) (w : Word) → Room n c → c' ≡ counted st w.kind c
    → exceeds st w c' ≡ false → Room (n + 1) c'
unfolding counted
room_next {c = c} st w r e h =
    rw e
    (record {
      totals = λ i. omega (arith, one_more c.totals (count_of st w.kind) i, r.totals i);
      own =
          own-kept (starts w.kind) (own_limit st w.kind) c.own (limit-below st w.kind) r.own
          (own-within st w _ (rw e at h));
    })
