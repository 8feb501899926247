-- The entries of the table one by one: each has a place in it (`edge-place`), and laid into zeros they make it (`laid-all`), since
-- a walk over the places from the first to the last meets all of them.
-- Assumes nothing.
use Prim.Native.Nat.{ℕ, zero, suc, ◌+◌, ◌%◌, ◌<◌}
use native.Mathlib.Numerals.{add-one}
use mathlib.Core.Path.{◌≡◌, refl, sym, ap}
use mathlib.Core.Bool.{Bool, true, false, false≢true}
use mathlib.Core.List.{List, [], ◌∷◌, ◌++◌, append_assoc}
use borrow.Author.Tests.{eqb-true, ltb-true}
use lib.Dec.{eqb, ltb}
use lib.ListN.{length, get_or, set, drop, replicate, length-append}
use lib.Seq.{drop-cons, set_at}
use Rattle.std.specs.Prelude.{if◌then◌else◌}
use Rattle.grammar.specs.Table.{edge_count, table_size, rows}
use Rattle.grammar.specs.States.{edges_of, edges, place_of, entries, next_table, laid}
use Rattle.grammar.proofs.Entries.{at}

-- ---- laid into zeros
-- a walk over n places from p on meets all of the entries
all_met : ℕ → ℕ → List ℕ → Bool
all_met p zero [] = true
all_met p zero (e ∷ es) = false
all_met p (suc n) [] = true
all_met p (suc n) (e ∷ es) = all_met (p + 1) n (if eqb (place_of e) p then es else e ∷ es)

entries_none : (p n : ℕ) → entries p n [] ≡ replicate n 0
unfolding entries
entries_none p zero = refl
entries_none p (suc n) = ap (0 ∷◌) (entries_none (p + 1) n)

-- from place p on, `pre` being the entries before it, they are laid as the walk meets them
Lays : ℕ → ℕ → Type 0
Lays p n = (pre es : List ℕ) → length pre ≡ p → all_met p n es ≡ true → laid es (pre ++ replicate n 0) ≡ pre ++ entries p n es

module _ (p n : ℕ) (pre : List ℕ) (len : length pre ≡ p) (further : Lays (p + 1) n) where
  past : (x : ℕ) (es : List ℕ) → all_met (p + 1) n es ≡ true → laid es (pre ++ x ∷ replicate n 0) ≡ pre ++ x ∷ entries (p + 1) n es
  unfolding Lays
  past x es met =
      rw (← append_assoc pre (x ∷ []) (replicate n 0), ← append_assoc pre (x ∷ []) (entries (p + 1) n es))
      (further (pre ++ x ∷ []) es (rw (length-append pre (x ∷ []), len)) met)

  -- at p an entry is laid where the walk meets one, else 0 stays
  turn : (e : ℕ) (es : List ℕ) (b : Bool) → eqb (place_of e) p ≡ b → all_met (p + 1) n (if b then es else e ∷ es) ≡ true
      → laid (e ∷ es) (pre ++ 0 ∷ replicate n 0)
      ≡ pre ++ (if b then e % 256 else 0) ∷ entries (p + 1) n (if b then es else e ∷ es)
  unfolding laid
  turn e es true here met =
      rw (eqb-true (place_of e) p here, set_at pre 0 (replicate n 0) (e % 256) p len) (past (e % 256) es met)
  turn e es false here met = past 0 (e ∷ es) met

lays : (n p : ℕ) → Lays p n
unfolding Lays laid entries all_met
lays zero p pre [] len met = refl
lays zero p pre (e ∷ es) len met = absurd (false≢true met)
lays (suc n) p pre [] len met = ap (λ z. pre ++ 0 ∷ z) (sym (entries_none (p + 1) n))
lays (suc n) p pre (e ∷ es) len met = turn p n pre len (lays n (p + 1)) e es (eqb (place_of e) p) refl met

pub laid-all : laid edges (replicate table_size 0) ≡ next_table
unfolding Lays all_met edges edges_of rows next_table
laid-all = lays table_size 0 [] edges refl refl

-- ---- one after the other
edges-length : length edges ≡ edge_count
unfolding edges edges_of rows
edges-length = refl

pub none_left : drop edge_count edges ≡ []
unfolding edges edges_of rows
none_left = refl

module _ (l : List ℕ) (same : l ≡ edges) (i : ℕ) (h : i < edge_count) where
  pub edge-place : place_of (get_or l i 0) < table_size
  unfolding edges edges_of rows
  edge-place = rw same (ltb-true _ _ (at (λ _ e. ltb (place_of e) table_size) 0 edges refl i (rw edges-length h)))

  pub laid_next : (t : List ℕ)
      → laid (drop i edges) t ≡ laid (drop (i + 1) edges) (set t (place_of (get_or l i 0)) (get_or l i 0 % 256))
  unfolding laid
  laid_next t = rw (same, add-one i, drop-cons edges i 0 (rw edges-length h))
