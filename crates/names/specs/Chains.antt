-- How the names are kept while their numbers are given: each name that is the first of its kind hangs in the chain of its slot.
--
--   slot_of w             the slot of the word w; words that read the same have one slot
--   slot_at s items i     the slot of the name of row i
--   row_at x              the row to which the link x leads; none at 0
--   link s items m h     the last of the first m rows that has the slot h and is the first with its name, plus 1; 0 where none is
--   Heads, Nexts         what the two arrays hold when m rows are done: heads at each slot the link to its chain's last row; nexts at each
--                        row the link to the one before it in its slot
use Rattle.std.specs.Prelude.{ℕ, zero, suc, ◌+◌, ◌*◌, ◌%◌, ◌<◌, ◌≡◌, ◌&&◌, List, [], ◌∷◌, Option, Some, None, eqb, length, get_or, if◌then◌else◌}
use Rattle.names.specs.Names.{bytes_at, first_as}

abbrev pub slots : ℕ
slots = 1024

-- names that differ in a digit or two get slots of their own
abbrev pub factor : ℕ
factor = 37

unfoldable pub slot_from : ℕ → List ℕ → ℕ
slot_from h [] = h
slot_from h (x ∷ xs) = slot_from ((h * factor + x) % slots) xs

abbrev pub slot_of : List ℕ → ℕ
slot_of w = slot_from 0 w

abbrev pub slot_at : List ℕ → List ℕ → ℕ → ℕ
slot_at s items i = slot_of (bytes_at s items i)

-- a link is one more than the row to which it leads, and 0 leads to none
abbrev pub row_at : ℕ → Option ℕ
row_at zero = None
row_at (suc j) = Some j

unfoldable pub link : List ℕ → List ℕ → ℕ → ℕ → ℕ
link s items zero h = 0
link s items (suc m) h = let r = link s items m h in if eqb (first_as s items m) m && eqb (slot_at s items m) h then suc m else r

pub record Heads (s items : List ℕ) (m : ℕ) (heads : List ℕ) : Type 0 where
  pub size : length heads ≡ slots
  pub at : (h : ℕ) → h < slots → get_or heads h 0 ≡ link s items m h

pub record Nexts (s items : List ℕ) (m : ℕ) (nexts : List ℕ) : Type 0 where
  pub at : (j : ℕ) → j < m → get_or nexts j 0 ≡ link s items j (slot_at s items j)
