-- Items and statements by the numbers that they are read from.
--
--   items-same                   where the rows below n have the same items, the items among them are the same
--   items-none, items_more       no item, and one item more
--   stmt-same                    where the row has the same four numbers and its items are the same, the statement is
--   behind-inner, behind-last    where a statement's items end: at the next one's first, or behind all
--   behind-within                both are among the n items
-- Assumes nothing.
use Prim.Native.Nat.{ℕ, suc, ◌+◌, ◌-◌, ◌≤◌, ◌<◌}
use native.Mathlib.Omega.{arith}
use native.Mathlib.Nat.{sub_self}
use mathlib.Core.Path.{◌≡◌, refl, ◌∙◌}
use mathlib.Core.Bool.{Bool, true, false}
use mathlib.Core.List.{List, [], ◌∷◌, ◌++◌}
use borrow.Author.Tests.{lt-ltb, le-ltb, ltb-true}
use lib.Dec.{ltb}
use Rattle.std.specs.Prelude.{if◌then◌else◌}
use Rattle.listing.specs.Listed.{entry, item_at, items_from, behind_items, stmt_at}
use Rattle.listing.specs.Joined.{Firsts}
use Rattle.listing.proofs.Numbers.{each_same, each_last}

module _ (s items items' : List ℕ) (n : ℕ) (e : (i : ℕ) → i < n → item_at s items i ≡ item_at s items' i) where
  pub items-same : (a z : ℕ) → a ≤ n → z ≤ n → items_from s items a z ≡ items_from s items' a z
  unfolding items_from
  items-same a z p q = each_same (item_at s items) (item_at s items') a (z - a) (λ i h. e i (omega arith))

pub items-none : (s items : List ℕ) (n : ℕ) → items_from s items n n ≡ []
unfolding items_from
items-none s items n = rw sub_self

pub items_more : (s items : List ℕ) (a n : ℕ) → a ≤ n → items_from s items a (n + 1) ≡ items_from s items a n ++ (item_at s items n ∷ [])
unfolding items_from
items_more s items a n h =
    let count : n + 1 - a ≡ suc (n - a) = omega arith in
    let last : a + (n - a) ≡ n = omega arith in
    rw count (each_last (item_at s items) a (n - a) ∙ rw last)

-- row j of two arrays has the same four numbers, and its items are the same
module _ (s items items' l l' : List ℕ) (m m' n n' j : ℕ) where
  pub stmt-same : (((q : ℕ) → q < 4 → entry l' j q ≡ entry l j q))
      → items_from s items' (entry l j 3) (behind_items l' m' n' j) ≡ items_from s items (entry l j 3) (behind_items l m n j)
      → stmt_at s items' l' m' n' j ≡ stmt_at s items l m n j
  unfolding stmt_at
  stmt-same e f = rw (e 0 (omega arith), e 1 (omega arith), e 2 (omega arith), e 3 (omega arith), f)

pub behind-inner : (l : List ℕ) (m n j : ℕ) → j + 1 < m → behind_items l m n j ≡ entry l (j + 1) 3
unfolding behind_items
behind-inner l m n j h = rw (lt-ltb _ _ h)

pub behind-last : (l : List ℕ) (m n j : ℕ) → m ≤ j + 1 → behind_items l m n j ≡ n
unfolding behind_items
behind-last l m n j h = rw (le-ltb _ _ h)

pub behind-within : (l : List ℕ) (m n j : ℕ) → j < m → Firsts l m n → behind_items l m n j ≤ n
unfolding behind_items
behind-within l m n j h firsts = go (ltb (j + 1) m) refl
  where
    go : (t : Bool) → ltb (j + 1) m ≡ t → (if t then entry l (j + 1) 3 else n) ≤ n
    go true e = firsts.first (j + 1) (ltb-true (j + 1) m e)
    go false e = omega arith
