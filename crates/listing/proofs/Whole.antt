-- What is written and what is to come, put together, stays the same when a row is put in. The rows before a row that is put in, and
-- the items before an item, keep what they say; so each law looks at the open statement alone.
--
--   form-put       the form of the open statement, where it was not known
--   form-known     the form to come does not count where it is known
--   item-put       an item of the open statement
--   stmt-put       the open statement is closed and the next one begins
--   all-put        nothing is to come
-- Assumes nothing.
use Prim.Native.Nat.{ℕ, zero, suc, ◌+◌, ◌*◌, ◌<◌}
use native.Mathlib.Omega.{arith}
use native.Mathlib.Numerals.{add-one}
use native.Mathlib.Nat.{add-zero, zero-add, mod-eq_of_lt}
use mathlib.Core.Path.{◌≡◌, refl, sym, ◌∙◌, ap, ap₂}
use mathlib.Core.Bool.{Bool, true, false, false≢true}
use mathlib.Core.List.{List, [], ◌∷◌, ◌++◌, append-nil, append_assoc}
use borrow.Author.Tests.{ltb-true, ltb-false}
use lib.Dec.{ltb}
use lib.ListN.{length, get_or, set}
use lib.Seq.{get_or-set_same, get_or-set_other}
use Rattle.std.specs.Prelude.{if◌then◌else◌}
use Rattle.meaning.specs.Plain.{each, up_to}
use Rattle.meaning.specs.Statements.{Item, Branch, Statement, Gathered}
use Rattle.listing.specs.Branches.{branch_number, branch-number}
use Rattle.listing.specs.Listed.{entry, item_at, items_from, behind_items, stmt_at, listed}
use Rattle.listing.specs.Joined.{completed, joined_with, Firsts}
use Rattle.listing.specs.Answers.{RowPut}
use Rattle.listing.proofs.Numbers.{each_same, each_last}
use Rattle.listing.proofs.Entries.{items-same, items-none, items_more, stmt-same, behind-inner, behind-last}

abbrev pub gathered : List Item → ℕ → List Statement → Gathered
gathered is f rest = record { items = is; form = f; rest = rest }

-- ---- the form of the open statement
module _ (l : List ℕ) (m f : ℕ) where
  form-other : (p : ℕ) → (p ≡ 4 * m → ⊥) → get_or (set l (4 * m) f) p 0 ≡ get_or l p 0
  form-other p h = get_or-set_other l (4 * m) p f 0 h

  -- no first item is changed
  pub form-firsts : (j : ℕ) → entry (set l (4 * m) f) j 3 ≡ entry l j 3
  form-firsts j = form-other (4 * j + 3) (λ e. omega arith)

  form-behind : (n j : ℕ) → behind_items (set l (4 * m) f) (suc m) n j ≡ behind_items l (suc m) n j
  unfolding behind_items
  form-behind n j = rw (form-firsts (j + 1))

  module _ (s items : List ℕ) (n : ℕ) where
    form-row : (j : ℕ) → j < m → stmt_at s items (set l (4 * m) f) (suc m) n j ≡ stmt_at s items l (suc m) n j
    form-row j h =
        stmt-same s items items l (set l (4 * m) f) (suc m) (suc m) n n j (λ q g. form-other (4 * j + q) (λ e. omega arith))
        (ap (items_from s items (entry l j 3)) (form-behind n j))

    module _ (fits : 4 * m < length l) (byte : f < 256) (g : Gathered) (e : g.form ≡ f) where
      form-last : completed (stmt_at s items l (suc m) n m) false g ≡ completed (stmt_at s items (set l (4 * m) f) (suc m) n m) true g
      unfolding completed stmt_at
      form-last =
          let zeroth : entry (set l (4 * m) f) m 0 ≡ f = rw (add-zero (4 * m)) (get_or-set_same l (4 * m) f 0 fits) in
          rw (
            zeroth,
            mod-eq_of_lt byte,
            form-other (4 * m + 1) (λ e. omega arith),
            form-other (4 * m + 2) (λ e. omega arith),
            form-firsts m,
            form-behind n m,
            e,
          )

      pub form-put : joined_with s items l (suc m) n false g ≡ joined_with s items (set l (4 * m) f) (suc m) n true g
      unfolding joined_with
      form-put =
          ap₂ (λ xs x. xs ++ x ∷ g.rest)
          (sym (each_same (stmt_at s items (set l (4 * m) f) (suc m) n) (stmt_at s items l (suc m) n) 0 m (λ j h. form-row j (omega arith))))
          form-last

-- where it is known, the form to come does not count
pub form-known : (s items l : List ℕ) (m n : ℕ) (known e : Bool) (is : List Item) (f h : ℕ) (rest : List Statement) → (e ≡ true → known ≡ true)
    → joined_with s items l m n known (gathered is (if e then f else h) rest) ≡ joined_with s items l m n known (gathered is h rest)
unfolding joined_with completed
form-known s items l m n known false is f h rest k = refl
form-known s items l zero n known true is f h rest k = refl
form-known s items l (suc m) n true true is f h rest k = refl
form-known s items l (suc m) n false true is f h rest k = absurd (false≢true (k refl))

-- ---- an item
module _ (s items items' l : List ℕ) (n a b c d : ℕ) (put : RowPut items items' n a b c d) where
  item-before : (i : ℕ) → i < n → item_at s items i ≡ item_at s items' i
  unfolding item_at
  item-before i h =
      rw (
        put.before (4 * i + 0) (omega arith),
        put.before (4 * i + 1) (omega arith),
        put.before (4 * i + 2) (omega arith),
        put.before (4 * i + 3) (omega arith),
      )

  module _ (m : ℕ) (firsts : Firsts l (suc m) n) where
    item-row : (j : ℕ) → j < m → stmt_at s items' l (suc m) (n + 1) j ≡ stmt_at s items l (suc m) n j
    item-row j h =
        stmt-same s items items' l l (suc m) (suc m) n (n + 1) j (λ q g. refl)
        (rw (behind-inner l (suc m) (n + 1) j (omega arith), behind-inner l (suc m) n j (omega arith))
        (sym (items-same s items items' n item-before _ _ (firsts.first j (omega arith)) (firsts.first (j + 1) (omega arith)))))

    module _ (known : Bool) (is : List Item) (f : ℕ) (rest : List Statement) where
      item-last : completed (stmt_at s items l (suc m) n m) known (gathered (item_at s items' n ∷ is) f rest)
          ≡ completed (stmt_at s items' l (suc m) (n + 1) m) known (gathered is f rest)
      unfolding completed stmt_at
      item-last =
          let some = firsts.first m (omega arith) in
          rw (
            behind-last l (suc m) n m (omega arith),
            behind-last l (suc m) (n + 1) m (omega arith),
            items_more s items' (entry l m 3) n some,
            items-same s items items' n item-before (entry l m 3) n some (omega arith),
            append_assoc,
          )

      item-open : joined_with s items l (suc m) n known (gathered (item_at s items' n ∷ is) f rest)
          ≡ joined_with s items' l (suc m) (n + 1) known (gathered is f rest)
      unfolding joined_with
      item-open =
          ap₂ (λ xs x. xs ++ x ∷ rest)
          (sym (each_same (stmt_at s items' l (suc m) (n + 1)) (stmt_at s items l (suc m) n) 0 m (λ j h. item-row j (omega arith))))
          item-last

  pub item-put : (m : ℕ) → Firsts l m n → (known : Bool) (x : Item) (is : List Item) (f : ℕ) (rest : List Statement) → x ≡ item_at s items' n
      → joined_with s items l m n known (gathered (x ∷ is) f rest) ≡ joined_with s items' l m (n + 1) known (gathered is f rest)
  unfolding joined_with
  item-put zero firsts known x is f rest e = refl
  item-put (suc m) firsts known x is f rest e = rw e (item-open m firsts known is f rest)

-- ---- all statements are closed
complete : (x : Statement) (f : ℕ) (rest : List Statement) → completed x true (gathered [] f rest) ≡ x
unfolding completed
complete x f rest = rw append-nil

closed : (s items l : List ℕ) (m n f : ℕ) (rest : List Statement) → joined_with s items l m n true (gathered [] f rest) ≡ listed s items l m n ++ rest
unfolding joined_with listed
closed s items l zero n f rest = refl
closed s items l (suc m) n f rest =
    let at = stmt_at s items l (suc m) n in
    let all : each at (up_to (suc m)) ≡ each at (up_to m) ++ (at m ∷ []) = each_last at 0 m ∙ ap (λ i. each at (up_to m) ++ (at i ∷ [])) (zero-add m) in
    rw (complete (at m) f rest) (sym (append_assoc (each at (up_to m)) (at m ∷ []) rest) ∙ ap (λ xs. xs ++ rest) (sym all))

pub all-put : (s items l : List ℕ) (m n f : ℕ) → joined_with s items l m n true (gathered [] f []) ≡ listed s items l m n
all-put s items l m n f = closed s items l m n f [] ∙ append-nil _

-- ---- a statement that begins
module _ (s items l l' : List ℕ) (m n at : ℕ) (b : Branch) (put : RowPut l l' m 0 at (branch_number b) n) where
  stmt-behind : (j : ℕ) → j < m → behind_items l' (suc m) n j ≡ behind_items l m n j
  stmt-behind j h = behind-inner l' (suc m) n j (omega arith) ∙ go (ltb (j + 1) m) refl
    where
      go : (t : Bool) → ltb (j + 1) m ≡ t → entry l' (j + 1) 3 ≡ behind_items l m n j
      go true e =
          let inner = ltb-true (j + 1) m e in
          put.before (4 * (j + 1) + 3) (omega arith) ∙ sym (behind-inner l m n j inner)
      go false e =
          let last : j + 1 ≡ m = omega (arith, ltb-false (j + 1) m e) in
          rw last put.third ∙ sym (behind-last l m n j (omega arith))

  stmt-before : (j : ℕ) → j < m → stmt_at s items l' (suc m) n j ≡ stmt_at s items l m n j
  stmt-before j h =
      stmt-same s items items l l' m (suc m) n n j (λ q g. put.before (4 * j + q) (omega arith))
      (ap (items_from s items (entry l j 3)) (stmt-behind j h))

  stmt-last : (g : Gathered) → completed (stmt_at s items l' (suc m) n m) false g
      ≡ record { form = g.form; at = at; branch = b; items = g.items }
  unfolding completed stmt_at
  stmt-last g = rw (put.first, put.second, branch-number, put.third, behind-last l' (suc m) n m (omega arith), items-none s items n)

  pub stmt-put : (g : Gathered) (f : ℕ)
      → joined_with s items l m n true (gathered [] f (record { form = g.form; at = at; branch = b; items = g.items } ∷ g.rest))
      ≡ joined_with s items l' (m + 1) n false g
  unfolding joined_with listed
  stmt-put g f =
      closed s items l m n f _
      ∙ rw add-one
      (ap₂ (λ xs x. xs ++ x ∷ g.rest)
      (sym (each_same (stmt_at s items l' (suc m) n) (stmt_at s items l m n) 0 m (λ j h. stmt-before j (omega arith))))
      (sym (stmt-last g)))
