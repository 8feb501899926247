-- What the sizes count bounds what the statements hold. A statement's share of a counter j is the number of its items that count for
-- j by its form and their position, and one where its form counts for j, or is `if` and j the ifs. Each word that adds to a share is
-- one that the reading counts (`pays`); so what is left of the limit bounds the shares still to come (`shares`).
-- Assumes nothing.
use mathlib.Core.Path.{◌≡◌, refl, sym, ◌∙◌}
use mathlib.Core.Bool.{Bool, true, false, ◌&&◌, ◌||◌, false≢true, and-false}
use mathlib.Core.List.{List}
use Prim.Native.Nat.{ℕ, ◌+◌, ◌-◌, ◌≤◌, ◌<◌}
use native.Mathlib.Omega.{arith}
use borrow.Author.Tests.{eqb-true, eqb-false, ne_eqb, leb-true, lt-ltb}
use lib.Dec.{eqb, leb}
use lib.ListN.{length, get_or, set, length-set}
use lib.Seq.{get_or-set_same, get_or-set_other}
use Rattle.std.specs.Prelude.{if◌then◌else◌}
use Rattle.meaning.specs.Plain.{keep}
use Rattle.meaning.specs.Words.{Word}
use Rattle.meaning.specs.Statements.{Seen, outside, in_e, of_e, step, Item, Statement, saying, says, item_of, ends, form_at, Gathered, p_first, p_second, p_third, p_class, p_test, p_types}
use Rattle.meaning.specs.Sizes.{limits, name_count, form_count, count_of, Counts, no_counts, counted, c_ifs, c_none}
use Rattle.meaning.specs.Keywords.{k_class, k_common, k_if}
use Rattle.meaning.proofs.Lists.{bool_cases, and_both, or_cases}
use Rattle.meaning.proofs.Lengths.{if-all, one_if, one-le, sum, keep-if, keep-le}
use Rattle.meaning.proofs.Steps.{active, active-starts, starts-ends, ends-silent, says-what, of_e-in, Form, none, own, perms, types, roles, form-keyword}
use Rattle.meaning.proofs.Passed.{Fine, Passed, done, begins, goes, tail-cases, form_of}

abbrev pub limit : ℕ → ℕ
limit j = get_or limits j 0

-- ---- what a word counts for
-- in an expression no word counts by its position
uncounted : (k p : ℕ) → p_test ≤ p → name_count k p ≡ c_none
unfolding name_count
uncounted k p h =
    rw (ne_eqb p p_first (λ z. omega arith), ne_eqb p p_third (λ z. omega arith), ne_eqb p p_class (λ z. omega arith)) (simp and-false)

-- `if` ends no statement that counts
abbrev Free : ℕ → Type 0
Free f = form_count f ≡ c_none

if-ends-none : (st : Seen) → Free (form_at st k_if)
unfolding form_at
if-ends-none st =
    if-all Free (eqb st.kw k_class)
    (λ c. if-all Free (eqb st.pos p_second && false)
    (λ d. absurd (false≢true (and_both (eqb st.pos p_second) false d).1)) (λ d. unfold form_count in refl))
    (λ c. if-all Free (eqb st.kw k_common || eqb st.kw k_if)
    (λ d. or_cases (eqb st.kw k_common) (eqb st.kw k_if) d (is k_common (unfold form_count in refl)) (is k_if (unfold form_count in refl)))
    (λ d. unfold form_count in refl)) where
      is : (m : ℕ) → Free m → eqb st.kw m ≡ true → Free st.kw
      is m h e = rw (eqb-true st.kw m e) h

says-uncounted : (st : Seen) (k : ℕ) → saying k ≡ false → says st k ≡ true → name_count st.kw st.pos ≡ c_none
says-uncounted st k y s =
    let i : in_e st ≡ true = or_cases (of_e st k) (saying k) (says-what st k s) (of_e-in st k) (λ e. absurd (false≢true (sym y ∙ e))) in
    uncounted st.kw st.pos (leb-true p_test st.pos (and_both (leb p_test st.pos) (leb st.pos p_types) i).0)

-- a word counts for j where it says something that does, ends a statement that does, or is `if`: never two of the three
module _ (j : ℕ) (some : j < c_none) where
  nothing : (b : Bool) (x : ℕ) → (b ≡ true → x ≡ c_none) → one_if (b && eqb x j) ≡ 0
  unfolding one_if
  nothing true x h = let e : x ≡ c_none = h refl in rw (ne_eqb x j (λ z. omega arith))
  nothing false x h = refl

  pays-by : (y i e s : Bool) (n f : ℕ) → (e ≡ true → y ≡ false) → (i ≡ true → y ≡ false)
      → (y ≡ false → s ≡ true → n ≡ c_none) → (i ≡ true → f ≡ c_none)
      → one_if (s && eqb n j) + one_if (e && eqb f j) + one_if (i && eqb c_ifs j)
      ≤ one_if (eqb (if y then n else if i then c_ifs else if e then f else c_none) j)
  unfolding one_if
  pays-by true true e s n f he hi hs hf = absurd (false≢true (sym (hi refl)))
  pays-by true false true s n f he hi hs hf = absurd (false≢true (sym (he refl)))
  pays-by true false false s n f he hi hs hf = let h = one-le (s && eqb n j) (eqb n j) (λ z. (and_both s (eqb n j) z).1) in omega arith
  pays-by false true e s n f he hi hs hf = let a = nothing s n (hs refl) in let b = nothing e f (λ z. hf refl) in omega arith
  pays-by false false true s n f he hi hs hf = let a = nothing s n (hs refl) in omega arith
  pays-by false false false s n f he hi hs hf = let a = nothing s n (hs refl) in omega arith

  pays : (st : Seen) (k : ℕ)
      → one_if (says st k && eqb (name_count st.kw st.pos) j) + one_if (ends st k && eqb (form_count (form_at st k)) j)
      + one_if (eqb k k_if && eqb c_ifs j) ≤ one_if (eqb (count_of st k) j)
  unfolding count_of
  pays st k =
      pays-by (saying k) (eqb k k_if) (ends st k) (says st k) (name_count st.kw st.pos) (form_count (form_at st k)) (ends-silent st k)
      (λ z. rw (eqb-true k k_if z)) (says-uncounted st k) (λ z. rw (eqb-true k k_if z) (if-ends-none st))

  -- a word adds one to the total that it counts for, and that stays within its limit
  one_more : (l : List ℕ) (n : ℕ) → j < length l → get_or (set l n (get_or l n 0 + 1)) j 0 ≡ get_or l j 0 + one_if (eqb n j)
  unfolding one_if
  one_more l n h =
      bool_cases (eqb n j) (λ e. rw (e, eqb-true n j e) (get_or-set_same l j (get_or l j 0 + 1) 0 h))
      (λ e. rw (e, get_or-set_other l n j (get_or l n 0 + 1) 0 (λ z. eqb-false n j e (sym z))) (omega arith))

  total-adds : (st : Seen) (k : ℕ) (c : Counts) → length c.totals ≡ 14
      → get_or (counted st k c).totals j 0 ≡ get_or c.totals j 0 + one_if (eqb (count_of st k) j)
  unfolding counted
  total-adds st k c l = one_more c.totals (count_of st k) (omega arith)

  total-fits : (st : Seen) (w : Word) (c : Counts) → length c.totals ≡ 14 → Fine st w (counted st w.kind c)
      → one_if (eqb (count_of st w.kind) j) ≤ limit j - get_or c.totals j 0
  total-fits st w c l f =
      let a = total-adds st w.kind c l in
      bool_cases (eqb (count_of st w.kind) j)
      (λ e. let t = (rw (eqb-true (count_of st w.kind) j e) at f.total) (lt-ltb j c_none some) in omega arith)
      (λ e. rw e (unfold one_if in omega arith))

-- ---- what a statement counts for: its items by their positions, and its form
unfoldable pub counts : ℕ → ℕ → Item → Bool
counts j k i = eqb (name_count k i.pos) j

-- what a statement of this form counts for as a whole, an `if` too
unfoldable pub whole_count : ℕ → ℕ
whole_count f = if eqb f k_if then c_ifs else form_count f

unfoldable pub share : ℕ → Statement → ℕ
share j s = length (keep (counts j s.form) s.items) + one_if (eqb (whole_count s.form) j)

module _ (j : ℕ) (some : j < c_none) where
  -- what counts by the form of a statement counts by its keyword
  form-counts : {k f : ℕ} → Form k f → (i : Item) → counts j f i ≡ true → counts j k i ≡ true
  unfolding counts name_count
  form-counts none i h = absurd (let z = eqb-true c_none j h in omega arith)
  form-counts own i h = h
  form-counts (perms e) i h = absurd (let z = eqb-true c_none j h in omega arith)
  form-counts (types e) i h = absurd (let z = eqb-true c_none j h in omega arith)
  form-counts (roles e) i h = absurd (let z = eqb-true c_none j h in omega arith)

  tail-le : (st : Seen) (k : ℕ) {c : Counts} {r : Gathered} → active k ≡ false → Passed (step st k) c r
      → length (keep (counts j st.kw) r.items) ≤ length (keep (counts j (step st k).kw) r.items)
  tail-le st k a p = tail-cases st k a p (λ e. rw e (omega arith)) (λ e. rw e (omega arith))

  form-le : (e : Bool) (f g : ℕ)
      → one_if (eqb (form_count (if e then f else g)) j) ≤ one_if (e && eqb (form_count f) j) + one_if (eqb (form_count g) j)
  form-le true f g = omega arith
  form-le false f g = omega arith

  whole_le : {k f : ℕ} → Form k f → one_if (eqb (whole_count f) j) ≤ one_if (eqb (form_count f) j) + one_if (eqb k k_if && eqb c_ifs j)
  unfolding whole_count
  whole_le {f = f} h =
      bool_cases (eqb f k_if) (λ e. rw (e, form-keyword h k_if refl (eqb-true f k_if e)) (omega arith)) (λ e. rw e (omega arith))

  shares : {st : Seen} {c : Counts} {g : Gathered} → Passed st c g → length c.totals ≡ 14
      → length (keep (counts j st.kw) g.items) + one_if (eqb (form_count g.form) j) + sum (share j) g.rest
      ≤ limit j - get_or c.totals j 0
  unfolding sum share counts item_of
  shares done l = let z = nothing j some true (form_count 0) (λ z. unfold form_count in refl) in omega arith
  shares {st} {c} (begins {r = r} w b a f p) l =
      let ih = shares p (unfold counted in simp length-set l) in
      let m = total-adds j some st w.kind c l in
      let n = total-fits j some st w c l f in
      let y = rw (starts-ends st w.kind (active-starts w.kind a)) at (pays j some st w.kind) in
      let x = keep-le (counts j r.form) (counts j w.kind) (form-counts (form_of p)) r.items in
      let z = whole_le (form_of p) in
      omega arith
  shares {st} {c} (goes {r = r} w a f p) l =
      let ih = shares p (unfold counted in simp length-set l) in
      let m = total-adds j some st w.kind c l in
      let n = total-fits j some st w c l f in
      let y = pays j some st w.kind in
      let t = tail-le st w.kind a p in
      let x = keep-if (counts j st.kw) (says st w.kind) (item_of st w) r.items in
      let z = form-le (ends st w.kind) (form_at st w.kind) r.form in
      omega arith

  -- in a text that fits the statements' shares come to no more than the limit
  pub shares-within : {g : Gathered} → Passed outside no_counts g → sum (share j) g.rest ≤ limit j
  shares-within p = let h = shares p (unfold no_counts in refl) in omega arith
