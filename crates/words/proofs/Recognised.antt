-- How a keyword is recognised: what the table holds at each place, that each keyword's own slot leads to it, and so that bytes
-- which are not the keyword to which their slot leads are no keyword at all.
-- Assumes nothing.
use Prim.Native.Nat.{ℕ, suc, ◌+◌, ◌-◌, ◌*◌, ◌/◌, ◌%◌, ◌≤◌, ◌<◌}
use Prim.Native.String.{String}
use native.Mathlib.Omega.{arith}
use mathlib.Core.Path.{◌≡◌, refl, sym, ◌∙◌, ap}
use mathlib.Core.Bool.{Bool, true, false}
use mathlib.Core.List.{List, [], ◌∷◌}
use borrow.Author.Tests.{eq-eqb, ne_eqb, lt-ltb, le-ltb, ltb-true}
use lib.Dec.{eqb, ltb, leb, eqb→eq, leb→le, ltb→lt}
use lib.ListN.{length, take, drop, get_or, length-drop}
use lib.Seq.{length-take-le}
use Rattle.std.specs.Prelude.{Some, None, if◌then◌else◌}
use Rattle.std.specs.Bool.{then_some}
use Rattle.std.proofs.lemmas.Grind.{same_number_lists, get_or_default_zero}
use Rattle.std.proofs.lemmas.List.{get_or-take, get_or-drop}
use Rattle.meaning.specs.Plain.{same_bytes}
use Rattle.meaning.proofs.Lists.{same_bytes_lem}
use Rattle.meaning.specs.Keywords.{bytes, keywords, kind_from, kind_of, k_name, k_class}
use Rattle.words.specs.Keys.{slots, key_count, key_width, bytes_at, table_size, blank, keyword, slot_of, key_entry, key_table, candidate}
use Rattle.words.proofs.Counted.{each_at, every-at}

pub slot-below : (w : List ℕ) → slot_of w < slots
unfolding slot_of
slot-below w = omega arith

-- ---- what the table holds
table_at : (keys : List ℕ) → keys ≡ key_table → (i : ℕ) → i < table_size → get_or keys i 0 ≡ key_entry i
unfolding key_table
table_at keys e i h = rw e (each_at key_entry table_size i h)

pub table-size : length key_table ≡ table_size
unfolding key_table key_entry keyword slot_of keywords bytes
table-size = refl

-- ---- computed at each keyword
key-slot : (k : ℕ) → k < key_count → key_entry (slot_of (keyword k)) ≡ k
unfolding key_entry keyword slot_of keywords bytes
key-slot k h = eqb→eq _ _ (every-at (λ i. eqb (key_entry (slot_of (keyword i))) i) key_count tt k h)

key-kind : (k : ℕ) → k < key_count → kind_of (keyword k) ≡ k_class + k
unfolding kind_of kind_from keyword keywords bytes
key-kind k h = eqb→eq _ _ (every-at (λ i. eqb (kind_of (keyword i)) (k_class + i)) key_count tt k h)

pub key_fits : (k : ℕ) → k < key_count → length (keyword k) ≤ key_width
unfolding keyword keywords bytes
key_fits k h = leb→le _ _ (every-at (λ i. leb (length (keyword i)) key_width) key_count tt k h)

key-some : (k : ℕ) → k < key_count → 0 < length (keyword k)
unfolding keyword keywords bytes
key-some k h = ltb→lt _ _ (every-at (λ i. ltb 0 (length (keyword i))) key_count tt k h)

-- ---- the kind of the bytes w
none : (o k : ℕ) (ss : List String) (w : List ℕ) → ((j : ℕ) → j < length ss → same_bytes (bytes (get_or ss j "")) w ≡ false)
    → kind_from o k ss w ≡ o
unfolding kind_from
none o k [] w f = refl
none o k (s ∷ ss) w f = rw (f 0 (omega arith), kind_from) (none o (k + 1) ss w (λ j h. f (suc j) (omega arith)))

count : length keywords ≡ key_count
unfolding keywords
count = refl

-- ---- the table's parts
module _ (keys : List ℕ) (e : keys ≡ key_table) (k : ℕ) (h : k < key_count) where
  pub table-length : get_or keys (slots + k) 0 ≡ length (keyword k)
  unfolding key_entry
  table-length =
      let sum : slots + k - slots ≡ k = omega arith in
      table_at keys e (slots + k) (omega arith) ∙ rw (le-ltb (slots + k) slots (omega arith), lt-ltb (slots + k) bytes_at (omega arith), sum)

  table-byte : (j : ℕ) → j < key_width → get_or keys (bytes_at + key_width * k + j) 0 ≡ get_or (keyword k) j blank
  unfolding key_entry
  table-byte j l =
      let i = bytes_at + key_width * k + j in
      let row : (i - bytes_at) / key_width ≡ k = omega arith in
      let column : (i - bytes_at) % key_width ≡ j = omega arith in
      table_at keys e i (omega arith) ∙ rw (le-ltb i slots (omega arith), le-ltb i bytes_at (omega arith), row, column)

  -- its keyword's bytes stand there, from the row's beginning on
  pub table-keyword : take (length (keyword k)) (drop (bytes_at + key_width * k) keys) ≡ keyword k
  table-keyword =
      let w = keyword k in
      let f = key_fits k h in
      let size : bytes_at + key_width * k + length w ≤ length keys = rw e (omega (arith, table-size)) in
      let same = length-take-le (length w) (drop (bytes_at + key_width * k) keys) (omega (arith, length-drop (bytes_at + key_width * k) keys)) in
      same_number_lists (take (length w) (drop (bytes_at + key_width * k) keys)) w same
      (λ j l.
      let q : j < length w = omega (arith, same) in
      get_or-take (length w) (drop (bytes_at + key_width * k) keys) j 0 q ∙ get_or-drop (bytes_at + key_width * k) keys j 0
      ∙ table-byte j (omega arith) ∙ get_or_default_zero w j blank q)

-- ---- the one keyword that the bytes w can be
module _ (w : List ℕ) where
  pub candidate-below : (k : ℕ) → Some k ≡ candidate w → k < key_count
  unfolding candidate
  candidate-below k e = by (eqb (length w) 0) (ltb (key_entry (slot_of w)) key_count) refl e
    where
      by : (t u : Bool) → ltb (key_entry (slot_of w)) key_count ≡ u
          → Some k ≡ (if t then None else if u then Some (key_entry (slot_of w)) else None) → k < key_count
      by true u q e = absurd (cc e)
      by false false q e = absurd (cc e)
      by false true q e =
          let same : k ≡ key_entry (slot_of w) = cc e in
          omega (arith, ltb-true (key_entry (slot_of w)) key_count q)

  pub candidate-none : length w ≡ 0 → None ≡ candidate w
  unfolding candidate
  candidate-none e = rw (eq-eqb _ _ e) refl

  -- what the table keys holds in its slot
  pub candidate-is : (keys : List ℕ) → keys ≡ key_table → (slot : ℕ) → slot ≡ slot_of w → eqb (length w) 0 ≡ false
      → then_some (ltb (get_or keys slot 0) key_count) (get_or keys slot 0) ≡ candidate w
  unfolding candidate
  candidate-is keys e slot f n =
      let k : get_or keys slot 0 ≡ key_entry (slot_of w) = table_at keys e slot (omega (arith, slot-below w)) ∙ ap key_entry f in
      rw (n, k) (by (ltb (key_entry (slot_of w)) key_count))
    where
      by : (t : Bool) → then_some t (key_entry (slot_of w)) ≡ (if t then Some (key_entry (slot_of w)) else None)
      by true = refl
      by false = refl

key-candidate : (k : ℕ) → k < key_count → candidate (keyword k) ≡ Some k
unfolding candidate
key-candidate k h =
    let some : eqb (length (keyword k)) 0 ≡ false = ne_eqb _ _ (λ e. omega (arith, key-some k h)) in
    rw (some, key-slot k h, lt-ltb k key_count h)

pub kind-found : (w : List ℕ) (k : ℕ) → k < key_count → same_bytes (keyword k) w ≡ true → kind_of w ≡ k_class + k
kind-found w k h e = ap kind_of (sym (same_bytes_lem (keyword k) w e)) ∙ key-kind k h

pub kind-other : (w : List ℕ) → ((k : ℕ) → Some k ≡ candidate w → same_bytes (keyword k) w ≡ false) → kind_of w ≡ k_name
unfolding kind_of keyword
kind-other w n = none k_name k_class keywords w (λ j h. go j (omega (arith, count)) (same_bytes (keyword j) w) refl)
  where
    go : (j : ℕ) → j < key_count → (t : Bool) → same_bytes (keyword j) w ≡ t → same_bytes (keyword j) w ≡ false
    go j h true q = n j (sym (key-candidate j h) ∙ ap candidate (same_bytes_lem (keyword j) w q))
    go j h false q = q
