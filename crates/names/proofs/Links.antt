-- The chains. `link` leads to the last row of a slot that is first with its name (link-low, link-own, link-all).
--   Walk s items i next    what is known on the way along a chain, at the row next, when the first row with the name of row i is looked
--                          for: next is a first row of that slot, and no first row from there on has the name
-- A name found on the way is at a first row, so at the first with the name; at the chain's end no row before i has it.
-- Then one step of the arrays: the head of row i's slot is kept for a name that is known and set for a new one.
-- Assumes nothing.
use Prim.Native.Nat.{ℕ, zero, suc, ◌+◌, ◌≤◌, ◌<◌}
use native.Mathlib.Omega.{arith}
use native.Mathlib.Numerals.{add-one}
use mathlib.Core.Path.{◌≡◌, refl, sym, ap, ◌∙◌}
use mathlib.Core.Bool.{true, false, false≢true}
use mathlib.Core.List.{List}
use borrow.Author.Tests.{eq-eqb, ne_eqb}
use lib.Dec.{eqb}
use lib.ListN.{length, get_or, set, replicate, length-set, length-replicate, get_or-replicate}
use lib.Seq.{get_or-set_same, get_or-set_other}
use Rattle.std.specs.Prelude.{Option, Some, None}
use Rattle.meaning.specs.Plain.{same_bytes}
use Rattle.meaning.proofs.Lists.{bool_cases, same_bytes_lem}
use Rattle.names.specs.Names.{bytes_at, first_as, earlier_as}
use Rattle.names.specs.Chains.{slots, slot_of, slot_at, row_at, link, Heads, Nexts}
use Rattle.names.proofs.Bytes.{same-holds}
use Rattle.names.proofs.First.{below-cases, same_cases, first-bytes, first-least, first-same, first-first}

-- the link that leads to a row
abbrev pub link_to : Option ℕ → ℕ
link_to None = 0
link_to (Some j) = suc j

pub link_to-row : (o : Option ℕ) (x : ℕ) → o ≡ row_at x → link_to o ≡ x
link_to-row o zero e = rw e
link_to-row o (suc j) e = rw e

module _ (s items : List ℕ) where
  -- ---- the link past one row more
  link-new : (m h : ℕ) → first_as s items m ≡ m → slot_at s items m ≡ h → link s items (suc m) h ≡ suc m
  unfolding link
  link-new m h e q = rw (eq-eqb _ _ e, eq-eqb _ _ q)

  link-known : (m h : ℕ) → (first_as s items m ≡ m → ⊥) → link s items (suc m) h ≡ link s items m h
  unfolding link
  link-known m h n = rw (ne_eqb _ _ n)

  link-other : (m h : ℕ) → (slot_at s items m ≡ h → ⊥) → link s items (suc m) h ≡ link s items m h
  unfolding link
  link-other m h n = bool_cases (eqb (first_as s items m) m) (λ t. rw (t, ne_eqb _ _ n)) (λ t. rw t)

  -- the three ways that this can go
  link-cases : {P : Type 0} (m h : ℕ) → (first_as s items m ≡ m → slot_at s items m ≡ h → link s items (suc m) h ≡ suc m → P)
      → ((first_as s items m ≡ m → slot_at s items m ≡ h → ⊥) → link s items (suc m) h ≡ link s items m h → P) → P
  link-cases m h f g = same_cases (first_as s items m) m
      (λ e. same_cases (slot_at s items m) h (λ q. f e q (link-new m h e q)) (λ n. g (λ _ q. n q) (link-other m h n)))
      (λ n. g (λ e _. n e) (link-known m h n))

  -- ---- where it leads
  link-low : (m h : ℕ) → link s items m h ≤ m
  unfolding link
  link-low zero h = omega arith
  link-low (suc m) h = link-cases m h (λ e q l. omega arith) (λ n l. omega (arith, link-low m h))

  link-own : (m h j : ℕ) → link s items m h ≡ suc j → (first_as s items j ≡ j) × (slot_at s items j ≡ h)
  unfolding link
  link-own zero h j e = absurd (omega arith)
  link-own (suc m) h j e = link-cases m h
      (λ f q l. let k : m ≡ j = omega arith in (rw k at f, rw k at q))
      (λ n l. link-own m h j (sym l ∙ e))

  link-all : (m h k : ℕ) → k < m → first_as s items k ≡ k → slot_at s items k ≡ h → k < link s items m h
  link-all zero h k l f q = absurd (omega arith)
  link-all (suc m) h k l f q = link-cases m h (λ _ _ e. omega arith)
      (λ n e. same_cases k m (λ d. absurd (n (rw d at f) (rw d at q)))
      (λ d. rw e (link-all m h k (omega arith) f q)))

  -- ---- the walk
  pub record Walk (i : ℕ) (next : Option ℕ) : Type 0 where
    pub low : link_to next ≤ i
    pub own : (j : ℕ) → next ≡ Some j → (first_as s items j ≡ j) × (slot_at s items j ≡ slot_at s items i)
    pub none : (k : ℕ) → link_to next ≤ k → k < i → first_as s items k ≡ k → bytes_at s items k ≡ bytes_at s items i → ⊥

  -- next is the row of the link x
  module _ (i : ℕ) (next : Option ℕ) (x : ℕ) (e : next ≡ row_at x) where
    pub walk_start : x ≡ link s items i (slot_at s items i) → Walk i next
    walk_start q =
        let l = link_to-row next x e in
        record {
          low = omega (arith, link-low i (slot_at s items i));
          own = λ j p. link-own i (slot_at s items i) j (sym q ∙ sym l ∙ ap link_to p);
          none = λ k g h f b. omega (arith, link-all i (slot_at s items i) k h f (ap slot_of b));
        }

    -- a step from row j, whose name does not read as `word`, the name of row i
    pub walk_turn : (o : Option ℕ) (j : ℕ) → o ≡ Some j → Walk i o → (word : List ℕ) → word ≡ bytes_at s items i
        → same_bytes (bytes_at s items j) word ≡ false → x ≡ link s items j (slot_at s items j) → Walk i next
    walk_turn o j p w word r f q =
        let l = link_to-row next x e in
        let m = ap link_to p in
        let d = w.own j p in
        let n : bytes_at s items j ≡ bytes_at s items i → ⊥
        = λ b. false≢true (sym f ∙ same-holds (bytes_at s items j) word (b ∙ sym r)) in
        record {
          low = omega (arith, w.low, link-low j (slot_at s items j));
          own = λ k z. let g = link-own j (slot_at s items j) k (sym q ∙ sym l ∙ ap link_to z) in (g.0, g.1 ∙ d.1);
          none = λ k g h t b. same_cases k j (λ z. n (ap (bytes_at s items) (sym z) ∙ b))
              (λ z. below-cases k j
              (λ y. omega (arith, link-all j (slot_at s items j) k y t (ap slot_of b ∙ sym d.1)))
              (λ y. w.none k (omega arith) h t b));
        }

  pub walk-found : (i : ℕ) (next : Option ℕ) (j : ℕ) → next ≡ Some j → Walk i next → (word : List ℕ) → word ≡ bytes_at s items i
      → same_bytes (bytes_at s items j) word ≡ true → Some j ≡ earlier_as s items i
  walk-found i next j p w word r t =
      let e = sym (w.own j p).0 ∙ first-same s items j i (same_bytes_lem (bytes_at s items j) word t ∙ r) in
      let m = ap link_to p in
      let n : first_as s items i ≡ i → ⊥ = λ z. omega (arith, w.low) in
      rw (ne_eqb _ _ n) (ap (λ (k : ℕ). Some k) e)

  pub walk_none : (i : ℕ) (next : Option ℕ) → next ≡ None → Walk i next → None ≡ earlier_as s items i
  walk_none i next q w =
      let f = first-least s items i i refl in
      let m = ap link_to q in
      let e : first_as s items i ≡ i = same_cases (first_as s items i) i (λ e. e)
      (λ d. absurd (w.none (first_as s items i) (omega arith) (omega arith) (first-first s items i) (first-bytes s items i))) in
      rw (eq-eqb _ _ e)

  -- ---- a step of the arrays
  pub nexts-start : (nexts : List ℕ) → Nexts s items 0 nexts
  nexts-start nexts = record { at = λ j h. absurd (omega arith) }

  -- links only lead back
  pub nexts-fall : (m : ℕ) (nexts : List ℕ) (j : ℕ) → j < m → Nexts s items m nexts → get_or nexts j 0 ≤ j
  nexts-fall m nexts j h n = omega (arith, n.at j h, link-low j (slot_at s items j))

  pub heads-start : (heads : List ℕ) → heads ≡ replicate slots 0 → Heads s items 0 heads
  unfolding link
  heads-start heads e = record { size = ap length e ∙ length-replicate {A = ℕ} slots 0; at = λ h l. rw e (get_or-replicate slots h 0 0 l) }

  module _ (i : ℕ) (heads : List ℕ) (d : Heads s items i heads) where
    pub heads-kept : (first_as s items i ≡ i → ⊥) → Heads s items (i + 1) heads
    heads-kept n = record { size = d.size; at = λ h l. rw (add-one, link-known i h n) (d.at h l) }

    pub heads-hung : first_as s items i ≡ i → (h : ℕ) → h < slots → h ≡ slot_at s items i → Heads s items (i + 1) (set heads h (i + 1))
    heads-hung e h l q =
        let m : h < length heads = omega (arith, d.size) in
        record {
          size = length-set heads h (i + 1) ∙ d.size;
          at = λ k b. same_cases k h
              (λ g. rw (g, add-one, link-new i h e (sym q)) (get_or-set_same heads h (suc i) 0 m))
              (λ g. rw (add-one, link-other i k (λ o. g (sym o ∙ sym q))) (get_or-set_other heads h k (suc i) 0 g ∙ d.at k b));
        }
