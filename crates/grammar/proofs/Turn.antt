-- One turn of the recogniser, as `step` takes it: for each of its returns the law that what is left there is what the grammar leaves
-- behind the word. Within parentheses the word goes by what is left up to the closing one (Fill); an opening one fills the hole with
-- what the expression around it still wants, and the closing one leaves just what fills it.
-- Assumes nothing.
use Prim.Native.Nat.{ℕ, suc, ◌+◌, ◌-◌, ◌≤◌, ◌<◌}
use native.Mathlib.Omega.{arith}
use native.Mathlib.Numerals.{add-one}
use mathlib.Core.Path.{◌≡◌, refl, sym, ◌∙◌, ap}
use mathlib.Core.Bool.{true, false, ◌||◌}
use mathlib.Core.Logic.{◌⊎◌, ⊎_elim}
use borrow.Author.Tests.{leb-true, eqb-true, ne_eqb}
use lib.Dec.{eqb, leb}
use Rattle.meaning.specs.Keywords.{k_lparen}
use Rattle.meaning.specs.Grammar.{none, is_none, left}
use Rattle.meaning.proofs.Opened.{opened}
use Rattle.meaning.proofs.Viable.{lefts}
use Rattle.meaning.proofs.Lists.{and_both, or_cases}
use Rattle.grammar.specs.Table.{state_count, kind_count, last_inside, had, rows}
use Rattle.grammar.specs.States.{fill, way_from, grown, states, left_at, next, after, regex, Stepped}
use Rattle.grammar.proofs.Fill.{fill-fill, left-fill, left-beyond}
use Rattle.grammar.proofs.Rows.{known_at, guarded-at, next_small, stays, left-outside, left_open, open_stays, left_in_lem, in-stays, left-close, close-leads}
use Rattle.grammar.proofs.Laws.{regex-in, regex-out, by_side, live, alive}

dead : left_at 0 ≡ none
unfolding opened lefts left_at rows way_from grown states
dead = refl

regex-dead : (d : ℕ) → regex 0 d ≡ none
unfolding fill
regex-dead d = regex-in 0 d (omega arith) ∙ ap (fill (after (had 0) d)) dead

-- within parentheses a word goes by what is left up to the closing one
left-within : (s d k : ℕ) → s ≤ last_inside → left (regex s d) k ≡ fill (after (had s) d) (left (left_at s) k)
left-within s d k i = rw (regex-in s d i) (left-fill (after (had s) d) (live s d i) (left_at s) k (guarded-at s i))

-- where it stays inside, the same follows
stays-regex : (s x d : ℕ) → stays s x ≡ true → fill (after (had s) d) (left_at x) ≡ regex x d
unfolding stays fill
stays-regex s x d t =
    let p = and_both (leb x last_inside) (eqb x 0 || eqb (had x) (had s)) t in
    or_cases (eqb x 0) (eqb (had x) (had s)) p.1
    (λ z. rw (eqb-true x 0 z) (ap (fill (after (had s) d)) dead ∙ sym (regex-dead d)))
    (λ e. rw (← eqb-true (had x) (had s) e) (sym (regex-in x d (leb-true x last_inside p.0))))

-- no word has so high a kind
pub step-beyond : (s d k : ℕ) → s < state_count → kind_count ≤ k → left (regex s d) k ≡ none
unfolding fill
step-beyond s d k h b =
    by_side _ s (λ i. left-within s d k i ∙ ap (fill (after (had s) d)) (left-beyond k b (left_at s) (known_at s h)))
    (λ o. rw (regex-out s d o) (left-beyond k b (left_at s) (known_at s h)))

-- a state behind which something is left
pub leads : {s d k s' d' : ℕ} → Stepped s d k s' d' → (s' ≡ 0 → ⊥) → Stepped s d k s' d' × (is_none (regex s' d') ≡ false)
leads {s' = s'} {d' = d'} p z = (p, alive s' d' p.state ∙ ne_eqb s' 0 z)

-- by the table's entry n
module _ (s k n : ℕ) (is : n ≡ next s k) (hs : s < state_count) (hk : k < kind_count) where
  pub entry_small : n < state_count
  entry_small = rw is (next_small s k hs hk)

  module _ (d : ℕ) where
    to-entry : (d' : ℕ) → d' ≤ d + 1 → left (regex s d) k ≡ regex (next s k) d' → Stepped s d k n d'
    to-entry d' h g = record { goes = rw is g; state = entry_small; depth = h }

    pub step-outside : last_inside < s → Stepped s d k n 0
    step-outside o = to-entry 0 (omega arith) (rw (regex-out s d o) (left-outside s k hk o hs))

    module _ (i : s ≤ last_inside) where
      pub step-open : k ≡ k_lparen → Stepped s d k n (d + 1)
      unfolding after
      step-open e =
          to-entry (d + 1) (omega arith)
          (left-within s d k i ∙ ap (fill (after (had s) d)) (left_open s k hk i e)
          ∙ fill-fill (after (had s) d) (left_at (had s)) (left_at (next s k))
          ∙ rw (add-one d) (stays-regex s (next s k) (suc d) (open_stays s k hk i e)))

      module _ (e : k ≡ k_lparen → ⊥) where
        step_in : n ≤ last_inside → Stepped s d k n d
        step_in h =
            let l : next s k ≤ last_inside = rw is at h in
            to-entry d (omega arith)
            (left-within s d k i ∙ ap (fill (after (had s) d)) (left_in_lem s k hk i e l)
            ∙ stays-regex s (next s k) d (in-stays s k hk i e l))

        module _ (h : last_inside < n) where
          out : last_inside < next s k
          out = rw is at h

          behind : had s ≡ s
          behind = sym (close-leads s k hk i e out).0

          not-dead : s ≡ 0 → ⊥
          unfolding had
          not-dead z = let two : had 0 ≡ 0 = rw z at behind in omega arith

          closed : left (regex s d) k ≡ after (had s) d
          unfolding fill
          closed = left-within s d k i ∙ ap (fill (after (had s) d)) (left-close s k hk i e out)

          step-last : d ≡ 0 → Stepped s d k n d
          unfolding after
          step-last z =
              to-entry d (omega arith)
              (closed ∙ ap (after (had s)) z ∙ ap left_at (sym (close-leads s k hk i e out).1) ∙ sym (regex-out (next s k) d out))

          pub step-close : (d ≡ 0 → ⊥) → Stepped s d k s (d - 1) × (is_none (regex s (d - 1)) ≡ false)
          unfolding after
          step-close z =
              let more : d ≡ suc (d - 1) = omega arith in
              leads
              (record {
                goes =
                    closed ∙ ap (after (had s)) more ∙ ap (λ x. fill (after (had s) (d - 1)) (left_at x)) behind
                    ∙ sym (regex-in s (d - 1) i);
                state = hs;
                depth = omega arith;
              })
              not-dead

        pub step-here : (n ≤ last_inside) ⊎ (d ≡ 0) → Stepped s d k n d
        step-here o = by_side _ n step_in (λ h. step-last h (omega arith))

    -- nothing is left behind a word that leads to state 0
    pub step-none : n ≡ 0 → left (regex s d) k ≡ none
    step-none z =
        by_side _ s
        (λ i. ⊎_elim (λ e. gone (d + 1) (step-open i e)) (λ e. gone d (step_in i e (omega arith))) paren)
        (λ o. gone 0 (step-outside o))
      where
        paren : (k ≡ k_lparen) ⊎ (k ≡ k_lparen → ⊥)
        paren = grind arith

        gone : (d' : ℕ) → Stepped s d k n d' → left (regex s d) k ≡ none
        gone d' p = p.goes ∙ rw z (regex-dead d')
