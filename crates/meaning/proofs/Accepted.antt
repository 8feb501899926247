-- What a load rests on where it does not stop before refusal 9.
--   NoEarlier s    none of 2, 3, 7, 6, 4, 5 and 8 is to be given for the text s
--   load_is        then the search for a clash decides, over the statements of the text
--   no-earlier     a load that answers 0 or 9 has met none of them
--   stands         what an accepted load rests on: all of that, the policy of the text, and a search that found nothing
-- Each check of Load is passed by one lemma, over the number that the check gives.
-- Assumes nothing.
use mathlib.Core.Path.{◌≡◌, refl, sym, ap, ◌∙◌}
use mathlib.Core.Bool.{Bool, true, false, ◌||◌, false≢true}
use mathlib.Core.List.{List}
use Prim.Native.Nat.{ℕ, ◌≤◌}
use borrow.Author.Tests.{ltb-false, le-ltb}
use lib.Dec.{eqb, ltb}
use lib.ListN.{length}
use Rattle.meaning.specs.Plain.{Spot, nowhere, at}
use Rattle.meaning.specs.Words.{Word, words_of}
use Rattle.meaning.specs.Statements.{Statement, statements_of}
use Rattle.meaning.specs.Sizes.{Verdict, fits, ungrammatical, oversize, read_text}
use Rattle.meaning.specs.Names.{declared_twice, undeclared}
use Rattle.meaning.specs.Permissions.{bad_permission}
use Rattle.meaning.specs.Sets.{Names, names_of}
use Rattle.meaning.specs.Policy.{Rule, Policy}
use Rattle.meaning.specs.Rules.{policy_of, rules_of}
use Rattle.meaning.specs.Contradictions.{contradiction}
use Rattle.meaning.specs.Neverallow.{Search, kept, broken, never_broken}
use Rattle.meaning.specs.Refusals.{accepted, long_text, not_declared, not_permission, declared_again, contradicts, neverallow_broken}
use Rattle.meaning.specs.Load.{text_size, Loaded, refused, unless, unless_broken, after8, after5, after4, after6, after3, after_reading, load_words, load}

-- ---- what a text says
abbrev pub statements_in : List ℕ → List Statement
statements_in s = statements_of (words_of s)

abbrev pub names_in : List ℕ → Names
names_in s = names_of (statements_in s)

abbrev pub policy_in : List ℕ → Policy
policy_in s = policy_of (names_in s) (statements_in s)

abbrev pub rules_in : List ℕ → List Rule
rules_in s = rules_of (names_in s) (statements_in s)

abbrev pub search_in : List ℕ → Search
search_in s = never_broken (length (names_in s).types) (rules_in s)

-- 2; 3 and 7; 6; 4; 5; 8
pub record NoEarlier (s : List ℕ) : Type 0 where
  pub short : length s ≤ text_size
  pub reads : read_text (length s) (words_of s) ≡ fits
  pub once : declared_twice (statements_in s) ≡ nowhere
  pub known : undeclared (statements_in s) ≡ nowhere
  pub permitted : bad_permission (statements_in s) ≡ nowhere
  pub agrees : contradiction (names_in s) (statements_in s) (policy_in s) ≡ nowhere

-- ---- with no earlier refusal the search decides
unless-nowhere : (k : ℕ) (w : Spot) (r : Loaded) → w ≡ nowhere → unless k w r ≡ r
unfolding unless
unless-nowhere k w r e = rw e

reading-fits : (v : Verdict) (ws : List Word) → v ≡ fits → after_reading v ws ≡ after3 (statements_of ws)
unfolding after_reading
reading-fits v ws e = rw e

short-text : (b : Bool) (r : Loaded) → b ≡ false → (elim b as (λ c. Loaded) [ true ↦ refused long_text 0 | false ↦ r ]) ≡ r
short-text b r e = rw e

pub load_is : (s : List ℕ) → NoEarlier s → load s ≡ unless_broken (search_in s) (policy_in s)
unfolding load load_words after3 after6 after4 after5 after8
load_is s c =
    let ws = words_of s in
    let ss = statements_of ws in
    let n = names_of ss in
    short-text (ltb text_size (length s)) (after_reading (read_text (length s) ws) ws) (le-ltb text_size (length s) c.short)
    ∙ reading-fits (read_text (length s) ws) ws c.reads
    ∙ unless-nowhere declared_again (declared_twice ss) (after6 ss) c.once
    ∙ unless-nowhere not_declared (undeclared ss) (after4 ss) c.known
    ∙ unless-nowhere not_permission (bad_permission ss) (after5 n ss (policy_of n ss)) c.permitted
    ∙ unless-nowhere contradicts (contradiction n ss (policy_of n ss)) (after8 n ss (policy_of n ss)) c.agrees

-- ---- a load that answers 0 or 9 has met no earlier refusal
abbrev pub is_late : ℕ → Bool
is_late k = eqb k accepted || eqb k neverallow_broken

unless-late : (k : ℕ) → is_late k ≡ false → (w : Spot) (r : Loaded) → is_late (unless k w r).number ≡ true → (w ≡ nowhere) × (is_late r.number ≡ true)
unfolding unless refused
unless-late k q nowhere r e = (refl, e)
unless-late k q (at p) r e = absurd (false≢true (sym q ∙ e))

reading-late : (v : Verdict) (ws : List Word) → is_late (after_reading v ws).number ≡ true → (v ≡ fits) × (is_late (after3 (statements_of ws)).number ≡ true)
unfolding after_reading refused
reading-late fits ws e = (refl, e)
reading-late (ungrammatical p) ws e = absurd (false≢true e)
reading-late (oversize p) ws e = absurd (false≢true e)

short-late : (b : Bool) (r : Loaded) → is_late (elim b as (λ c. Loaded) [ true ↦ refused long_text 0 | false ↦ r ]).number ≡ true
    → (b ≡ false) × (is_late r.number ≡ true)
unfolding refused
short-late true r e = absurd (false≢true e)
short-late false r e = (refl, e)

pub no-earlier : (s : List ℕ) → is_late (load s).number ≡ true → NoEarlier s
unfolding load load_words after3 after6 after4 after5
no-earlier s e =
    let ws = words_of s in
    let ss = statements_of ws in
    let n = names_of ss in
    let c2 = short-late (ltb text_size (length s)) (after_reading (read_text (length s) ws) ws) e in
    let c3 = reading-late (read_text (length s) ws) ws c2.1 in
    let c6 = unless-late declared_again refl (declared_twice ss) (after6 ss) c3.1 in
    let c4 = unless-late not_declared refl (undeclared ss) (after4 ss) c6.1 in
    let c5 = unless-late not_permission refl (bad_permission ss) (after5 n ss (policy_of n ss)) c4.1 in
    let c8 = unless-late contradicts refl (contradiction n ss (policy_of n ss)) (after8 n ss (policy_of n ss)) c5.1 in
    record { short = ltb-false text_size (length s) c2.0; reads = c3.0; once = c6.0; known = c4.0; permitted = c5.0; agrees = c8.0 }

-- ---- what an accepted load rests on
pub record Stands (s : List ℕ) : Type 0 where
  pub earlier : NoEarlier s
  pub policy : (load s).policy ≡ policy_in s
  pub unbroken : search_in s ≡ kept

kept-when : (x : Search) (p : Policy) → (unless_broken x p).number ≡ accepted → (x ≡ kept) × ((unless_broken x p).policy ≡ p)
unfolding unless_broken
kept-when kept p e = (refl, refl)
kept-when (broken c) p e = absurd (false≢true (ap (λ (k : ℕ). eqb k accepted) e))

pub stands : (s : List ℕ) → (load s).number ≡ accepted → Stands s
stands s e =
    let c : NoEarlier s = no-earlier s (ap is_late e) in
    let d = load_is s c in
    let k = kept-when (search_in s) (policy_in s) (sym (ap (λ l. l.number) d) ∙ e) in
    record { earlier = c; policy = ap (λ l. l.policy) d ∙ k.1; unbroken = k.0 }
