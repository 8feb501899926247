-- What is kept of an expression holds only operands of its words (`pushed`): signs that waited are no operands.
-- And whether a branch is in force depends only on the booleans that its if's condition holds (`force-same`).
-- Assumes nothing.
use Prim.Native.Nat.{ℕ}
use mathlib.Core.Path.{◌≡◌, refl, ap}
use mathlib.Core.Bool.{Bool, true, false, not, false≢true}
use mathlib.Core.List.{List, [], ◌∷◌}
use lib.Dec.{leb}
use lib.ListN.{get_or}
use Rattle.std.specs.Prelude.{if◌then◌else◌}
use Rattle.meaning.specs.Statements.{Branch, always, when_true, when_false}
use Rattle.meaning.specs.Expressions.{binds, binds_not, loosest, Token, leaf, sign, negation, lpar, rpar, Code, push, does, negates, Waiting, wait, wait_not, paren, Popped, popped, postfix}
use Rattle.meaning.specs.Policy.{Switch, Policy}
use Rattle.meaning.specs.Access.{is_on, if_holds, in_force}
use Rattle.meaning.specs.Questions.{with_bools}
use Rattle.meaning.proofs.Lists.{Among, here, there, append-among}
use Rattle.meaning.proofs.Grouping.{Agree, value_same}

-- ---- operands
-- what goes out of those that wait is no operand
abbrev out_by : {L : Type 0} → Bool → Code L → Popped L → List Waiting → Popped L
out_by b c q ks = if b then record { out = c ∷ q.out; rest = q.rest } else record { out = []; rest = ks }

out_none : {L : Type 0} (b : Bool) (c : Code L) (q : Popped L) (ks : List Waiting) {x : L} → (push x ≡ c → ⊥) → (Among (push x) q.out → ⊥)
    → Among (push x) (out_by b c q ks).out → ⊥
out_none true c q ks f g (here e) = f e
out_none true c q ks f g (there m) = g m
out_none false c q ks f g m = elim m [ ]

popped-none : {L : Type 0} (b : ℕ) (ks : List Waiting) {x : L} → Among (push x) (popped b ks).out → ⊥
unfolding popped
popped-none b [] m = elim m [ ]
popped-none b (paren ∷ ks) m = elim m [ ]
popped-none b (wait s ∷ ks) m = out_none (leb b (binds s)) (does s) (popped b ks) (wait s ∷ ks) (λ e. false≢true (cc)) (popped-none b ks) m
popped-none b (wait_not ∷ ks) m = out_none (leb b binds_not) negates (popped b ks) (wait_not ∷ ks) (λ e. false≢true (cc)) (popped-none b ks) m

-- The operands of what is kept are operands of the words.
pub pushed : {L : Type 0} (ks : List Waiting) (ts : List (Token L)) {x : L} → Among (push x) (postfix ks ts) → Among (leaf x) ts
unfolding postfix
pushed ks [] m = absurd (popped-none loosest ks m)
pushed ks (leaf y ∷ ts) (here e) = here {x = leaf y} (cc)
pushed ks (leaf y ∷ ts) (there m) = there (pushed ks ts m)
pushed ks (negation ∷ ts) m = there (pushed (wait_not ∷ ks) ts m)
pushed ks (sign s ∷ ts) m = append-among (popped (binds s) ks).out m (λ n. absurd (popped-none (binds s) ks n)) (λ n. there (pushed _ ts n))
pushed ks (lpar ∷ ts) m = there (pushed (paren ∷ ks) ts m)
pushed ks (rpar ∷ ts) m = append-among (popped loosest ks).out m (λ n. absurd (popped-none loosest ks n)) (λ n. there (pushed _ ts n))

-- ---- the booleans of a condition
-- f and g are the same at every operand, said by its operands
agree : {L : Type 0} (f g : L → Bool) (cs : List (Code L)) → ((x : L) → Among (push x) cs → f x ≡ g x) → Agree f g cs
unfolding Agree
agree f g [] h = tt
agree f g (push x ∷ cs) h = (h x (here refl), agree f g cs (λ y m. h y (there m)))
agree f g (does s ∷ cs) h = agree f g cs (λ y m. h y (there m))
agree f g (negates ∷ cs) h = agree f g cs (λ y m. h y (there m))

-- what is kept of the condition of a branch's if; nothing outside ifs
unfoldable pub condition : Policy → Branch → List (Code ℕ)
condition p always = []
condition p (when_true i) = get_or p.ifs i []
condition p (when_false i) = get_or p.ifs i []

if-same : (p : Policy) (bs bs' : List Switch) (i : ℕ)
    → ((x : ℕ) → Among (push x) (get_or p.ifs i []) → is_on (with_bools p bs) x ≡ is_on (with_bools p bs') x)
    → if_holds (with_bools p bs) i ≡ if_holds (with_bools p bs') i
unfolding if_holds with_bools
if-same p bs bs' i h = value_same (is_on (with_bools p bs)) (is_on (with_bools p bs')) _ (agree _ _ (get_or p.ifs i []) h)

-- Whether a branch is in force depends only on the booleans of its if's condition.
pub force-same : (p : Policy) (bs bs' : List Switch) (b : Branch)
    → ((x : ℕ) → Among (push x) (condition p b) → is_on (with_bools p bs) x ≡ is_on (with_bools p bs') x)
    → in_force (with_bools p bs) b ≡ in_force (with_bools p bs') b
unfolding in_force condition
force-same p bs bs' always h = refl
force-same p bs bs' (when_true i) h = if-same p bs bs' i h
force-same p bs bs' (when_false i) h = ap not (if-same p bs bs' i h)
