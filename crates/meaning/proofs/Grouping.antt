-- Words that read as a tree are kept as that tree (`kept-as`), and the value of what is kept is what the tree is worth (`grouping`).
-- It depends on the operands' values only (`value_same`), and words read as one tree only (`reads-one`).
-- The idea: words that read at level b come out whole, as `post` of their tree, behind what waits and before what follows (`puts`).
-- What follows ends them: it is the end, `)`, or a sign that binds no tighter than b.
-- What waits stays: each sign that the words may hold outside parentheses, so each that binds at b or tighter, binds tighter than
-- what waits last. This is asked of the signs and not of b: a negation may wait before words of its own level 4, as in `! ! a`, and
-- no sign binds at 4. That words read as one tree only is seen by running what is kept on a stack of trees, which gives the tree back.
-- Assumes nothing.
use Prim.Native.Nat.{ℕ, ◌≤◌, ◌<◌}
use native.Mathlib.Omega.{arith}
use native.Mathlib.Nat.{le_refl}
use mathlib.Core.Path.{◌≡◌, refl, sym, ◌∙◌}
use mathlib.Core.Bool.{Bool}
use mathlib.Core.List.{List, [], ◌∷◌, ◌++◌, append_assoc, append-nil}
use borrow.Author.Tests.{le-leb, lt-leb}
use Rattle.meaning.specs.Expressions.{Sign, same, differ, both, odd, either, binds, binds_not, loosest, Token, leaf, sign, negation, lpar, rpar, Tree, one, neg, two, worth, Reads, operand, inside, negated, grouped, Code, push, does, negates, Waiting, wait, wait_not, paren, popped, postfix, join_top, negate_top, top_of, value_from, value}

-- each sign behind what it joins
unfoldable pub post : {L : Type 0} → Tree L → List (Code L)
post (one x) = push x ∷ []
post (neg t) = post t ++ (negates ∷ [])
post (two s t u) = post t ++ (post u ++ (does s ∷ []))

-- ---- what waits
binds-some : (s : Sign) → 1 ≤ binds s
unfolding binds
binds-some same = omega arith
binds-some differ = omega arith
binds-some both = omega arith
binds-some odd = omega arith
binds-some either = omega arith

-- no sign binds just as a negation does
above-not : (s : Sign) → binds_not ≤ binds s → binds_not < binds s
unfolding binds
above-not same h = omega arith
above-not differ h = omega arith
above-not both h = omega arith
above-not odd h = omega arith
above-not either h = omega arith

-- how tightly what waits last binds
last : List Waiting → ℕ
last [] = 0
last (wait s ∷ ks) = binds s
last (wait_not ∷ ks) = binds_not
last (paren ∷ ks) = 0

-- a sign that binds tighter than that pushes nothing out
stays : {L : Type 0} (b : ℕ) (ks : List Waiting) → last ks < b → popped {L = L} b ks ≡ record { out = []; rest = ks }
unfolding popped last
stays b [] h = refl
stays b (paren ∷ ks) h = refl
stays b (wait s ∷ ks) h = rw (lt-leb b (binds s) h)
stays b (wait_not ∷ ks) h = rw (lt-leb b binds_not h)

-- ---- what follows: the end, `)`, or a sign that binds no tighter than c
data Closes {L : Type 0} (c : ℕ) : List (Token L) → Type 0 where
  end : Closes c []
  shut : {vs : List (Token L)} → Closes c (rpar ∷ vs)
  more : {vs : List (Token L)} (s : Sign) → binds s ≤ c → Closes c (sign s ∷ vs)

-- a waiting sign that binds as tightly goes out before it
sign-out : {L : Type 0} {c : ℕ} {vs : List (Token L)} (s : Sign) (ks : List Waiting) → c ≤ binds s → Closes c vs
    → postfix (wait s ∷ ks) vs ≡ does s ∷ postfix ks vs
unfolding postfix popped
sign-out s ks l end = rw (le-leb 1 (binds s) (binds-some s), postfix, popped)
sign-out s ks l shut = rw (le-leb 1 (binds s) (binds-some s), postfix, popped)
sign-out s ks l (more s' h) = rw (le-leb (binds s') (binds s) (omega arith), postfix, popped)

-- and so does a waiting negation
not-out : {L : Type 0} {c : ℕ} {vs : List (Token L)} (ks : List Waiting) → c ≤ binds_not → Closes c vs
    → postfix (wait_not ∷ ks) vs ≡ negates ∷ postfix ks vs
unfolding postfix popped
not-out ks l end = refl
not-out ks l shut = refl
not-out ks l (more s h) = rw (le-leb (binds s) binds_not (omega arith))

-- ---- words as they are kept
-- words that read at level b, where ks waits before them and vs follows
puts : {L : Type 0} {b : ℕ} {t : Tree L} {ws : List (Token L)} → Reads b t ws → (c : ℕ) (vs : List (Token L)) (ks : List Waiting)
    → c ≤ b → Closes c vs → ((s : Sign) → b ≤ binds s → last ks < binds s) → postfix ks (ws ++ vs) ≡ post t ++ postfix ks vs
unfolding postfix post last popped
puts operand c vs ks l f w = refl
puts (inside r) c vs ks l f w =
    simp append_assoc (puts r loosest (rpar ∷ vs) (paren ∷ ks) (le_refl loosest) shut (λ s h. binds-some s))
puts (negated h r) c vs ks l f w =
    simp append_assoc (rw (puts r c vs (wait_not ∷ ks) (omega arith) f above-not, not-out ks (omega arith) f))
puts (grouped {s = s} {ws = ws} h r q) c vs ks l f w =
    let low : last ks < binds s = w s h in
    simp append_assoc (rw (
      puts r (binds s) (sign s ∷ (ws ++ vs)) ks (le_refl (binds s)) (more s (le_refl (binds s))) (λ s' g. omega arith),
      stays (binds s) ks low,
      puts q c vs (wait s ∷ ks) (omega arith) f (λ s' g. omega arith),
      sign-out s ks (omega arith) f,
    ))

-- words that read as a tree are kept as that tree
pub kept-as : {L : Type 0} {t : Tree L} {ws : List (Token L)} → Reads loosest t ws → postfix [] ws ≡ post t
unfolding postfix popped last
kept-as r = simp append-nil at (puts r loosest [] [] (le_refl loosest) end (λ s h. binds-some s))

-- ---- the value of what is kept
-- a tree leaves its worth on the stack
post-first : {L : Type 0} (f : L → Bool) (t : Tree L) (bs : List Bool) (cs : List (Code L))
    → value_from f bs (post t ++ cs) ≡ value_from f (worth f t ∷ bs) cs
unfolding post value_from worth join_top negate_top
post-first f (one x) bs cs = refl
post-first f (neg t) bs cs = simp append_assoc (post-first f t bs (negates ∷ cs))
post-first f (two s t u) bs cs =
    simp append_assoc (post-first f t bs (post u ++ (does s ∷ cs)) ∙ post-first f u (worth f t ∷ bs) (does s ∷ cs))

-- what is kept of a tree is worth what the tree is
pub value-post : {L : Type 0} (f : L → Bool) (t : Tree L) → value f (post t) ≡ worth f t
unfolding value value_from top_of
value-post f t = simp append-nil at (post-first f t [] [])

-- and so are the words that read as it
pub grouping : {L : Type 0} (f : L → Bool) {t : Tree L} {ws : List (Token L)} → Reads loosest t ws
    → value f (postfix [] ws) ≡ worth f t
grouping f {t = t} r = rw (kept-as r) (value-post f t)

-- f and g are the same at every operand
unfoldable pub Agree : {L : Type 0} → (L → Bool) → (L → Bool) → List (Code L) → Type 0
Agree f g [] = Unit {0}
Agree f g (push x ∷ cs) = (f x ≡ g x) × Agree f g cs
Agree f g (does s ∷ cs) = Agree f g cs
Agree f g (negates ∷ cs) = Agree f g cs

same_from : {L : Type 0} (f g : L → Bool) (bs : List Bool) (cs : List (Code L)) → Agree f g cs → value_from f bs cs ≡ value_from g bs cs
unfolding value_from Agree
same_from f g bs [] h = refl
same_from f g bs (push x ∷ cs) h = rw h.0 (same_from f g (g x ∷ bs) cs h.1)
same_from f g bs (does s ∷ cs) h = same_from f g (join_top s bs) cs h
same_from f g bs (negates ∷ cs) h = same_from f g (negate_top bs) cs h

-- the value depends on the operands' values only
pub value_same : {L : Type 0} (f g : L → Bool) (cs : List (Code L)) → Agree f g cs → value f cs ≡ value g cs
unfolding value
value_same f g cs h = same_from f g [] cs h

-- ---- one tree only
-- what is kept, run on a stack of trees
joined : {L : Type 0} → Sign → List (Tree L) → List (Tree L)
joined s [] = []
joined s (u ∷ []) = u ∷ []
joined s (u ∷ t ∷ ts) = two s t u ∷ ts

denied : {L : Type 0} → List (Tree L) → List (Tree L)
denied [] = []
denied (t ∷ ts) = neg t ∷ ts

trees : {L : Type 0} → List (Tree L) → List (Code L) → List (Tree L)
trees ts [] = ts
trees ts (push x ∷ cs) = trees (one x ∷ ts) cs
trees ts (does s ∷ cs) = trees (joined s ts) cs
trees ts (negates ∷ cs) = trees (denied ts) cs

trees-post : {L : Type 0} (t : Tree L) (ts : List (Tree L)) (cs : List (Code L)) → trees ts (post t ++ cs) ≡ trees (t ∷ ts) cs
unfolding post trees joined denied
trees-post (one x) ts cs = refl
trees-post (neg t) ts cs = simp append_assoc (trees-post t ts (negates ∷ cs))
trees-post (two s t u) ts cs = simp append_assoc (trees-post t ts (post u ++ (does s ∷ cs)) ∙ trees-post u (t ∷ ts) (does s ∷ cs))

-- trees that are kept alike are the same
pub post-injective : {L : Type 0} (t u : Tree L) → post t ≡ post u → t ≡ u
unfolding trees
post-injective t u e =
    let p : trees [] (post t ++ []) ≡ t ∷ [] = trees-post t [] [] in
    let q : trees [] (post u ++ []) ≡ u ∷ [] = trees-post u [] [] in
    let r : trees [] (post t ++ []) ≡ trees [] (post u ++ []) = rw e in
    cc

-- words read as one tree only
pub reads-one : {L : Type 0} {t u : Tree L} {ws : List (Token L)} → Reads loosest t ws → Reads loosest u ws → t ≡ u
reads-one {t = t} {u = u} r q = post-injective t u (sym (kept-as r) ∙ kept-as q)

-- ---- the easy misreadings, over the operands 0, 1, 2 ..
-- the words read as the tree, and are kept as it
abbrev Stands : Tree ℕ → List (Token ℕ) → Type 0
Stands t ws = Reads loosest t ws × (postfix [] ws ≡ post t)

-- two operands and a sign read at any level that the sign binds at
pair : (b : ℕ) (s : Sign) (x y : ℕ) → b ≤ binds s → Reads b (two s (one x) (one y)) (leaf x ∷ sign s ∷ leaf y ∷ [])
pair b s x y h = grouped {vs = leaf x ∷ []} h operand operand

-- a == b != c is (a == b) != c
left-first : Stands (two differ (two same (one 0) (one 1)) (one 2)) (leaf 0 ∷ sign same ∷ leaf 1 ∷ sign differ ∷ leaf 2 ∷ [])
unfolding postfix popped binds post
left-first = (grouped (binds-some differ) (pair 5 same 0 1 (omega arith)) operand, refl)

-- ! a == b is !(a == b)
not_last : Stands (neg (two same (one 0) (one 1))) (negation ∷ leaf 0 ∷ sign same ∷ leaf 1 ∷ [])
unfolding postfix popped binds post
not_last = (negated {b = 1} (omega arith) (pair 4 same 0 1 (omega arith)), refl)

-- a || b && c is a || (b && c)
both_first : Stands (two either (one 0) (two both (one 1) (one 2))) (leaf 0 ∷ sign either ∷ leaf 1 ∷ sign both ∷ leaf 2 ∷ [])
unfolding postfix popped binds post
both_first = (grouped (binds-some either) operand (pair 2 both 1 2 (omega arith)), refl)

-- a ^ b || c is (a ^ b) || c
odd-first : Stands (two either (two odd (one 0) (one 1)) (one 2)) (leaf 0 ∷ sign odd ∷ leaf 1 ∷ sign either ∷ leaf 2 ∷ [])
unfolding postfix popped binds post
odd-first = (grouped (binds-some either) (pair 1 odd 0 1 (omega arith)) operand, refl)

-- ! a && b == (! c) is (!a) && (b == !c)
in-parens : Stands (two both (neg (one 0)) (two same (one 1) (neg (one 2))))
    (negation ∷ leaf 0 ∷ sign both ∷ leaf 1 ∷ sign same ∷ lpar ∷ negation ∷ leaf 2 ∷ rpar ∷ [])
unfolding postfix popped binds post
in-parens = (
  grouped (binds-some both)
      (negated {b = 3} (omega arith) operand)
      (grouped {b = 4} {s = same} (omega arith) operand (inside (negated {b = 1} (omega arith) operand))),
  refl,
)

-- a || b ^ c && ! ! d == e is a || (b ^ (c && !!(d == e)))
every-level : Stands (two either (one 0) (two odd (one 1) (two both (one 2) (neg (neg (two same (one 3) (one 4)))))))
    (leaf 0 ∷ sign either ∷ leaf 1 ∷ sign odd ∷ leaf 2 ∷ sign both ∷ negation ∷ negation ∷ leaf 3 ∷ sign same ∷ leaf 4 ∷ [])
unfolding postfix popped binds post
every-level = (
  grouped (binds-some either) operand
      (grouped {b = 2} {s = odd} (omega arith) operand
      (grouped {b = 3} {s = both} (omega arith) operand
      (negated {b = 4} (omega arith) (negated {b = 4} (omega arith) (pair 4 same 3 4 (omega arith)))))),
  refl,
)
