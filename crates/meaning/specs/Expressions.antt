-- Expressions.
-- "names, parentheses, `==` and `!=` (bind tightest), then `!`, `&&`, `^`, `||`; the two-sided ones group to the left."
-- "then `not`, `and`, `or`, tightest first."
-- `Reads` says in these words which tree some words stand for, and `worth` what it is worth. What is kept of an expression is
-- `postfix`: each sign behind what it joins; proofs/Grouping.antt has that words which read as a tree are kept as that tree, and
-- that the value of what is kept is what the tree is worth.
use Rattle.std.specs.Prelude.{ℕ, ◌+◌, ◌≤◌, Bool, false, not, ◌&&◌, ◌||◌, List, [], ◌∷◌, ◌++◌, leb, if◌then◌else◌}
use Rattle.meaning.specs.Plain.{xor}

-- the two-sided signs: `==` | `!=` | `&&`, `and` | `^` | `||`, `or`
pub data Sign : Type 0 where
  same : Sign
  differ : Sign
  both : Sign
  odd : Sign
  either : Sign

-- how tightly a sign binds; `!` and `not` bind at 4
unfoldable pub binds : Sign → ℕ
binds same = 5
binds differ = 5
binds both = 3
binds odd = 2
binds either = 1

abbrev pub binds_not : ℕ
binds_not = 4

-- the loosest
abbrev pub loosest : ℕ
loosest = 1

unfoldable pub join : Sign → Bool → Bool → Bool
join same a b = not (xor a b)
join differ a b = xor a b
join both a b = a && b
join odd a b = xor a b
join either a b = a || b

-- the words of an expression whose operands are of the type L
pub data Token (L : Type 0) : Type 0 where
  leaf : L → Token L
  sign : Sign → Token L
  negation : Token L
  lpar : Token L
  rpar : Token L

-- ---- what words stand for
pub data Tree (L : Type 0) : Type 0 where
  one : L → Tree L
  neg : Tree L → Tree L
  two : Sign → Tree L → Tree L → Tree L

-- the words stand for the tree, and their signs outside parentheses bind at least as tightly as b
pub data Reads {L : Type 0} : ℕ → Tree L → List (Token L) → Type 0 where
  operand : {b : ℕ} {x : L} → Reads b (one x) (leaf x ∷ [])
  inside : {b : ℕ} {t : Tree L} {ws : List (Token L)} → Reads loosest t ws → Reads b t (lpar ∷ (ws ++ (rpar ∷ [])))
  negated : {b : ℕ} {t : Tree L} {ws : List (Token L)} → b ≤ binds_not → Reads binds_not t ws → Reads b (neg t) (negation ∷ ws)
  grouped : {b : ℕ} {s : Sign} {t u : Tree L} {vs ws : List (Token L)} → b ≤ binds s → Reads (binds s) t vs → Reads (binds s + 1) u ws → Reads b (two s t u) (vs ++ (sign s ∷ ws))

unfoldable pub worth : {L : Type 0} → (L → Bool) → Tree L → Bool
worth f (one x) = f x
worth f (neg t) = not (worth f t)
worth f (two s t u) = join s (worth f t) (worth f u)

-- ---- what is kept of an expression
pub data Code (L : Type 0) : Type 0 where
  push : L → Code L
  does : Sign → Code L
  negates : Code L

-- what waits: a sign or a negation for its right side, a parenthesis for its partner
pub data Waiting : Type 0 where
  wait : Sign → Waiting
  wait_not : Waiting
  paren : Waiting

pub record Popped (L : Type 0) : Type 0 where
  pub out : List (Code L)
  pub rest : List Waiting

abbrev pub below : List Waiting → List Waiting
below [] = []
below (k ∷ ks) = ks

-- the waiting signs, the last first and down to a parenthesis, that bind at least as tightly as b
unfoldable pub popped : {L : Type 0} → ℕ → List Waiting → Popped L
popped b [] = record { out = []; rest = [] }
popped b (paren ∷ ks) = record { out = []; rest = paren ∷ ks }
popped b (wait s ∷ ks) =
    let r = popped b ks in
    if leb b (binds s) then record { out = does s ∷ r.out; rest = r.rest } else record { out = []; rest = wait s ∷ ks }
popped b (wait_not ∷ ks) =
    let r = popped b ks in
    if leb b binds_not then record { out = negates ∷ r.out; rest = r.rest } else record { out = []; rest = wait_not ∷ ks }

unfoldable pub postfix : {L : Type 0} → List Waiting → List (Token L) → List (Code L)
postfix ks [] = (popped loosest ks).out
postfix ks (leaf x ∷ ts) = push x ∷ postfix ks ts
postfix ks (negation ∷ ts) = postfix (wait_not ∷ ks) ts
postfix ks (sign s ∷ ts) = let q = popped (binds s) ks in q.out ++ postfix (wait s ∷ q.rest) ts
postfix ks (lpar ∷ ts) = postfix (paren ∷ ks) ts
postfix ks (rpar ∷ ts) = let q = popped loosest ks in q.out ++ postfix (below q.rest) ts

-- ---- the value of what is kept, where f tells the operands' values: from left to right, on a stack
unfoldable pub join_top : Sign → List Bool → List Bool
join_top s [] = []
join_top s (b ∷ []) = b ∷ []
join_top s (b ∷ a ∷ bs) = join s a b ∷ bs

unfoldable pub negate_top : List Bool → List Bool
negate_top [] = []
negate_top (b ∷ bs) = not b ∷ bs

unfoldable pub top_of : List Bool → Bool
top_of [] = false
top_of (b ∷ bs) = b

unfoldable pub value_from : {L : Type 0} → (L → Bool) → List Bool → List (Code L) → Bool
value_from f bs [] = top_of bs
value_from f bs (push x ∷ cs) = value_from f (f x ∷ bs) cs
value_from f bs (does s ∷ cs) = value_from f (join_top s bs) cs
value_from f bs (negates ∷ cs) = value_from f (negate_top bs) cs

unfoldable pub value : {L : Type 0} → (L → Bool) → List (Code L) → Bool
value f cs = value_from f [] cs
