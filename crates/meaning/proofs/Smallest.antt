-- The clash shown is the smallest: the rules stand in the order of their places, the search goes through numbers upwards, and so the
-- list of all clashes is in 01's order, in which its first is before every other.
--   order_of, Before    that order
--   smallest           every clash is the one shown or stands behind it
-- Assumes nothing.
use mathlib.Core.Path.{◌≡◌, sym, ap, ◌∙◌, subst}
use mathlib.Core.Bool.{Bool, false≢true}
use mathlib.Core.List.{List, [], ◌∷◌}
use mathlib.Core.Logic.{◌⊎◌, inl, inr}
use Prim.Native.Nat.{ℕ, ◌<◌}
use native.Mathlib.Omega.{arith}
use lib.Dec.{eqb}
use lib.ListN.{length}
use Rattle.meaning.specs.Plain.{each, joined, up_to}
use Rattle.meaning.specs.Policy.{Rule}
use Rattle.meaning.specs.Neverallow.{Clash, broken, Two, pair, targets_of, pairs_of, shared_of, permissions_of, clash_at, clashes_of, of_kind, clashes, head_of, never_broken}
use Rattle.meaning.specs.Keywords.{k_allow, k_neverallow}
use Rattle.meaning.proofs.Lists.{Among, here, there, each-among, joined-among}
use Rattle.meaning.proofs.Sorted.{Sorted, sorted-keep, sorted-each, sorted-joined, sorted-up_to, Below, below-behind, below-first}
use Rattle.meaning.proofs.Clashes.{search_is, those, pairing, both_source, both_pair, both_perm, perm_count, meets, ClashOf, clash-of, of-clash}

-- ---- the order
-- "by place of the neverallow (also the answer's place), place of the allow, source number, target number, class number, permission"
abbrev pub order_of : Clash → List ℕ
order_of x = x.never ∷ x.allow ∷ x.source ∷ x.target ∷ x.class ∷ x.permission ∷ []

-- x is smaller than y
abbrev pub Before : Clash → Clash → Type 0
Before x y = Below (order_of x) (order_of y)

abbrev PairBefore : Two → Two → Type 0
PairBefore x y = Below (x.first ∷ x.second ∷ []) (y.first ∷ y.second ∷ [])

sorted-those : (n : ℕ) (p : ℕ → Bool) → Sorted ◌<◌ (those n p)
sorted-those n p = sorted-keep ◌<◌ p (up_to n) (sorted-up_to n)

pairs-sorted : (n : ℕ → ℕ) (p : ℕ → ℕ → Bool) (l : List ℕ) → Sorted ◌<◌ l → Sorted PairBefore (pairing n p l)
pairs-sorted n p l r =
    sorted-joined ◌<◌ PairBefore (λ x. each (pair x) (those (n x) (p x)))
    (λ x y lt u v m k.
    let d : u.first ≡ x = ap (λ w. w.first) (each-among (pair x) (those (n x) (p x)) m).2 in
    let e : v.first ≡ y = ap (λ w. w.first) (each-among (pair y) (those (n y) (p y)) k).2 in
    below-first u.first v.first (omega arith))
    (λ x. sorted-each ◌<◌ PairBefore (pair x) (λ y z lt. below-behind x (below-first y z lt)) (those (n x) (p x)) (sorted-those (n x) (p x))) l r

-- those of two rules
pair-sorted : (n : ℕ) (a b : Rule) → Sorted Before (clashes_of n a b)
unfolding clashes_of pairs_of targets_of permissions_of shared_of clash_at
pair-sorted n a b =
    sorted-joined PairBefore Before (λ x. each (clash_at a b x) (permissions_of a b))
    (λ x y h u v m k.
    let p = (each-among (clash_at a b x) (permissions_of a b) m).2 in
    let q = (each-among (clash_at a b y) (permissions_of a b) k).2 in
    rw (p, q) (below-behind a.at (below-behind b.at (h.0, λ e. ((h.1 e).0, λ f. absurd ((h.1 e).1 f))))))
    (λ x. sorted-each PairBefore Before (clash_at a b x)
    (λ y z h. below-behind a.at (below-behind b.at (below-behind x.first (below-behind x.second h))))
    (permissions_of a b) (pairs-sorted (perm_count a) (both_perm a b) (up_to (length a.perms)) (sorted-up_to (length a.perms))))
    (pairs_of n a b) (pairs-sorted (λ s. n) (both_pair a b) (those n (both_source a b)) (sorted-those n (both_source a b)))

-- the rules stand in the order of their places
abbrev pub InOrder : List Rule → Type 0
InOrder rs = Sorted (λ a b. a.at < b.at) rs

sorted-kind : (k : ℕ) (rs : List Rule) → InOrder rs → InOrder (of_kind k rs)
unfolding of_kind
sorted-kind k rs r = sorted-keep (λ a b. a.at < b.at) (λ x. eqb x.kind k) rs r

-- those of a rule with each of others
never-sorted : (n : ℕ) (a : Rule) (bs : List Rule) → InOrder bs → Sorted Before (joined (clashes_of n a) bs)
never-sorted n a bs r =
    sorted-joined (λ a b. a.at < b.at) Before (clashes_of n a)
    (λ b c lt u v m k.
    let p = meets n a b m in
    let q = meets n a c k in
    let d : u.never ≡ v.never = p.never ∙ sym q.never in
    (omega arith, λ e. let l : u.allow < v.allow = omega (arith, p.allow, q.allow) in below-first u.allow v.allow l))
    (pair-sorted n a) bs r

clashes-sorted : (n : ℕ) (rs : List Rule) → InOrder rs → Sorted Before (clashes n rs)
unfolding clashes
clashes-sorted n rs r =
    let bs = of_kind k_allow rs in
    sorted-joined (λ a b. a.at < b.at) Before (λ a. joined (clashes_of n a) bs)
    (λ a b lt u v m k.
    let j = joined-among (clashes_of n a) bs m in
    let h = joined-among (clashes_of n b) bs k in
    let p : u.never ≡ a.at = (meets n a j.0 j.2).never in
    let q : v.never ≡ b.at = (meets n b h.0 h.2).never in
    below-first u.never v.never (omega arith))
    (λ a. never-sorted n a bs (sorted-kind k_allow rs r)) (of_kind k_neverallow rs) (sorted-kind k_neverallow rs r)

-- ---- what the search finds
first-smallest : (l : List Clash) (x : Clash) → Sorted Before l → head_of l ≡ broken x → Among x l × ((y : Clash) → Among y l → (y ≡ x) ⊎ Before x y)
unfolding head_of
first-smallest [] x r e = absurd (false≢true (cc))
first-smallest (c ∷ l) x r e =
    let q : c ≡ x = cc in
    (here (sym q), λ y m. elim m [ here p ↦ inl (p ∙ q) | there k ↦ inr (subst (λ w. Before w y) q (r.0 y k)) ])

-- The clash shown is a clash of the rules, and every other stands behind it.
pub smallest : (n : ℕ) (rs : List Rule) (x : Clash) → InOrder rs → never_broken n rs ≡ broken x
    → ClashOf n rs x × ((y : Clash) → ClashOf n rs y → (y ≡ x) ⊎ Before x y)
smallest n rs x r e =
    let h = first-smallest (clashes n rs) x (clashes-sorted n rs r) (sym (search_is n rs) ∙ e) in
    (clash-of n rs h.0, λ y c. h.1 y (of-clash n rs c))
