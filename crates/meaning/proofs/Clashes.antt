-- The search for a clash shows the first of all clashes, and these are what a neverallow and an allow of the rules both cover.
--   search_is      never_broken n rs ≡ head_of (clashes n rs), by one law on the head of joined lists
--   ClashOf        a clash of the rules; branch, booleans and constrains play no part
--   clash-of, of-clash    the list `clashes` holds exactly these, by the laws on lists
--   none_left      a search that finds nothing leaves none
-- That the first is the smallest is in Smallest.
-- Assumes nothing.
use mathlib.Core.Path.{◌≡◌, refl, sym, ap, ◌∙◌, subst, transport}
use mathlib.Core.Bool.{Bool, true, ◌&&◌, false≢true}
use mathlib.Core.List.{List, [], ◌∷◌, ◌++◌}
use Prim.Native.Nat.{ℕ, ◌<◌}
use borrow.Author.Tests.{eqb-true, eq-eqb}
use lib.Dec.{eqb}
use lib.ListN.{length, get_or}
use Rattle.meaning.specs.Plain.{keep, each, joined, up_to}
use Rattle.meaning.specs.Policy.{holds, Rule}
use Rattle.meaning.specs.Neverallow.{Clash, Search, kept, rule_pair, rule_perms, Two, pair, targets_of, pairs_of, shared_of, permissions_of, clash_at, clashes_of, of_kind, clashes, head_of, or_next, first_over, never_broken}
use Rattle.meaning.specs.Keywords.{k_allow, k_neverallow}
use Rattle.meaning.proofs.Lists.{Among, and_both, both-and, keep-among, among-keep, each-among, among-each, joined-among, among-joined, among-up_to, up_to-among, get_or-below, holds-below}

-- ---- the search
head-append : (l r : List Clash) → head_of (l ++ r) ≡ or_next (head_of l) (head_of r)
unfolding head_of
head-append [] r = refl
head-append (c ∷ l) r = refl

first-is : {A : Type 0} (f : A → List Clash) (l : List A) → first_over (λ x. head_of (f x)) l ≡ head_of (joined f l)
unfolding head_of first_over
first-is f [] = refl
first-is f (x ∷ l) = ap (or_next (head_of (f x))) (first-is f l) ∙ sym (head-append (f x) (joined f l))

first-same : {A : Type 0} (f g : A → Search) → ((x : A) → f x ≡ g x) → (l : List A) → first_over f l ≡ first_over g l
unfolding first_over
first-same f g h [] = refl
first-same f g h (x ∷ l) = rw (h x) (ap (or_next (g x)) (first-same f g h l))

-- The search answers with the first of all clashes.
pub search_is : (n : ℕ) (rs : List Rule) → never_broken n rs ≡ head_of (clashes n rs)
unfolding never_broken clashes
search_is n rs =
    first-same _ _ (λ a. first-is (clashes_of n a) (of_kind k_allow rs)) (of_kind k_neverallow rs)
    ∙ first-is (λ a. joined (clashes_of n a) (of_kind k_allow rs)) (of_kind k_neverallow rs)

-- ---- what two rules both cover
abbrev pub rule_covers : Rule → ℕ → ℕ → ℕ → ℕ → Bool
rule_covers r s t c i = rule_pair r s t && holds (rule_perms r c) i

-- the neverallow a and the allow b both cover what the clash shows, and these are their places; n is the number of types
pub record Meet (n : ℕ) (a b : Rule) (x : Clash) : Type 0 where
  pub never : x.never ≡ a.at
  pub allow : x.allow ≡ b.at
  pub source : x.source < n
  pub target : x.target < n
  pub by-never : rule_covers a x.source x.target x.class x.permission ≡ true
  pub by-allow : rule_covers b x.source x.target x.class x.permission ≡ true

-- the numbers below n of which p holds
abbrev pub those : ℕ → (ℕ → Bool) → List ℕ
those n p = keep p (up_to n)

those-among : (n : ℕ) (p : ℕ → Bool) {k : ℕ} → Among k (those n p) → (k < n) × (p k ≡ true)
those-among n p m = let h = keep-among p (up_to n) m in (up_to-among n h.0, h.1)

among-those : (n : ℕ) (p : ℕ → Bool) {k : ℕ} → k < n → p k ≡ true → Among k (those n p)
among-those n p {k = k} h e = among-keep p (among-up_to n k h) e

-- the pairs of an element x of l and one of those below n x of which p x holds
abbrev pub pairing : (ℕ → ℕ) → (ℕ → ℕ → Bool) → List ℕ → List Two
pairing n p l = joined (λ x. each (pair x) (those (n x) (p x))) l

pairs-among : (n : ℕ → ℕ) (p : ℕ → ℕ → Bool) (l : List ℕ) {z : Two} → Among z (pairing n p l)
    → Among z.first l × (z.second < n z.first) × (p z.first z.second ≡ true)
pairs-among n p l {z = z} m =
    let j = joined-among (λ x. each (pair x) (those (n x) (p x))) l m in
    let k = each-among (pair j.0) (those (n j.0) (p j.0)) j.2 in
    let h = those-among (n z.first) (p z.first) (subst (λ w. Among w.second (those (n w.first) (p w.first))) (sym k.2) k.1) in
    (subst (λ w. Among w.first l) (sym k.2) j.1, h.0, h.1)

among-pairs : (n : ℕ → ℕ) (p : ℕ → ℕ → Bool) {l : List ℕ} {x y : ℕ} → Among x l → y < n x → p x y ≡ true → Among (pair x y) (pairing n p l)
among-pairs n p {x = x} m h e = among-joined (λ x. each (pair x) (those (n x) (p x))) m (among-each (pair x) (among-those (n x) (p x) h e))

-- what `pairs_of` and `permissions_of` ask of a source, of a pair, of a class and a permission
abbrev pub both_source : Rule → Rule → ℕ → Bool
both_source a b s = holds a.source s && holds b.source s

abbrev pub both_pair : Rule → Rule → ℕ → ℕ → Bool
both_pair a b s t = rule_pair a s t && rule_pair b s t

abbrev pub both_perm : Rule → Rule → ℕ → ℕ → Bool
both_perm a b c i = holds (rule_perms a c) i && holds (rule_perms b c) i

abbrev pub perm_count : Rule → ℕ → ℕ
perm_count a c = length (rule_perms a c)

in_source_lem : (r : Rule) (s t : ℕ) → rule_pair r s t ≡ true → holds r.source s ≡ true
unfolding rule_pair
in_source_lem r s t e = (and_both (holds r.source s) _ e).0

module _ (n : ℕ) (a b : Rule) where
  meet-at : (x y : Two) → Among x (pairs_of n a b) → Among y (permissions_of a b) → Meet n a b (clash_at a b x y)
  unfolding clash_at pairs_of targets_of permissions_of shared_of
  meet-at x y m k =
      let p = pairs-among (λ s. n) (both_pair a b) (those n (both_source a b)) m in
      let q = pairs-among (perm_count a) (both_perm a b) (up_to (length a.perms)) k in
      let ts = and_both (rule_pair a x.first x.second) (rule_pair b x.first x.second) p.2 in
      let is = and_both (holds (rule_perms a y.first) y.second) (holds (rule_perms b y.first) y.second) q.2 in
      record {
        never = refl;
        allow = refl;
        source = (those-among n (both_source a b) p.0).0;
        target = p.1;
        by-never = both-and _ _ ts.0 is.0;
        by-allow = both-and _ _ ts.1 is.1;
      }

  pub meets : {x : Clash} → Among x (clashes_of n a b) → Meet n a b x
  unfolding clashes_of
  meets m =
      let j = joined-among (λ x. each (clash_at a b x) (permissions_of a b)) (pairs_of n a b) m in
      let k = each-among (clash_at a b j.0) (permissions_of a b) j.2 in
      subst (Meet n a b) (sym k.2) (meet-at j.0 k.0 j.1 k.1)

  met_at : (s t c i : ℕ) → s < n → t < n → rule_covers a s t c i ≡ true → rule_covers b s t c i ≡ true
      → Among (clash_at a b (pair s t) (pair c i)) (clashes_of n a b)
  unfolding clashes_of pairs_of targets_of permissions_of shared_of rule_perms
  met_at s t c i hs ht ha hb =
      let p = and_both (rule_pair a s t) (holds (get_or a.perms c []) i) ha in
      let q = and_both (rule_pair b s t) (holds (get_or b.perms c []) i) hb in
      let ms : Among s (those n (both_source a b)) = among-those n (both_source a b) hs (both-and _ _ (in_source_lem a s t p.0) (in_source_lem b s t q.0)) in
      let mc : Among c (up_to (length a.perms)) = among-up_to (length a.perms) c (get_or-below (λ x. holds x i) a.perms c [] refl p.1) in
      among-joined (λ x. each (clash_at a b x) (permissions_of a b)) (among-pairs (λ s. n) (both_pair a b) ms ht (both-and _ _ p.0 q.0))
      (among-each (clash_at a b (pair s t))
      (among-pairs (perm_count a) (both_perm a b) mc (holds-below (get_or a.perms c []) i p.1) (both-and _ _ p.1 q.1)))

  met : {x : Clash} → Meet n a b x → Among x (clashes_of n a b)
  unfolding clash_at
  met {x = x} h =
      transport
      (λ i. Among (record { never = sym h.never i; allow = sym h.allow i; source = x.source; target = x.target; class = x.class; permission = x.permission })
      (clashes_of n a b))
      (met_at x.source x.target x.class x.permission h.source h.target h.by-never h.by-allow)

-- ---- all clashes of the rules
-- x is a clash of the rules: some neverallow and some allow among them, in whatever branch, both cover what it shows
pub record ClashOf (n : ℕ) (rs : List Rule) (x : Clash) : Type 0 where
  pub never : Rule
  pub allow : Rule
  pub never-among : Among never rs
  pub allow-among : Among allow rs
  pub never-kind : never.kind ≡ k_neverallow
  pub allow-kind : allow.kind ≡ k_allow
  pub meet : Meet n never allow x

of-kind : (k : ℕ) (rs : List Rule) {r : Rule} → Among r (of_kind k rs) → Among r rs × (r.kind ≡ k)
unfolding of_kind
of-kind k rs {r = r} m = let h = keep-among (λ r. eqb r.kind k) rs m in (h.0, eqb-true r.kind k h.1)

kind-of : {rs : List Rule} (r : Rule) (k : ℕ) → Among r rs → r.kind ≡ k → Among r (of_kind k rs)
unfolding of_kind
kind-of r k m e = among-keep (λ r. eqb r.kind k) m (eq-eqb r.kind k e)

-- The list of clashes holds the clashes of the rules and nothing else.
pub clash-of : (n : ℕ) (rs : List Rule) {x : Clash} → Among x (clashes n rs) → ClashOf n rs x
unfolding clashes
clash-of n rs m =
    let j = joined-among (λ a. joined (clashes_of n a) (of_kind k_allow rs)) (of_kind k_neverallow rs) m in
    let k = joined-among (clashes_of n j.0) (of_kind k_allow rs) j.2 in
    let a = of-kind k_neverallow rs j.1 in
    let b = of-kind k_allow rs k.1 in
    record {
      never = j.0;
      allow = k.0;
      never-among = a.0;
      allow-among = b.0;
      never-kind = a.1;
      allow-kind = b.1;
      meet = meets n j.0 k.0 k.2;
    }

pub of-clash : (n : ℕ) (rs : List Rule) {x : Clash} → ClashOf n rs x → Among x (clashes n rs)
unfolding clashes
of-clash n rs h =
    among-joined (λ a. joined (clashes_of n a) (of_kind k_allow rs)) (kind-of h.never k_neverallow h.never-among h.never-kind)
    (among-joined (clashes_of n h.never) (kind-of h.allow k_allow h.allow-among h.allow-kind) (met n h.never h.allow h.meet))

-- ---- what the search leaves
found : (l : List Clash) {x : Clash} → Among x l → head_of l ≡ kept → ⊥
unfolding head_of
found [] m e = elim m [ ]
found (c ∷ l) m e = false≢true (cc)

-- A search that finds nothing leaves no clash.
pub none_left : (n : ℕ) (rs : List Rule) {x : Clash} → never_broken n rs ≡ kept → ClashOf n rs x → ⊥
none_left n rs e c = found (clashes n rs) (of-clash n rs c) (sym (search_is n rs) ∙ e)
