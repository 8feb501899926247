-- Refusal 9. "The clash shown with 9 is the smallest by place of the neverallow (also the answer's place), place of the allow, source
-- number, target number, class number, permission; numbers by declaration order. The search goes through the statements by place,
-- then types, classes and permissions by number, and stops at the first."
-- An allow clashes in either branch of any if, whatever the booleans and the constrains: neither is looked at here.
--
--   clashes n rs      all clashes of the rules rs, n the number of types, in that order
--   never_broken n rs  the first of them (proofs/Clashes.antt)
use Rattle.std.specs.Prelude.{ℕ, Bool, ◌&&◌, ◌||◌, List, [], ◌∷◌, eqb, get_or, length}
use Rattle.meaning.specs.Plain.{keep, each, joined, up_to}
use Rattle.meaning.specs.Policy.{Set, holds, Rule}
use Rattle.meaning.specs.Keywords.{k_allow, k_neverallow}

pub record Clash : Type 0 where
  pub never : ℕ
  pub allow : ℕ
  pub source : ℕ
  pub target : ℕ
  pub class : ℕ
  pub permission : ℕ

pub data Search : Type 0 where
  kept : Search
  broken : Clash → Search

-- ---- what a rule covers, by numbers
-- "`self` adds the pairs (s, s)"
unfoldable pub rule_pair : Rule → ℕ → ℕ → Bool
rule_pair r s t = holds r.source s && (holds r.target t || (r.self && eqb s t))

unfoldable pub rule_perms : Rule → ℕ → Set
rule_perms r c = get_or r.perms c []

-- ---- what two rules both cover
pub record Two : Type 0 where
  pub first : ℕ
  pub second : ℕ

abbrev pub pair : ℕ → ℕ → Two
pair x y = record { first = x; second = y }

-- the pairs of a source and a target
unfoldable pub targets_of : ℕ → Rule → Rule → ℕ → List Two
targets_of n a b s = each (pair s) (keep (λ t. rule_pair a s t && rule_pair b s t) (up_to n))

unfoldable pub pairs_of : ℕ → Rule → Rule → List Two
pairs_of n a b = joined (targets_of n a b) (keep (λ s. holds a.source s && holds b.source s) (up_to n))

-- the pairs of a class and a permission
unfoldable pub shared_of : Rule → Rule → ℕ → List Two
shared_of a b c = each (pair c) (keep (λ i. holds (rule_perms a c) i && holds (rule_perms b c) i) (up_to (length (rule_perms a c))))

unfoldable pub permissions_of : Rule → Rule → List Two
permissions_of a b = joined (shared_of a b) (up_to (length a.perms))

unfoldable pub clash_at : Rule → Rule → Two → Two → Clash
clash_at a b x y =
    record { never = a.at; allow = b.at; source = x.first; target = x.second; class = y.first; permission = y.second }

-- the clashes of a neverallow and an allow
unfoldable pub clashes_of : ℕ → Rule → Rule → List Clash
clashes_of n a b = let ys = permissions_of a b in joined (λ x. each (clash_at a b x) ys) (pairs_of n a b)

-- ---- all of them
unfoldable pub of_kind : ℕ → List Rule → List Rule
of_kind k rs = keep (λ r. eqb r.kind k) rs

unfoldable pub clashes : ℕ → List Rule → List Clash
clashes n rs = joined (λ a. joined (clashes_of n a) (of_kind k_allow rs)) (of_kind k_neverallow rs)

-- ---- the first
unfoldable pub head_of : List Clash → Search
head_of [] = kept
head_of (c ∷ cs) = broken c

abbrev pub or_next : Search → Search → Search
or_next kept r = r
or_next (broken c) r = broken c

unfoldable pub first_over : {A : Type 0} → (A → Search) → List A → Search
first_over f [] = kept
first_over f (x ∷ xs) = let r = first_over f xs in or_next (f x) r

unfoldable pub never_broken : ℕ → List Rule → Search
never_broken n rs = let bs = of_kind k_allow rs in first_over (λ a. first_over (λ b. head_of (clashes_of n a b)) bs) (of_kind k_neverallow rs)
