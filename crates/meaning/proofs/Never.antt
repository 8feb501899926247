-- The promise: what access allows, after whatever switch calls, no neverallow of the accepted text covers.
-- A switch changes booleans only, so the rows are the text's. An allowed bit is covered by an allow row in force, in some branch, and so
-- by an allow statement (Rows); with a neverallow that covers the same the text would have got 9 (Nine).
-- Assumes nothing.
use mathlib.Core.Path.{◌≡◌, refl, sym, ap, ◌∙◌, subst, transport}
use mathlib.Core.Bool.{Bool, true, ◌&&◌, false≢true}
use mathlib.Core.List.{List, [], ◌∷◌}
use Prim.Native.Nat.{ℕ, zero, suc, ◌<◌}
use borrow.Author.Tests.{eqb-true}
use lib.Dec.{eqb}
use lib.ListN.{length, get_or}
use Rattle.meaning.specs.Plain.{any, same_bytes, nowhere}
use Rattle.meaning.specs.Statements.{Statement}
use Rattle.meaning.specs.Names.{declared_twice}
use Rattle.meaning.specs.Sets.{Names, type_named, names_of}
use Rattle.meaning.specs.Coverage.{covers}
use Rattle.meaning.specs.Policy.{Switch, Row, Policy}
use Rattle.meaning.specs.Rules.{class_number, policy_of}
use Rattle.meaning.specs.Contexts.{Context, reads, nameless, class_at, type_number, parts, context_of, Asked, refused_with, about, asked}
use Rattle.meaning.specs.Access.{in_force, row_covers, covered, constrains_hold, roles_fit, own_allows, allows, number, bit_of, refused_answer, answered, access}
use Rattle.meaning.specs.Questions.{with_bools, switch, Call, after_calls}
use Rattle.meaning.specs.Keywords.{k_allow, k_neverallow}
use Rattle.meaning.specs.Refusals.{accepted}
use Rattle.meaning.specs.Load.{load}
use Rattle.meaning.proofs.Lists.{Among, bool_cases, if-both, and_both, any-among, at-among}
use Rattle.meaning.proofs.Accepted.{statements_in, names_in, policy_in, stands}
use Rattle.meaning.proofs.Listed.{types-counted}
use Rattle.meaning.proofs.Apart.{types-apart}
use Rattle.meaning.proofs.Asked.{About, about-of, reads_type, class-reads}
use Rattle.meaning.proofs.Masks.{bit-number, mask-bit, mask_below}
use Rattle.meaning.proofs.Nine.{accepted-only}
use Rattle.meaning.proofs.Typed.{type-means}
use Rattle.meaning.proofs.Rows.{type_name, class_in, class_name, perm_name, row-statement}

-- ---- switch calls change booleans only
switch-bools : (p : Policy) (x : List ℕ) (v : Bool) (bs : List Switch) → with_bools (switch p x v).policy bs ≡ with_bools p bs
unfolding switch with_bools
switch-bools p x v bs = bool_cases (any (λ b. same_bytes x b.name.text) p.bools) (λ e. rw e) (λ e. rw e)

pub calls-bools : (p : Policy) (cs : List Call) → (bs : List Switch) × (after_calls p cs ≡ with_bools p bs)
unfolding after_calls with_bools
calls-bools p [] = (p.bools, refl)
calls-bools p (c ∷ cs) =
    let q = (switch p c.bool c.on).policy in
    let h = calls-bools q cs in
    (h.0, h.1 ∙ switch-bools p c.bool c.on h.0)

-- ---- an allowed bit is covered by an allow row
own-covered : (p : Policy) (s t : Context) (c i : ℕ) → own_allows p s t c i ≡ true → covered p k_allow s.type t.type c i ≡ true
unfolding own_allows
own-covered p s t c i e =
    (and_both _ (constrains_hold p s t c i) (and_both (covered p k_allow s.type t.type c i && constrains_hold p s t c i) (roles_fit p s t c i) e).0).0

allows-own : (p : Policy) (left : ℕ) (s t : Context) (c i : ℕ) → allows p left s t c i ≡ true → own_allows p s t c i ≡ true
unfolding allows
allows-own p zero s t c i e = e
allows-own p (suc left) s t c i e = (if-both (own_allows p s t c i) _ e).0

covered-row : (p : Policy) (k s t c i : ℕ) → covered p k s t c i ≡ true → (r : Row) × Among r p.rows × (r.kind ≡ k) × (row_covers r s t c i ≡ true)
unfolding covered
covered-row p k s t c i e =
    let f : Row → Bool = λ r. eqb r.kind k && row_covers r s t c i && in_force p r.branch in
    let h = any-among f p.rows e in
    let r = h.0 in
    let b = and_both (eqb r.kind k) (row_covers r s t c i) (and_both (eqb r.kind k && row_covers r s t c i) (in_force p r.branch) h.2).0 in
    (r, h.1, eqb-true _ _ b.0, b.1)

-- what an answer with bit i allowed to the question q rests on: q is not refused, an allow row covers it, i is a permission of the class
record Allowed (p : Policy) (q : Asked) (i : ℕ) : Type 0 where
  source : Context
  target : Context
  class : ℕ
  is : q ≡ about source target class
  row : Row
  among : Among row p.rows
  kind : row.kind ≡ k_allow
  covering : row_covers row source.type target.type class i ≡ true
  below : i < length (class_at p class).perms

allowed-row : (p : Policy) (q : Asked) (i : ℕ) → bit_of (answered p q).allowed i ≡ true → Allowed p q i
unfolding answered refused_answer number
allowed-row p (refused_with n) i h = absurd (false≢true (sym (bit-number [] i) ∙ h))
allowed-row p (about a b m) i h =
    let n = length (class_at p m).perms in
    let f = allows p (length p.types) a b m in
    let l : i < n = mask_below n f i h in
    let r = covered-row p k_allow a.type b.type m i (own-covered p a b m i (allows-own p (length p.types) a b m i (sym (mask-bit n f i l) ∙ h))) in
    record { source = a; target = b; class = m; is = refl; row = r.0; among = r.1; kind = r.2; covering = r.3; below = l }

-- ---- the promise
-- some neverallow among the statements covers the source s, target t, class c and permission x
pub record Forbids (ss : List Statement) (s t c x : List ℕ) : Type 0 where
  pub never : Statement
  pub among : Among never ss
  pub form : never.form ≡ k_neverallow
  pub covering : covers (names_of ss) never s t c x ≡ true

-- the name of the type of the context x: what its third part means, a type's name or an alias
abbrev pub type_in : Names → List ℕ → List ℕ
type_in n x = type_named n.aliases (get_or (parts x) 2 [])

-- the name of permission i of the class k
abbrev pub permission_in : Names → List ℕ → ℕ → List ℕ
permission_in n k i = perm_name n (class_number n.classes k) i

type-of : (s : List ℕ) → declared_twice (statements_in s) ≡ nowhere → (bs : List Switch) (x : List ℕ) (a : Context)
    → context_of (with_bools (policy_in s) bs) x ≡ reads a → (a.type < length (names_in s).types) × (type_in (names_in s) x ≡ type_name (names_in s) a.type)
unfolding with_bools type_number
type-of s once bs x a e =
    let r = reads_type (with_bools (policy_in s) bs) x a e in
    let h : a.type < length (names_in s).types = subst (λ (l : ℕ). a.type < l) (types-counted (statements_in s)) r.1 in
    (h, sym (type-means s once (get_or (parts x) 2 []) a.type r.0 h))

-- the same of the text's policy with its booleans set in whatever way
keeps : (s : List ℕ) → (load s).number ≡ accepted → (bs : List Switch) (x y k : List ℕ) (i : ℕ)
    → bit_of (access (with_bools (policy_in s) bs) x y k).allowed i ≡ true
    → Forbids (statements_in s) (type_in (names_in s) x) (type_in (names_in s) y) k (permission_in (names_in s) k i) → ⊥
unfolding with_bools policy_of class_at access
keeps s e bs x y k i h f =
    let ss = statements_in s in
    let n = names_in s in
    let p = with_bools (policy_in s) bs in
    let once = (stands s e).earlier.once in
    let w : Allowed p (asked p x y k) i = allowed-row p (asked p x y k) i h in
    let a = w.source in
    let b = w.target in
    let m = w.class in
    let o : About p x y k a b m = about-of p x y k a b m w.is in
    let na = type-of s once bs x a o.source in
    let nb = type-of s once bs y b o.target in
    let nk : k ≡ class_name n m = sym (class-reads p k m o.class o.below) in
    let ni : permission_in n k i ≡ perm_name n m i = ap (λ (c : ℕ). perm_name n c i) o.class in
    let st = row-statement n ss (types-apart s once) a.type b.type m i na.0 nb.0 o.below w.below w.row w.among w.covering in
    accepted-only s e (record {
      never = f.never;
      allow = st.0;
      source = get_or n.types a.type nameless;
      target = get_or n.types b.type nameless;
      class = class_in n m;
      permission = get_or (class_in n m).perms i nameless;
      source-among = at-among n.types a.type nameless na.0;
      target-among = at-among n.types b.type nameless nb.0;
      class-among = at-among n.classes m (record { name = nameless; perms = [] }) o.below;
      permission-among = at-among (class_in n m).perms i nameless w.below;
      both =
          record {
            never-among = f.among;
            allow-among = st.1;
            never-form = f.form;
            allow-form = st.2 ∙ w.kind;
            by-never = transport (λ j. covers n f.never (na.1 j) (nb.1 j) (nk j) (ni j) ≡ true) f.covering;
            by-allow = st.4;
          };
    })

-- THE PROMISE. Take any text that is accepted, any run of switch calls, any bytes as contexts and class, any permission number. If access
-- allows the permission, then no neverallow of the text covers the source's type, the target's type, the class and the permission.
pub promise : (s : List ℕ) → (load s).number ≡ accepted → (cs : List Call) (x y k : List ℕ) (i : ℕ)
    → bit_of (access (after_calls (load s).policy cs) x y k).allowed i ≡ true
    → Forbids (statements_in s) (type_in (names_in s) x) (type_in (names_in s) y) k (permission_in (names_in s) k i) → ⊥
promise s e cs x y k i =
    let b = calls-bools (policy_in s) cs in
    rw ((stands s e).policy, b.1) (keeps s e b.0 x y k i)
