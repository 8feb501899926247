-- A context is read exactly if its user, role and type exist and it is valid: the reading, which tells the first part that is wrong,
-- and `valid`, which computed contexts are judged by, say one thing. By cases on the tests.
-- Assumes nothing.
use mathlib.Core.Path.{◌≡◌, refl}
use mathlib.Core.Bool.{Bool, true, false, not, ◌&&◌, ◌||◌, false≢true}
use Prim.Native.Nat.{◌<◌}
use borrow.Author.Tests.{ltb-true, lt-ltb}
use lib.Dec.{ltb}
use lib.ListN.{length}
use Rattle.std.specs.Prelude.{if◌then◌else◌}
use Rattle.meaning.specs.Policy.{Policy}
use Rattle.meaning.specs.Contexts.{Context, no_user, no_role, no_type, role_without_type, user_without_role, Reading, wrong, reads, is_object, role_has, user_has, valid, judged}

-- the user, the role and the type are of the policy
pub record Exists (p : Policy) (c : Context) : Type 0 where
  pub user : c.user < length p.users
  pub role : c.role < length p.roles
  pub type : c.type < length p.types

-- the tests of `judged`, one after the other
tried : Bool → Bool → Bool → Bool → Bool → Bool → Context → Reading
tried u r t o h k c =
    if not u then wrong no_user
    else if not r then wrong no_role
    else if not t then wrong no_type
    else if o then reads c
    else if not h then wrong role_without_type
    else if not k then wrong user_without_role
    else reads c

passed : (u r t o h k : Bool) (c d : Context) → tried u r t o h k c ≡ reads d
    → (u ≡ true) × (r ≡ true) × (t ≡ true) × ((o || (h && k)) ≡ true) × (c ≡ d)
unfolding tried
passed false r t o h k c d e = absurd (false≢true (cc))
passed true false t o h k c d e = absurd (false≢true (cc))
passed true true false o h k c d e = absurd (false≢true (cc))
passed true true true true h k c d e = (refl, refl, refl, refl, cc)
passed true true true false false k c d e = absurd (false≢true (cc))
passed true true true false true false c d e = absurd (false≢true (cc))
passed true true true false true true c d e = (refl, refl, refl, refl, cc)

passes : (u r t o h k : Bool) (c : Context) → u ≡ true → r ≡ true → t ≡ true → (o || (h && k)) ≡ true → tried u r t o h k c ≡ reads c
unfolding tried
passes u r t true h k c a b d e = rw (a, b, d)
passes u r t false true true c a b d e = rw (a, b, d)
passes u r t false true false c a b d e = absurd (false≢true (cc))
passes u r t false false k c a b d e = absurd (false≢true (cc))

-- A context that is read exists and is valid, and nothing else is read.
pub read_only : (p : Policy) (c d : Context) → judged p c ≡ reads d → Exists p c × (valid p c ≡ true) × (c ≡ d)
unfolding judged tried valid
read_only p c d e =
    let h = passed (ltb c.user (length p.users)) (ltb c.role (length p.roles)) (ltb c.type (length p.types))
    (is_object c) (role_has p c) (user_has p c) c d e in
    (record { user = ltb-true _ _ h.0; role = ltb-true _ _ h.1; type = ltb-true _ _ h.2 }, h.3, h.4)

-- A context that exists and is valid is read.
pub read-if : (p : Policy) (c : Context) → Exists p c → valid p c ≡ true → judged p c ≡ reads c
unfolding judged tried valid
read-if p c x v =
    passes (ltb c.user (length p.users)) (ltb c.role (length p.roles)) (ltb c.type (length p.types))
    (is_object c) (role_has p c) (user_has p c) c (lt-ltb _ _ x.user) (lt-ltb _ _ x.role) (lt-ltb _ _ x.type) v
