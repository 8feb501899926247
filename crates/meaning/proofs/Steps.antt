-- What a word does to the reading of a statement. A word that begins none either ends it, or moves on to a position that is not the
-- first, or leaves the position (`step-cases`); so it leaves the keyword, or the statement is left (`keyword-kept`). The form that a
-- statement comes to is its keyword, or one of three that only `class`, `role` and `allow` come to (`Form`).
-- Each is by the tests in the definition, in their order.
-- Assumes nothing.
use mathlib.Core.Path.{◌≡◌, refl, sym, ◌∙◌, subst}
use mathlib.Core.Bool.{Bool, true, false, not, ◌&&◌, ◌||◌, false≢true, and-false, or-true}
use mathlib.Core.Logic.{◌⊎◌, inl, inr}
use Prim.Native.Nat.{ℕ, ◌≤◌, ◌<◌}
use native.Mathlib.Omega.{arith}
use borrow.Author.Tests.{eqb-true, leb-true, ltb-false}
use lib.Dec.{eqb, leb, ltb}
use Rattle.std.specs.Prelude.{if◌then◌else◌}
use Rattle.meaning.specs.Plain.{within}
use Rattle.meaning.specs.Statements.{Seen, begun, outside, moved, in_e, comparing, behind, compared, step_e, step_s, step, p_first, p_second, p_third, p_class, p_over, p_test, p_users, p_types, p_behind, minus, of_e, idle, saying, says, ends, form_at}
use Rattle.meaning.specs.Keywords.{k_name, k_open, k_close, k_lparen, k_rparen, k_semi, k_colon, k_comma, k_tilde, k_star, k_minus, k_class, k_common, k_role, k_allow, k_if, k_else, k_constrain, k_inherits, k_alias, k_true, k_false, k_self, k_u1, k_u2, k_r1, k_r2, k_perms, k_role_types, k_role_allow, starts, is_term}
use Rattle.meaning.proofs.Lists.{bool_cases, and_both, or_cases}
use Rattle.meaning.proofs.Lengths.{if-all}

-- a statement begins; `else` begins none
abbrev pub active : ℕ → Bool
active k = starts k && not (eqb k k_else)

pub active-starts : (k : ℕ) → active k ≡ true → starts k ≡ true
active-starts k a = (and_both (starts k) (not (eqb k k_else)) a).0

-- ---- the words that end a statement
pub starts-ends : (st : Seen) (k : ℕ) → starts k ≡ true → ends st k ≡ true
unfolding ends
starts-ends st k e = rw e

semi-ends : (st : Seen) (k : ℕ) → eqb k k_semi ≡ true → ends st k ≡ true
unfolding ends
semi-ends st k e = rw e (simp or-true)

brace-ends : (st : Seen) (k : ℕ) → eqb k k_open ≡ true → (eqb st.kw k_if || eqb st.kw k_else) ≡ true → ends st k ≡ true
unfolding ends
brace-ends st k e f = rw (e, f) (simp or-true)

-- ---- a step
pub compared_is : (k : ℕ) → within p_users p_types (compared k) ≡ true
unfolding compared
compared_is k =
    let P : ℕ → Type 0 = λ p. within p_users p_types p ≡ true in
    if-all P (within k_u1 k_u2 k) (λ e. refl) (λ e. if-all P (within k_r1 k_r2 k) (λ e. refl) (λ e. refl))

compared-later : (k : ℕ) → 0 < compared k
compared-later k = omega (arith, leb-true p_users (compared k) (and_both (leb p_users (compared k)) _ (compared_is k)).0)

behind-later : (st : Seen) → 0 < behind st
unfolding behind
behind-later st =
    bool_cases (eqb st.kw k_constrain && eqb st.pos p_second) (λ e. rw e (omega arith))
    (λ e. rw e (bool_cases (ltb st.pos p_over) (λ e. rw e (omega arith))
    (λ e. rw e (let h : p_over ≤ st.pos = ltb-false st.pos p_over e in omega arith))))

module _ (P : Seen → Type 0) (st : Seen) (k : ℕ) (gone : ends st k ≡ true → P outside) (on : (p d : ℕ) → 0 < p → P (moved st p d))
    (still : (s : ℕ) (b : Bool) → P (record { kw = st.kw; pos = st.pos; sign = s; inside = b; depth = st.depth })) where
  either : (b : Bool) {x y : Seen} → P x → P y → P (if b then x else y)
  either b p q = if-all P b (λ e. p) (λ e. q)

  e-cases : P (step_e st k)
  unfolding step_e
  e-cases =
      either (comparing st)
      (either (eqb k k_open) (still _ _)
      (either (is_term k || eqb k k_close || (eqb k k_name && not st.inside)) (on p_test _ (omega arith)) (still _ _)))
      (either (is_term k) (on _ _ (compared-later k)) (either (eqb k k_lparen) (on p_test _ (omega arith))
      (either (eqb k k_rparen) (either (eqb st.depth 0) (on p_behind _ (omega arith)) (on p_test _ (omega arith))) (still _ _))))

  s-cases : P (step_s st k)
  unfolding step_s
  s-cases =
      if-all P (eqb k k_open)
      (λ e. if-all P (eqb st.kw k_if || eqb st.kw k_else) (λ f. gone (brace-ends st k e f)) (λ f. still _ _))
      (λ e. either (eqb k k_close) (on _ _ (behind-later st)) (either (eqb k k_lparen && eqb st.kw k_if) (on p_test _ (omega arith))
      (either (eqb k k_colon) (on p_class _ (omega arith)) (either (eqb k k_comma) (on p_second _ (omega arith))
      (either (eqb k k_alias || eqb k k_inherits) (on p_third _ (omega arith))
      (either (eqb k k_minus) (still _ _) (either (eqb k k_tilde) (still _ _)
      (either (eqb k k_name || eqb k k_self || eqb k k_star)
      (either (not st.inside) (on _ _ (behind-later st)) (either (eqb st.sign minus) (still _ _) (still _ _))) (still _ _)))))))))

  step-cases : starts k ≡ false → P (step st k)
  unfolding step
  step-cases h = rw (h, step) (after (eqb k k_semi) (in_e st) (semi-ends st k)) where
    after : (a b : Bool) → (a ≡ true → ends st k ≡ true)
        → P (elim a as (λ x. Seen) [ true ↦ outside | false ↦ elim b as (λ x. Seen) [ true ↦ step_e st k | false ↦ step_s st k ] ])
    after true b e = gone (e refl)
    after false true e = e-cases
    after false false e = s-cases

  -- where the word ends nothing
  step-on : ends st k ≡ false → P (step st k)
  step-on e = bool_cases (starts k) (λ a. absurd (false≢true (sym e ∙ starts-ends st k a))) step-cases

pub begin-step : (st : Seen) (k : ℕ) → starts k ≡ true → step st k ≡ begun k
unfolding step
begin-step st k a = rw (a, step)

-- ---- the keyword
pub stays : (st : Seen) (k : ℕ) → ends st k ≡ false → (step st k).kw ≡ st.kw
stays st k e = step-on (λ x. x.kw ≡ st.kw) st k (λ z. absurd (false≢true (sym e ∙ z))) (λ p d h. refl) (λ s b. refl) e

-- behind `else`, as outside statements, nothing is said
pub left_behind : (st : Seen) (k : ℕ) → starts k ≡ true → active k ≡ false → active (step st k).kw ≡ false
left_behind st k a h = rw (begin-step st k a) h

pub keyword-kept : (st : Seen) (k : ℕ) → active k ≡ false → ((step st k).kw ≡ st.kw) ⊎ (active (step st k).kw ≡ false)
keyword-kept st k h =
    bool_cases (starts k) (λ a. inr (left_behind st k a h))
    (step-cases (λ x. (x.kw ≡ st.kw) ⊎ (active x.kw ≡ false)) st k (λ z. inr refl) (λ p d n. inl refl) (λ s b. inl refl))

-- where no statement is, none comes unless one begins
pub quiet-on : (st : Seen) (k : ℕ) → active k ≡ false → active st.kw ≡ false → active (step st k).kw ≡ false
quiet-on st k a h =
    bool_cases (starts k) (λ s. left_behind st k s a) (step-cases (λ x. active x.kw ≡ false) st k (λ z. refl) (λ p d n. h) (λ s b. h))

-- ---- the first position is not come back to, and a name that stands there alone leaves it
pub first-before : (st : Seen) (k : ℕ) → ends st k ≡ false → (step st k).pos ≡ p_first → st.pos ≡ p_first
first-before st k e =
    step-on (λ x. x.pos ≡ p_first → st.pos ≡ p_first) st k (λ z. absurd (false≢true (sym e ∙ z))) (λ p d n h. absurd (omega arith)) (λ s b h. h) e

pub first-left : (st : Seen) → st.pos ≡ p_first → st.inside ≡ false → (step st k_name).pos ≡ p_first → ⊥
unfolding step step_s
first-left st p i =
    let b = behind-later (record { kw = st.kw; pos = p_first; sign = st.sign; inside = false; depth = st.depth }) in
    rw (p, i) (λ h. omega arith)

-- ---- words that say something
pub say-cases : (P : ℕ → Type 0) (k : ℕ) → saying k ≡ true → P k_name → P k_self → P k_star → P k_true → P k_false → P k
say-cases P k e n s t y f =
    or_cases (((eqb k k_name || eqb k k_self) || eqb k k_star) || eqb k k_true) (eqb k k_false) e
    (λ e. or_cases ((eqb k k_name || eqb k k_self) || eqb k k_star) (eqb k k_true) e
    (λ e. or_cases (eqb k k_name || eqb k k_self) (eqb k k_star) e
    (λ e. or_cases (eqb k k_name) (eqb k k_self) e (is k_name n) (is k_self s)) (is k_star t)) (is k_true y)) (is k_false f) where
      is : (x : ℕ) → P x → eqb k x ≡ true → P k
      is x p z = rw (eqb-true k x z) p

pub ends-silent : (st : Seen) (k : ℕ) → ends st k ≡ true → saying k ≡ false
unfolding ends
ends-silent st k e =
    bool_cases (saying k) (λ s. absurd (false≢true (sym (say-cases (λ x. ends st x ≡ false) k s refl refl refl refl refl) ∙ e))) (λ s. s)

pub stop-silent : (st : Seen) (k : ℕ) → (starts k || eqb k k_semi) ≡ true → says st k ≡ false
unfolding says of_e ends
stop-silent st k h =
    let y : saying k ≡ false = ends-silent st k (rw h) in
    or_cases (starts k) (eqb k k_semi) h (λ z. rw (y, z) (simp and-false)) (λ z. rw (y, z) (simp and-false))

-- where no statement is, no word says anything
pub says-quiet : (st : Seen) (k : ℕ) → active st.kw ≡ false → says st k ≡ false
unfolding says
says-quiet st k h = rw h

-- what says something is a word of an expression, or a name or the like
pub says-what : (st : Seen) (k : ℕ) → says st k ≡ true → (of_e st k || saying k) ≡ true
unfolding says
says-what st k e = (and_both (active st.kw && not (idle st)) (of_e st k || saying k) e).1

pub of_e-in : (st : Seen) (k : ℕ) → of_e st k ≡ true → in_e st ≡ true
unfolding of_e
of_e-in st k e = bool_cases (in_e st) (λ z. z) (λ z. absurd (false≢true (rw z at e)))

-- ---- the form of a statement by its keyword
pub data Form (k : ℕ) : ℕ → Type 0 where
  none : Form k 0
  own : Form k k
  perms : k ≡ k_class → Form k k_perms
  types : k ≡ k_role → Form k k_role_types
  roles : k ≡ k_allow → Form k k_role_allow

pub form-at : (st : Seen) (k : ℕ) → Form st.kw (form_at st k)
unfolding form_at
form-at st k =
    pick (eqb st.kw k_class)
    (λ c. pick (eqb st.pos p_second && (eqb k k_class || eqb k k_common)) (λ d. is k_class c) (λ d. perms (eqb-true st.kw k_class c)))
    (λ c. pick (eqb st.kw k_common || eqb st.kw k_if) (λ d. own)
    (λ d. pick (not (eqb k k_semi)) (λ e. none)
    (λ e. pick (eqb st.kw k_role)
    (λ f. pick (eqb st.pos p_second) (λ g. is k_role f) (λ g. types (eqb-true st.kw k_role f)))
    (λ f. pick (eqb st.kw k_allow && eqb st.pos p_third)
    (λ g. roles (eqb-true st.kw k_allow (and_both (eqb st.kw k_allow) (eqb st.pos p_third) g).0)) (λ g. own))))) where
      pick : (b : Bool) {x y : ℕ} → (b ≡ true → Form st.kw x) → (b ≡ false → Form st.kw y) → Form st.kw (if b then x else y)
      pick b = if-all (Form st.kw) b

      is : (m : ℕ) → eqb st.kw m ≡ true → Form st.kw m
      is m e = subst (Form st.kw) (eqb-true st.kw m e) own

-- a form that is a keyword is that of the statement
pub form-keyword : {k f : ℕ} → Form k f → (m : ℕ) → starts m ≡ true → f ≡ m → k ≡ m
form-keyword none m s h = absurd (false≢true (rw (sym h) at s))
form-keyword own m s h = h
form-keyword (perms e) m s h = absurd (false≢true (rw (sym h) at s))
form-keyword (types e) m s h = absurd (false≢true (rw (sym h) at s))
form-keyword (roles e) m s h = absurd (false≢true (rw (sym h) at s))
