-- A `class` or `role` statement that declares has one name: the first position is left behind it and not come back to, and a braced
-- list there says nothing. So `class` and `role` may be counted by statements (`all-single`).
-- Assumes nothing.
use mathlib.Core.Path.{◌≡◌, refl, sym, ◌∙◌}
use mathlib.Core.Bool.{Bool, true, false, not, ◌&&◌, ◌||◌, false≢true}
use Prim.Native.Nat.{ℕ, ◌≤◌}
use native.Mathlib.Omega.{arith}
use borrow.Author.Tests.{eqb-true, eq-eqb, ne_eqb, not-true}
use lib.Dec.{eqb}
use lib.ListN.{length}
use Rattle.meaning.specs.Plain.{keep}
use Rattle.meaning.specs.Words.{Word}
use Rattle.meaning.specs.Statements.{Seen, outside, step, of_e, Item, saying, idle, says, item_of, ends, Gathered, names_at, p_first}
use Rattle.meaning.specs.Sizes.{Counts, no_counts}
use Rattle.meaning.specs.Keywords.{starts, k_name, k_open, k_semi, k_class, k_role, k_if, k_else}
use Rattle.meaning.proofs.Lists.{bool_cases, and_both, or_cases}
use Rattle.meaning.proofs.Lengths.{one_if, one-two, All, keep-if}
use Rattle.meaning.proofs.Steps.{active, left_behind, stays, first-before, first-left, stop-silent, Form, form-keyword}
use Rattle.meaning.proofs.Passed.{Passed, done, begins, goes, nothing_said, form_of, statements-all}

unfoldable pub single : ℕ → Bool
single k = eqb k k_class || eqb k k_role

single-cases : (P : ℕ → Type 0) (k : ℕ) → single k ≡ true → P k_class → P k_role → P k
unfolding single
single-cases P k e c r = or_cases (eqb k k_class) (eqb k k_role) e (λ z. rw (eqb-true k k_class z) c) (λ z. rw (eqb-true k k_role z) r)

-- a name at the first position
abbrev pub named : Item → Bool
named i = eqb i.pos p_first && eqb i.kind k_name

-- behind the word that ends such a statement nothing is said
stopped : (st : Seen) (k : ℕ) → single st.kw ≡ true → ends st k ≡ true → active k ≡ false
    → (says st k ≡ false) × (active (step st k).kw ≡ false)
unfolding ends step
stopped st k s e a =
    or_cases (starts k || eqb k k_semi) (eqb k k_open && (eqb st.kw k_if || eqb st.kw k_else)) e
    (λ h. (stop-silent st k h, bool_cases (starts k) (λ z. left_behind st k z a) (λ z. rw (eqb-true k k_semi (rw z at h)))))
    (λ h. absurd (false≢true (sym (single-cases (λ x. (eqb x k_if || eqb x k_else) ≡ false) st.kw s refl refl)
    ∙ (and_both (eqb k k_open) _ h).1)))

said-outside : (st : Seen) (k : ℕ) → says st k ≡ true → single st.kw ≡ true → st.pos ≡ p_first → st.inside ≡ false
unfolding says idle single
said-outside st k h s p =
    let a = (and_both (active st.kw && not (idle st)) (of_e st k || saying k) h).0 in
    let i = not-true (idle st) (and_both (active st.kw) (not (idle st)) a).1 in
    rw (s, p) at i

moves-on : (st : Seen) (w : Word) → single st.kw ≡ true → (says st w.kind && named (item_of st w)) ≡ true
    → (eqb st.pos p_first ≡ true) × (eqb (step st w.kind).pos p_first ≡ false)
unfolding item_of
moves-on st w s h =
    let a = and_both (says st w.kind) (named (item_of st w)) h in
    let b = and_both (eqb st.pos p_first) (eqb w.kind k_name) a.1 in
    let p : st.pos ≡ p_first = eqb-true st.pos p_first b.0 in
    (b.0, rw (eqb-true w.kind k_name b.1) (ne_eqb _ p_first (first-left st p (said-outside st w.kind a.0 s p))))

one_name : {st : Seen} {c : Counts} {g : Gathered} → Passed st c g → single st.kw ≡ true
    → length (keep named g.items) ≤ one_if (eqb st.pos p_first)
one_name done s = omega arith
one_name (begins w b a f p) s = omega arith
one_name {st} (goes {r = r} w a f p) s =
    let k = keep-if named (says st w.kind) (item_of st w) r.items in
    bool_cases (ends st w.kind)
    (λ e. let q = stopped st w.kind s e a in rw (q.0, nothing_said p q.1) (omega arith))
    (λ e.
    let ih = one_name p (rw (stays st w.kind e) s) in
    let o = one-two (says st w.kind && named (item_of st w)) (eqb (step st w.kind).pos p_first) (eqb st.pos p_first)
    (λ h. (moves-on st w s h).0)
    (λ h. eq-eqb st.pos p_first (first-before st w.kind e (eqb-true (step st w.kind).pos p_first h)))
    (λ h. (moves-on st w s h).1) in
    omega arith)

pub all-single : {g : Gathered} → Passed outside no_counts g
    → All (λ s. single s.form ≡ true → length (names_at p_first s) ≤ 1) g.rest
unfolding names_at one_if
all-single p = statements-all _ (λ k q b c r a z p h. one_name p (rw (is-form (form_of p) h) h)) p where
  is-form : {k f : ℕ} → Form k f → single f ≡ true → k ≡ f
  is-form {f = f} o h = form-keyword o f (single-cases (λ x. starts x ≡ true) f h refl refl) refl
