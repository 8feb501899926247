-- The forms of a statement that are its keyword, where a later page asks for them (`plain_form`). A statement of such a form is ended by
-- `;` (`form-plain`): at another word its form is none of these.
-- Assumes nothing.
use Prim.Native.Nat.{ℕ}
use mathlib.Core.Path.{◌≡◌, refl, sym, ◌∙◌}
use mathlib.Core.Bool.{Bool, true, false, not, ◌&&◌, ◌||◌, false≢true}
use borrow.Author.Tests.{eqb-true}
use lib.Dec.{eqb}
use Rattle.std.specs.Prelude.{if◌then◌else◌}
use Rattle.meaning.specs.Keywords.{k_semi, k_class, k_common, k_type, k_typealias, k_typebounds, k_role, k_role_transition, k_allow, k_if, k_constrain, k_perms, k_role_types, k_role_allow, is_type_rule, is_av}
use Rattle.meaning.specs.Statements.{Seen, form_at, p_second, p_third}
use Rattle.meaning.proofs.Lists.{or_cases}

abbrev pub plain_form : ℕ → Bool
plain_form k =
    is_av k || is_type_rule k || eqb k k_type || eqb k k_typealias || eqb k k_typebounds || eqb k k_role_transition || eqb k k_constrain

abbrev form_by : Bool → Bool → Bool → Bool → Bool → Bool → Bool → ℕ → ℕ
form_by class two other semi role one allow w =
    if class then (if two then k_class else k_perms)
    else if other then w
    else if not semi then 0
    else if role then (if one then k_role else k_role_types)
    else if allow then k_role_allow
    else w

form-by : (class two other semi role one allow : Bool) (w : ℕ) → (other ≡ true → plain_form w ≡ false)
    → plain_form (form_by class two other semi role one allow w) ≡ true → (form_by class two other semi role one allow w ≡ w) × (semi ≡ true)
form-by true true other semi role one allow w h e = absurd (false≢true e)
form-by true false other semi role one allow w h e = absurd (false≢true e)
form-by false two true semi role one allow w h e = absurd (false≢true (sym (h refl) ∙ e))
form-by false two false false role one allow w h e = absurd (false≢true e)
form-by false two false true true true allow w h e = absurd (false≢true e)
form-by false two false true true false allow w h e = absurd (false≢true e)
form-by false two false true false one true w h e = absurd (false≢true e)
form-by false two false true false one false w h e = (refl, refl)

pub form-plain : (st : Seen) (k : ℕ) → plain_form (form_at st k) ≡ true → (form_at st k ≡ st.kw) × (eqb k k_semi ≡ true)
unfolding form_at
form-plain st k e =
    form-by (eqb st.kw k_class) (eqb st.pos p_second && (eqb k k_class || eqb k k_common)) (eqb st.kw k_common || eqb st.kw k_if)
    (eqb k k_semi) (eqb st.kw k_role) (eqb st.pos p_second) (eqb st.kw k_allow && eqb st.pos p_third) st.kw
    (λ h. or_cases (eqb st.kw k_common) (eqb st.kw k_if) h (λ p. rw (eqb-true st.kw k_common p)) (λ p. rw (eqb-true st.kw k_if p))) e
