-- Which way an `if` of a definition goes, from the tests that led to a return of the code: the lemmas that `search` applies
-- backwards, until what is left is what the code answers there.
--
--   yes, no           the test holds, or fails, and the value is that of the branch
--   not_yes, not-no   a negated test
--   told              a test that a function of ours answered
--   moved_to          the state moved, with the position or the depth as a function of ours answered it
-- Assumes nothing.
use Prim.Native.Nat.{ℕ}
use mathlib.Core.Path.{◌≡◌, sym, ◌∙◌, ap, ap₂}
use mathlib.Core.Bool.{Bool, true, false, not, true≢false, false≢true}
use borrow.Author.Tests.{eq-eqb, ne_eqb, lt-ltb, le-ltb}
use Rattle.std.specs.Prelude.{if◌then◌else◌}
use Rattle.meaning.specs.Statements.{Seen, plain}

pub yes : {A : Type 0} (b : Bool) {x : A} (y : A) {z : A} → b ≡ true → z ≡ x → z ≡ (if b then x else y)
yes true y t e = e
yes false y t e = absurd (false≢true t)

pub no : {A : Type 0} (b : Bool) (x : A) {y z : A} → b ≡ false → z ≡ y → z ≡ (if b then x else y)
no true x t e = absurd (true≢false t)
no false x t e = e

pub not_yes : {b : Bool} → b ≡ false → not b ≡ true
not_yes e = ap not e

pub not-no : {b : Bool} → b ≡ true → not b ≡ false
not-no e = ap not e

pub told : {r b v : Bool} → r ≡ b → r ≡ v → b ≡ v
told p q = sym p ∙ q

-- the statement of keyword k at position p, of depth d
abbrev at : ℕ → ℕ → ℕ → Seen
at k p d = record { kw = k; pos = p; sign = plain; inside = false; depth = d }

pub moved_to : {s : Seen} {k p q d e : ℕ} → s ≡ at k p d → p ≡ q → d ≡ e → s ≡ at k q e
moved_to {k = k} h p d = h ∙ ap₂ (at k) p d

pub ruleset ways = (yes, no, not_yes, not-no, told, moved_to, eq-eqb, ne_eqb, lt-ltb, le-ltb)
