-- The branches as numbers: 0 outside ifs, 2 i + 1 in the first branch of if i, 2 i + 2 in its `else`.
--
--   most              the bytes of the longest text, and so the most rows of each kind and the most ifs
--   branch_of c       the branch under the number c
--   branch_number b   the number of the branch b: the two go back and forth
use Rattle.std.specs.Prelude.{ℕ, ◌+◌, ◌-◌, ◌*◌, ◌/◌, ◌%◌, ◌≡◌, Bool, true, false, eqb, if◌then◌else◌}
use Rattle.std.proofs.Common.{refl, arith}
use borrow.Author.Tests.{ne_eqb, eqb-true, eqb-false}
use Rattle.meaning.specs.Statements.{Branch, always, when_true, when_false}

abbrev pub most : ℕ
most = 32768

unfoldable pub branch_of : ℕ → Branch
branch_of c = if eqb c 0 then always else if eqb (c % 2) 1 then when_true (c / 2) else when_false (c / 2 - 1)

unfoldable pub branch_number : Branch → ℕ
branch_number always = 0
branch_number (when_true i) = 2 * i + 1
branch_number (when_false i) = 2 * i + 2

pub number-branch : (c : ℕ) → branch_number (branch_of c) ≡ c
unfolding branch_of branch_number
number-branch c = by (eqb c 0) (eqb (c % 2) 1) refl refl
  where
    by : (t u : Bool) → eqb c 0 ≡ t → eqb (c % 2) 1 ≡ u
        → branch_number (if t then always else if u then when_true (c / 2) else when_false (c / 2 - 1)) ≡ c
    by true u e f = omega (arith, eqb-true c 0 e)
    by false true e f = omega (arith, eqb-true (c % 2) 1 f)
    by false false e f = let z = eqb-false c 0 e in let o = eqb-false (c % 2) 1 f in omega arith

pub branch-number : (b : Branch) → branch_of (branch_number b) ≡ b
unfolding branch_of branch_number
branch-number always = refl
branch-number (when_true i) =
    let half : (2 * i + 1) / 2 ≡ i = omega arith in
    let odd : (2 * i + 1) % 2 ≡ 1 = omega arith in
    rw (ne_eqb (2 * i + 1) 0 (omega arith), odd, half)
branch-number (when_false i) =
    let half : (2 * i + 2) / 2 - 1 ≡ i = omega arith in
    let even : (2 * i + 2) % 2 ≡ 0 = omega arith in
    rw (ne_eqb (2 * i + 2) 0 (omega arith), even, half)

pub ruleset numbers = (number-branch)
