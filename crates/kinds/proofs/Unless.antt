-- What an answer of `unless` says of the number: it is the one that stands for none (`unless-none`), or it is the answer and not that
-- one (`unless-some`).
-- Assumes nothing.
use Rattle.std.proofs.Common.{ℕ, Bool, true, false, ◌≡◌, refl}
use Rattle.std.specs.Prelude.{eqb, Some, None, if◌then◌else◌}
use borrow.Author.Tests.{eqb-true, eqb-false}
use Rattle.kinds.specs.Kinds.{unless}

pub unless-none : (n k : ℕ) → None ≡ unless n k → k ≡ n
unless-none n k e = by (eqb k n) refl e
  where
    by : (t : Bool) → eqb k n ≡ t → None ≡ (if t then None else Some k) → k ≡ n
    by true q e = eqb-true k n q
    by false q e = absurd (cc e)

pub unless-some : (n k j : ℕ) → Some j ≡ unless n k → (j ≡ k) × (k ≡ n → ⊥)
unless-some n k j e = by (eqb k n) refl e
  where
    by : (t : Bool) → eqb k n ≡ t → Some j ≡ (if t then None else Some k) → (j ≡ k) × (k ≡ n → ⊥)
    by true q e = absurd (cc e)
    by false q e = (cc e, eqb-false k n q)
