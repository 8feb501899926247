-- The answers of `put_form`: the form is known (`form-there`), there is no statement (`form-none`), or it is put in (`form-new`).
-- Assumes nothing.
use Prim.Native.Nat.{ℕ, suc, ◌-◌, ◌*◌, ◌≤◌, ◌<◌}
use native.Mathlib.Omega.{arith}
use mathlib.Core.Path.{◌≡◌, refl}
use mathlib.Core.Bool.{true, false}
use mathlib.Core.List.{List}
use lib.ListN.{length, set}
use Rattle.meaning.specs.Statements.{Gathered}
use Rattle.listing.specs.declared.Rows.{Rows}
use Rattle.listing.specs.Branches.{most}
use Rattle.listing.specs.Joined.{joined_with}
use Rattle.listing.specs.Answers.{FormPut}
use Rattle.listing.proofs.Whole.{form-put, form-firsts}

module _ (l : List ℕ) (r : Rows) (f : ℕ) where
  pub form-there : r.known ≡ true → FormPut l l r f
  form-there k = record { joins = λ s items g e. rw k; firsts = λ j. refl }

  pub form-none : r.statements ≡ 0 → FormPut l l r f
  unfolding joined_with
  form-none z = record { joins = λ s items g e. rw z; firsts = λ j. refl }

  pub form-new : r.known ≡ false → (r.statements ≡ 0 → ⊥) → length l ≡ 4 * most → r.statements ≤ most → f < 256
      → FormPut l (set l (4 * (r.statements - 1)) f) r f
  form-new k z size few byte =
      record {
        joins = λ s items g e. rw k (go r.statements (r.statements - 1) (omega arith) (omega arith) s items g e);
        firsts = form-firsts l (r.statements - 1) f;
      }
    where
      go : (m p : ℕ) → m ≡ suc p → 4 * p < length l → (s items : List ℕ) (g : Gathered) → g.form ≡ f
          → joined_with s items l m r.items false g ≡ joined_with s items (set l (4 * p) f) m r.items true g
      go m p q fits s items g e = rw q (form-put l p f s items r.items fits byte g e)
