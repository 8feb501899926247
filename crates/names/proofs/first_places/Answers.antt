use native.Mathlib.Omega.{arith}
use mathlib.Core.Path.{◌≡◌, ap}
use mathlib.Core.List.{List, ◌++◌}
use Prim.Native.Nat.{ℕ}
use lib.ListN.{length, drop}
use Rattle.std.proofs.lemmas.Grind.{common_steps}
use Rattle.names.proofs.Links.{heads-start, nexts-start}
use Rattle.names.proofs.Laws.{same-firsts}
use Rattle.names.proofs.first_places.Goals as goal

pub loop-i-init : goal.loop-i-init
loop-i-init c = record {
  numbers = λ k h. absurd (omega arith);
  heads = heads-start _ _ _ c.requires.empty;
  nexts = nexts-start _ _ _;
}

pub returns : goal.returns
returns c =
    let a = c.args in
    let o = c.loop-i in
    let l : length o.id-items ≡ a.n = grind (arith, common_steps) in
    ap (λ (x : List ℕ). x ++ drop a.n a.ids.now) (same-firsts _ _ a.n o.id-items l (λ k h. o.invariant.numbers k (omega arith)))
