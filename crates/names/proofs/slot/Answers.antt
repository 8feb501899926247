-- `names::slot` meets its contract: the number so far stays below `slots`, and the fold is `slot_of`. Assumes nothing.
use Prim.Native.Nat.{◌+◌, ◌*◌, ◌%◌, ◌<◌}
use native.Mathlib.Omega.{arith}
use mathlib.Core.Path.{◌≡◌, refl}
use Rattle.std.proofs.Common.{rules}
use Rattle.std.specs.List.{fold}
use Rattle.std.proofs.lemmas.Fn.{serves_by}
use Rattle.names.specs.Chains.{slots, factor}
use Rattle.names.proofs.Bytes.{fold-slot_from, slot_from-lt}
use Rattle.names.proofs.slot.Goals as goal

pub fold-requires-clause-callable : goal.fold-requires-clause-callable
fold-requires-clause-callable c =
    serves_by _ (λ xs q. q.1 < slots) (λ xs q x v j r. search rules) _ _ _ _ (omega arith) (λ xs t q x u y z j. search rules)

pub returns : goal.returns
returns c =
    let w = c.args.word.now in
    let e : c.fold.result ≡ fold (λ n b. (n * factor + b) % slots) 0 w = search rules in
    let l = slot_from-lt 0 w (omega arith) in
    let f = fold-slot_from 0 w in
    rw (e, f) (refl, l)
