-- `words::keywords::Keywords::keyword` meets its contract: its bytes stand in the table where the code takes them. Assumes nothing.
use Prim.Native.Nat.{◌+◌, ◌-◌, ◌*◌}
use native.Mathlib.Omega.{arith}
use mathlib.Core.Path.{◌≡◌}
use lib.ListN.{length}
use Rattle.words.specs.Keys.{keyword, bytes_at, key_width}
use Rattle.words.proofs.Recognised.{table-length, table-keyword, key_fits}
use Rattle.words.proofs.keywords.Keywords.keyword.Goals as goal

pub slice_bounds-result-end : goal.slice_bounds-result-end
slice_bounds-result-end c =
    let t = c.args.self.now in
    let size : c.from-len.result ≡ length (keyword c.args.k) = rw (c.from-len.ensures, c.from-k.ensures) (table-length t.table t.made c.args.k c.requires) in
    omega (arith, size, c.from-k.ensures, key_fits c.args.k c.requires)

pub returns : goal.returns
returns c =
    let t = c.args.self.now in
    let k = c.args.k in
    let size : c.from-len.result ≡ length (keyword k) = rw (c.from-len.ensures, c.from-k.ensures) (table-length t.table t.made k c.requires) in
    let part : bytes_at + key_width * k + c.from-len.result - (bytes_at + key_width * k) ≡ length (keyword k) = omega (arith, size) in
    rw (c.from-k.ensures, part) (table-keyword t.table t.made k c.requires)
