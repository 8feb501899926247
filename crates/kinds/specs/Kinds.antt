-- Numbers of which one stands for none.
--
--   unless n k       k, where it is not n
--   unless_none k    the same for 0, the kind of a byte that begins no word
use Rattle.std.specs.Prelude.{ℕ, eqb, Option, Some, None, if◌then◌else◌}

abbrev pub unless : ℕ → ℕ → Option ℕ
unless n k = if eqb k n then None else Some k

abbrev pub unless_none : ℕ → Option ℕ
unless_none k = unless 0 k
