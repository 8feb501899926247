-- The names of a text, each by the number of the first place where it stands. A row of four numbers tells where a name lies: the place of
-- its first byte, how many bytes it has, and two more that do not matter here.
--
--   bytes_at s items i    the bytes of the name of row i in the text s, as far as the text goes
--   reads_as s items i j  the names of rows j and i read the same
--   first_as s items i    the first row whose name reads as that of row i: i itself where no row before it does
--   earlier_as s items i  that row where it is before row i; none where row i is the first with its name
--   firsts s items n     that number for each of the first n rows
use Rattle.std.specs.Prelude.{ℕ, ◌+◌, ◌*◌, ◌==◌, Bool, List, Option, Some, None, get_or, take, drop, if◌then◌else◌}
use Rattle.meaning.specs.Plain.{each, index_from, up_to, same_bytes}

unfoldable pub bytes_at : List ℕ → List ℕ → ℕ → List ℕ
bytes_at s items i = take (get_or items (4 * i + 1) 0) (drop (get_or items (4 * i) 0) s)

unfoldable pub reads_as : List ℕ → List ℕ → ℕ → ℕ → Bool
reads_as s items i j = same_bytes (bytes_at s items j) (bytes_at s items i)

unfoldable pub first_as : List ℕ → List ℕ → ℕ → ℕ
first_as s items i = index_from (reads_as s items i) 0 (up_to i)

abbrev pub earlier_as : List ℕ → List ℕ → ℕ → Option ℕ
earlier_as s items i = let j = first_as s items i in if j == i then None else Some j

unfoldable pub firsts : List ℕ → List ℕ → ℕ → List ℕ
firsts s items n = each (first_as s items) (up_to n)
