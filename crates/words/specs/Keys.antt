-- The table by which a keyword is recognised, made from the definitions' list of the keywords.
--
--   keyword k    the bytes of keyword k
--   slot_of w     the slot of the word w: its first byte, the one in its middle and its last tell the keywords apart
--   key_table     in each slot the number of the keyword that has it, or `key_count`; the lengths of the keywords, from `slots` on;
--                their bytes, from `bytes_at` on, `key_width` to each, filled up with spaces
--   candidate w   the number of the one keyword that the word w can be
use Rattle.std.specs.Prelude.{ℕ, ◌+◌, ◌-◌, ◌*◌, ◌/◌, ◌%◌, List, eqb, ltb, length, get_or, Option, Some, None, if◌then◌else◌}
use Rattle.meaning.specs.Plain.{index_from, each, up_to}
use Rattle.meaning.specs.Keywords.{bytes, keywords}

abbrev pub slots : ℕ
slots = 128

abbrev pub key_count : ℕ
key_count = 38

abbrev pub key_width : ℕ
key_width = 16

abbrev pub bytes_at : ℕ
bytes_at = slots + key_count

abbrev pub table_size : ℕ
table_size = bytes_at + key_count * key_width

abbrev pub blank : ℕ
blank = 32

unfoldable pub keyword : ℕ → List ℕ
keyword k = bytes (get_or keywords k "")

unfoldable pub slot_of : List ℕ → ℕ
slot_of w = (3 * get_or w 0 0 + 6 * get_or w (length w / 2) 0 + get_or w (length w - 1) 0) % slots

-- what the table holds at the place i
unfoldable pub key_entry : ℕ → ℕ
key_entry i =
    if ltb i slots then index_from (λ s. eqb (slot_of (bytes s)) i) 0 keywords
    else if ltb i bytes_at then length (keyword (i - slots))
    else get_or (keyword ((i - bytes_at) / key_width)) ((i - bytes_at) % key_width) blank

unfoldable pub key_table : List ℕ
key_table = each key_entry (up_to table_size)

unfoldable pub candidate : List ℕ → Option ℕ
candidate w =
    let k = key_entry (slot_of w) in
    if eqb (length w) 0 then None else if ltb k key_count then Some k else None
