-- Sets of numbers kept in words, 32 numbers to a word: number i is bit i % 32 of word i / 32.
--
--   member ws i        i is in the set that the words ws hold
--   set_in n ws         that set, for 0 .. n - 1: a set of a policy
--   packed k x         the k words that hold the set x
--   full n             the set of all numbers below n
--   Words ws           each of ws is a word: below 2 ^ 32
--   low_mask n          the word of all numbers below n
--   insert ws i        ws with i put in
--   less, less_word     in the one and not in the other: of truth values, of words
--   lowest_common a b   the lowest number in both; 32 for each word where there is none
--   lowest_in_both a b  that number, where there is one; else None
--   meets a b          some number is in both
--   none_from n ws      no number from n on is in
--
-- A union is `zip_with bit_or`, a difference `zip_with less_word`. What each does to the set is said in proofs/Members.antt.
use Rattle.std.specs.Prelude.{ℕ, zero, suc, ◌-◌, ◌*◌, ◌/◌, ◌%◌, ◌^◌, ◌<◌, Bool, true, not, ◌&&◌, List, [], ◌∷◌, length, get_or, take, drop, set, replicate}
use Rattle.std.specs.Prelude.{ltb, if◌then◌else◌, Option, Some, None}
use Rattle.std.specs.Int.Bits.{bit_and, bit_or, bit_xor}
use Rattle.meaning.specs.Plain.{every, each, index_from, numbers, up_to}
use Rattle.meaning.specs.Policy.{Set, meet}
use Rattle.meaning.specs.Access.{number, bit_of}

unfoldable pub member : List ℕ → ℕ → Bool
member ws i = bit_of (get_or ws (i / 32) 0) (i % 32)

unfoldable pub set_in : ℕ → List ℕ → Set
set_in n ws = each (member ws) (up_to n)

unfoldable pub packed : ℕ → Set → List ℕ
packed zero x = []
packed (suc k) x = number (take 32 x) ∷ packed k (drop 32 x)

abbrev pub full : ℕ → Set
full n = replicate n true

abbrev pub Words : List ℕ → Type 0
Words ws = (k : ℕ) → get_or ws k 0 < 2 ^ 32

abbrev pub low_mask : ℕ → ℕ
low_mask n = 2 ^ n - 1

unfoldable pub insert : List ℕ → ℕ → List ℕ
insert ws i = set ws (i / 32) (bit_or (get_or ws (i / 32) 0) (2 ^ (i % 32)))

abbrev pub less : Bool → Bool → Bool
less p q = p && not q

abbrev pub less_word : ℕ → ℕ → ℕ
less_word a b = bit_xor a (bit_and a b)

abbrev pub common : List ℕ → List ℕ → ℕ → Bool
common a b i = member a i && member b i

-- the first of the n numbers from i on of which p holds; i + n where there is none
abbrev pub first_from : (ℕ → Bool) → ℕ → ℕ → ℕ
first_from p i n = index_from p i (numbers i n)

unfoldable pub lowest_common : List ℕ → List ℕ → ℕ
lowest_common a b = first_from (common a b) 0 (32 * length a)

-- the same, where a number is in both
unfoldable pub lowest_in_both : List ℕ → List ℕ → Option ℕ
lowest_in_both a b = if ltb (lowest_common a b) (32 * length a) then Some (lowest_common a b) else None

unfoldable pub meets : List ℕ → List ℕ → Bool
meets a b = meet (set_in (32 * length a) a) (set_in (32 * length b) b)

unfoldable pub none_from : ℕ → List ℕ → Bool
none_from n ws = every (λ i. not (member ws i)) (numbers n (32 * length ws - n))
