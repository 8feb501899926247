-- The words of a text.
-- "Words are ASCII. An identifier is a letter, then letters, digits, `_`, `.` or `-`, longest match. `#` begins a comment, of any
-- bytes, up to the next LF. Space, tab, CR and LF separate."
-- A mark is taken as long as it can be (`!=` before `!`); a byte that begins no word is a word by itself, of kind `k_bad`.
--
--   Word           its kind, the place of its first byte, its bytes; `end_of` is the place behind it
--   word_at s p     the word of s at or behind the place p; behind the last word one of kind `k_end`, at the text's end
--   words_of s      all words of s
use Rattle.std.specs.Prelude.{ℕ, zero, suc, ◌+◌, ◌-◌, Bool, true, false, ◌||◌, List, [], ◌∷◌, eqb, length, take, drop, if◌then◌else◌}
use Prim.Native.Char.{Char, code}
use Rattle.meaning.specs.Plain.{within}
use Rattle.meaning.specs.Keywords.{kind_of, mark_of, k_bad, k_end}

pub record Word : Type 0 where
  pub kind : ℕ
  pub at : ℕ
  pub text : List ℕ

abbrev pub end_of : Word → ℕ
end_of w = w.at + length w.text

-- ---- bytes
abbrev pub is : Char → ℕ → Bool
is c b = eqb b (code c)

abbrev pub tab : ℕ
tab = 9

abbrev pub line_feed : ℕ
line_feed = 10

abbrev pub carriage_return : ℕ
carriage_return = 13

unfoldable pub is_blank : ℕ → Bool
is_blank b = is " " b || eqb b tab || eqb b carriage_return || eqb b line_feed

unfoldable pub is_letter : ℕ → Bool
is_letter b = within (code "a") (code "z") b || within (code "A") (code "Z") b

unfoldable pub in_name : ℕ → Bool
in_name b = is_letter b || within (code "0") (code "9") b || is "_" b || is "." b || is "-" b

-- ---- a scan: over what separates words, or over an identifier
abbrev pub between : ℕ
between = 0

abbrev pub comment : ℕ
comment = 1

abbrev pub naming : ℕ
naming = 2

abbrev pub stopped : ℕ
stopped = 3

-- what the scan is in after the byte b; `stopped` where b is no longer of it
unfoldable pub scan_step : ℕ → ℕ → ℕ
scan_step st b =
    if eqb st comment then (if eqb b line_feed then between else comment)
    else if eqb st between then (if is_blank b then between else if is "#" b then comment else stopped)
    else if in_name b then naming else stopped

-- the place, counted from p, at which a scan of the bytes stops
unfoldable pub scan_to : ℕ → ℕ → List ℕ → ℕ
scan_to st p [] = p
scan_to st p (b ∷ s) = elim (eqb (scan_step st b) stopped) [ true ↦ p | false ↦ scan_to (scan_step st b) (p + 1) s ]

-- ---- words
abbrev pub word : ℕ → ℕ → List ℕ → Word
word k p x = record { kind = k; at = p; text = x }

-- the mark that the byte b and what follows make, of two bytes if they are one, else of b alone; else a bad byte
unfoldable pub mark_here : ℕ → ℕ → List ℕ → Word
mark_here p b s =
    let two = b ∷ take 1 s in
    if eqb (mark_of two) k_bad then word (mark_of (b ∷ [])) p (b ∷ []) else word (mark_of two) p two

-- the word whose first byte is at p, where the bytes from p on are given
unfoldable pub word_here : ℕ → List ℕ → Word
word_here p [] = word k_end p []
word_here p (b ∷ s) =
    let name = b ∷ take (scan_to naming (p + 1) s - (p + 1)) s in
    if is_letter b then word (kind_of name) p name else mark_here p b s

-- the word at or behind p, where the bytes from p on are given
unfoldable pub word_from : ℕ → List ℕ → Word
word_from p s = let q = scan_to between p s in word_here q (drop (q - p) s)

unfoldable pub word_at : List ℕ → ℕ → Word
word_at s p = word_from p (drop p s)

-- the words from p on, n at most
unfoldable pub words_from : ℕ → ℕ → List ℕ → List Word
words_from zero p s = []
words_from (suc n) p s =
    let w = word_from p s in
    elim (eqb w.kind k_end) [ true ↦ [] | false ↦ w ∷ words_from n (end_of w) (drop (end_of w - p) s) ]

-- each word has a byte, so there are no more words than bytes
unfoldable pub words_of : List ℕ → List Word
words_of s = words_from (length s) 0 s
