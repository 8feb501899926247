-- What the recogniser answers: 2 for a text that is too long, else what the reading of its words gives.
--
--   of_verdict v     the answer for what the reading gives
--   refusal_of s     the answer for the bytes s
--   number_of, place_of   01's number of a refusal, and its place
--   number_in, place_in   the same of an answer: 0 and 0 where the text stands
--   shown r          the bytes that show it: the number and the place, a space between them
use Rattle.std.specs.Prelude.{ℕ, List, ◌∷◌, ◌++◌, decimal, ltb, length, Result, Ok, Err, if◌then◌else◌}
use Rattle.meaning.specs.Words.{words_of}
use Rattle.meaning.specs.Sizes.{Verdict, fits, ungrammatical, oversize, read_text}
use Rattle.meaning.specs.Load.{text_size}
use Rattle.meaning.specs.Refusals.{accepted, long_text, not_grammar, over_size}
use Rattle.recogniser.specs.declared.Refusal.{Refusal}
use Rattle.recogniser.specs.declared.Refusal.TheVariants.{LongText, NotGrammar, OverSize}

unfoldable pub of_verdict : Verdict → Result (Unit {0}) Refusal
of_verdict fits = Ok tt
of_verdict (ungrammatical p) = Err (NotGrammar p)
of_verdict (oversize p) = Err (OverSize p)

unfoldable pub refusal_of : List ℕ → Result (Unit {0}) Refusal
refusal_of s =
    let r = of_verdict (read_text (length s) (words_of s)) in
    if ltb text_size (length s) then Err LongText else r

abbrev pub number_of : Refusal → ℕ
number_of LongText = long_text
number_of (NotGrammar p) = not_grammar
number_of (OverSize p) = over_size

abbrev pub place_of : Refusal → ℕ
place_of LongText = 0
place_of (NotGrammar p) = p
place_of (OverSize p) = p

abbrev pub number_in : Result (Unit {0}) Refusal → ℕ
number_in (Ok t) = accepted
number_in (Err r) = number_of r

abbrev pub place_in : Result (Unit {0}) Refusal → ℕ
place_in (Ok t) = 0
place_in (Err r) = place_of r

abbrev pub shown : Refusal → List ℕ
shown r = decimal (number_of r) ++ 32 ∷ decimal (place_of r)
