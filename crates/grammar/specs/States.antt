-- What is left of the grammar in each state, `regex`, and the table that leads from state to state, `next_table`: both from the rows
-- of Table. What `regex` comes to is said by the contract of `step`, and by `start`, `alive` and `accepts` of proofs/Laws.antt.
--
-- Within the parentheses of an expression a state tells what is left up to the closing one. How many more are open is a number beside
-- the state, the depth: behind each of those the expression goes on as it does behind an operand.
--
--   fill t g      g, with t for the hole
--   left_at s      what is left in state s, with a hole within parentheses
--   regex s d     what is left in state s at depth d
--   next_table     a row for each state, an entry for each kind
--   Stepped ..    a word of kind k leads from state s at depth d to state s' at depth d'
use Rattle.std.specs.Prelude.{ℕ, zero, suc, ◌+◌, ◌*◌, ◌/◌, ◌%◌, ◌≤◌, ◌<◌, ◌≡◌, List, [], ◌∷◌, ◌++◌, eqb, leb, get_or, set, if◌then◌else◌}
use Rattle.meaning.specs.Plain.{each, joined}
use Rattle.meaning.specs.Keywords.{k_rparen}
use Rattle.meaning.specs.Grammar.{G, none, eps, tok, seq, alt, star, nt, left}
use Rattle.meaning.proofs.Viable.{lefts}
use Rattle.grammar.specs.Table.{Way, fresh, behind, Row, state, hole_rule, state_count, kind_count, table_size, last_inside, had, rows}

unfoldable pub fill : G → G → G
fill t none = none
fill t eps = eps
fill t (tok k) = tok k
fill t (seq a b) = seq a (fill t b)
fill t (alt a b) = alt (fill t a) (fill t b)
fill t (star a) = star a
fill t (nt i) = if eqb i hole_rule then t else nt i

-- ---- what is left in the states, from what is left in those before
unfoldable pub way_from : List G → Way → G
way_from before (fresh g) = g
way_from before (behind s ks) = lefts (get_or before s none) ks

unfoldable pub grown : List G → List Row → List G
grown before [] = before
grown before (state s way leads ∷ rs) = grown (before ++ (way_from before way ∷ [])) rs

unfoldable pub states : List G
states = grown [] rows

unfoldable pub left_at : ℕ → G
left_at s = get_or states s none

-- ---- the table
-- its entries that are not 0, as numbers: the state, the kind and the next state, a byte each
unfoldable pub edges_of : Row → List ℕ
edges_of (state s way leads) = each (λ x. (s * 256 + x.0) * 256 + x.1) leads

unfoldable pub edges : List ℕ
edges = joined edges_of rows

-- the place of an entry: the state's row, the kind's column
abbrev pub place_of : ℕ → ℕ
place_of e = e / 65536 * kind_count + e / 256 % 256

-- the n entries from place p on; 0 where the list has none
unfoldable pub entries : ℕ → ℕ → List ℕ → List ℕ
entries p zero es = []
entries p (suc n) [] = let rest = entries (p + 1) n [] in 0 ∷ rest
entries p (suc n) (e ∷ es) =
    let here = eqb (place_of e) p in
    let rest = entries (p + 1) n (if here then es else e ∷ es) in
    (if here then e % 256 else 0) ∷ rest

unfoldable pub next_table : List ℕ
next_table = entries 0 table_size edges

-- of a table, the entry for state s and kind k
abbrev pub entry : List ℕ → ℕ → ℕ → ℕ
entry t s k = get_or t (s * kind_count + k) 0

abbrev pub next : ℕ → ℕ → ℕ
next s k = entry next_table s k

-- the table t, once these entries are laid into it
unfoldable pub laid : List ℕ → List ℕ → List ℕ
laid [] t = t
laid (e ∷ es) t = laid es (set t (place_of e) (e % 256))

-- ---- what is left in a state at a depth
-- what follows the next closing parenthesis, d more being open, where h is the state behind an operand
unfoldable pub after : ℕ → ℕ → G
after h zero = left_at (next h k_rparen)
after h (suc d) = fill (after h d) (left_at h)

unfoldable pub regex : ℕ → ℕ → G
regex s d = if leb s last_inside then fill (after (had s) d) (left_at s) else left_at s

pub record Stepped (s d k s' d' : ℕ) : Type 0 where
  pub goes : left (regex s d) k ≡ regex s' d'
  pub state : s' < state_count
  pub depth : d' ≤ d + 1
