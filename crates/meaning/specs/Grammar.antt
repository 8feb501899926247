-- The grammar of a policy text, over the kinds of its words; its texts; and what is left of it behind a word.
-- "Six sections in this order; 1, 3, 4 and 5 have at least one statement."
-- This is the plain grammar: sizes, declarations and kinds of names are not in it.
--
--   w "class"     the word of that spelling;  `name` an identifier that is no keyword
--   a · b         a text of a, then one of b;  a ∣ b  one of either;  plus, star, opt  once or more, any number, once or not at all
--   In g ks       ks, kinds of words, are a text of g
--   left g k      what is left of g behind a word of kind k. Of `policy`, behind any words, it is `none` just where no text begins with
--                 them (proofs/Viable.antt)
use Rattle.std.specs.Prelude.{ℕ, zero, suc, Bool, true, false, ◌&&◌, ◌||◌, List, [], ◌∷◌, ◌++◌, ◌≡◌, eqb, get_or}
use Prim.Native.String.{String}
use Rattle.meaning.specs.Keywords.{spelt, k_name}

infixr 60 ◌·◌
infixr 50 ◌∣◌
-- ---- grammars: nothing, the empty text, a word, one after the other, one or the other, any number of times, a rule by number
pub data G : Type 0 where
  none : G
  eps : G
  tok : ℕ → G
  seq : G → G → G
  alt : G → G → G
  star : G → G
  nt : ℕ → G
  deriving Discrete as G-discrete

abbrev pub ◌·◌ : G → G → G
none · y = none
eps · y = y
tok k · y = seq (tok k) y
seq a b · y = a · (b · y)
alt a b · y = seq (alt a b) y
star a · y = seq (star a) y
nt i · y = seq (nt i) y

abbrev pub ◌∣◌ : G → G → G
a ∣ b = alt a b

abbrev pub plus : G → G
plus g = g · star g

abbrev pub opt : G → G
opt g = alt g eps

abbrev pub w : String → G
w s = tok (spelt s)

abbrev pub name : G
name = tok k_name

-- ---- the rules by name; `rules` below says what each is
abbrev pub policy : G
policy = nt 0

abbrev pub statement1 : G
statement1 = nt 1

abbrev pub statement2 : G
statement2 = nt 2

abbrev pub statement3 : G
statement3 = nt 3

abbrev pub statement4 : G
statement4 = nt 4

abbrev pub statement5 : G
statement5 = nt 5

abbrev pub statement6 : G
statement6 = nt 6

abbrev pub list : G
list = nt 7

abbrev pub av_rule : G
av_rule = nt 8

abbrev pub bool_e : G
bool_e = nt 9

abbrev pub constraint_e : G
constraint_e = nt 10

-- ---- pieces
-- "X, the R of role allow and role_transition sources, `types`, `alias` and `roles`, CLASS and PERMS may each be one name or a braced
-- list without commas; no list is empty. The T of a role_transition is an X."
abbrev pub names : G
names = name ∣ list

abbrev pub more : G
more = star (w "," · name)

-- "In the four AV rules and the three type rules a braced X may hold `-NAME`."
abbrev pub source : G
source = name ∣ w "{" · plus (name ∣ w "-" · name) · w "}"

-- "`self` stands only among AV targets."
abbrev pub target : G
target = name ∣ w "self" ∣ w "{" · plus (name ∣ w "-" · name ∣ w "self") · w "}"

-- "An X of neverallow, and any PERMS, may instead be `*`, `~NAME` or `~{ names }`, with no `-` and no `self`."
abbrev pub starred : G
starred = w "*" ∣ w "~" · names

abbrev pub perms : G
perms = names ∣ starred

abbrev pub equality : G
equality = w "==" ∣ w "!="

-- "names, parentheses, `==` and `!=` (bind tightest), then `!`"; "No `!` follows `==` or `!=`." "Parentheses may stand inside
-- parentheses, as deep as Sizes allows."
abbrev pub operand : G
operand = name ∣ w "(" · bool_e · w ")"

abbrev pub negated : G
negated = star (w "!") · operand · star (equality · operand)

-- "`u1 == u2`, `r1 == r2`, `t1 == t2`, or one of the six against a name or braced list, each also with `!=`"
abbrev pub against : String → String → G
against x y = w x · equality · (w y ∣ names) ∣ w y · equality · names

abbrev pub test : G
test = star (w "not") · ((against "u1" "u2" ∣ against "r1" "r2" ∣ against "t1" "t2") ∣ w "(" · constraint_e · w ")")

unfoldable pub rules : List G
rules =
    -- policy
    (plus statement1 · star statement2 · plus statement3 · plus statement4 · plus statement5 · star statement6)
    -- section 1: `class NAME` (no semicolon).
    ∷ (w "class" · name)
    -- section 2: `common NAME { perms }`
    ∷ (w "common" · name · list)
    -- section 3: `class NAME { perms }`, `class NAME inherits COMMON`, or that followed by `{ perms }`.
    ∷ (w "class" · name · (list ∣ w "inherits" · name · opt list))
    -- section 4, in any order
    ∷ (w "attribute" · name · w ";"
    ∣ w "type" · name · opt (w "alias" · names) · more · w ";"
    ∣ w "typealias" · name · w "alias" · names · w ";"
    ∣ w "typeattribute" · name · name · more · w ";"
    ∣ w "bool" · name · (w "true" ∣ w "false") · w ";"
    ∣ w "typebounds" · name · name · more · w ";"
    ∣ w "permissive" · name · w ";"
    ∣ w "role" · name · opt (w "types" · names) · w ";"
    ∣ w "allow" · names · names · w ";"
    ∣ w "role_transition" · names · names · opt (w ":" · names) · name · w ";"
    ∣ (w "type_transition" ∣ w "type_change" ∣ w "type_member") · source · source · w ":" · names · name · w ";"
    ∣ av_rule
    ∣ w "neverallow" · (source ∣ starred) · (target ∣ starred) · w ":" · names · perms · w ";"
    ∣ w "if" · w "(" · bool_e · w ")" · w "{" · star av_rule · w "}" · opt (w "else" · w "{" · star av_rule · w "}"))
    -- section 5: `user U roles R;`
    ∷ (w "user" · name · w "roles" · names · w ";")
    -- section 6: `constrain CLASS PERMS E;`
    ∷ (w "constrain" · names · perms · constraint_e · w ";")
    -- a braced list
    ∷ (w "{" · plus name · w "}")
    -- what may stand in an if: "only allow (type form), auditallow and dontaudit", each `X X : CLASS PERMS;`
    ∷ ((w "allow" ∣ w "auditallow" ∣ w "dontaudit") · source · target · w ":" · names · perms · w ";")
    -- a boolean expression: then `&&`, `^`, `||`
    ∷ (negated · star ((w "&&" ∣ w "^" ∣ w "||") · negated))
    -- a constraint expression: then `and`, `or`
    ∷ (test · star ((w "and" ∣ w "or") · test))
    ∷ []

unfoldable pub rule : ℕ → G
rule i = get_or rules i none

-- ---- the texts of g
pub data In : G → List ℕ → Type 0 where
  in-eps : {ks : List ℕ} → ks ≡ [] → In eps ks
  in_tok : {k : ℕ} {ks : List ℕ} → ks ≡ k ∷ [] → In (tok k) ks
  in-seq : {a b : G} {ks : List ℕ} (u v : List ℕ) → ks ≡ u ++ v → In a u → In b v → In (seq a b) ks
  in_left : {a b : G} {ks : List ℕ} → In a ks → In (alt a b) ks
  in_right : {a b : G} {ks : List ℕ} → In b ks → In (alt a b) ks
  in-stop : {a : G} {ks : List ℕ} → ks ≡ [] → In (star a) ks
  in-more : {a : G} {ks : List ℕ} (u v : List ℕ) → ks ≡ u ++ v → In a u → In (star a) v → In (star a) ks
  in-rule : {i : ℕ} {ks : List ℕ} → In (rule i) ks → In (nt i) ks

-- ---- what is left of a grammar behind one word
-- the empty text is one of g; no rule has it
unfoldable pub nullable : G → Bool
nullable none = false
nullable eps = true
nullable (tok k) = false
nullable (seq a b) = nullable a && nullable b
nullable (alt a b) = nullable a || nullable b
nullable (star a) = true
nullable (nt i) = false

unfoldable pub is_none : G → Bool
is_none none = true
is_none eps = false
is_none (tok k) = false
is_none (seq a b) = false
is_none (alt a b) = false
is_none (star a) = false
is_none (nt i) = false

unfoldable pub or : G → G → G
or a b = elim (is_none a) [ true ↦ b | false ↦ elim (is_none b) [ true ↦ a | false ↦ alt a b ] ]

-- what a rule leaves is handed in
unfoldable pub left_by : (ℕ → ℕ → G) → G → ℕ → G
left_by r none k = none
left_by r eps k = none
left_by r (tok j) k = elim (eqb j k) [ true ↦ eps | false ↦ none ]
left_by r (seq a b) k = elim (nullable a) [ true ↦ or (left_by r a k · b) (left_by r b k) | false ↦ left_by r a k · b ]
left_by r (alt a b) k = or (left_by r a k) (left_by r b k)
left_by r (star a) k = left_by r a k · star a
left_by r (nt i) k = r i k

-- a rule may begin with a rule, n deep
unfoldable pub left_in : ℕ → G → ℕ → G
left_in zero g k = left_by (λ i j. none) g k
left_in (suc n) g k = left_by (λ i j. left_in n (rule i) j) g k

-- at the deepest, a section begins with a rule that may stand in an if
unfoldable pub left : G → ℕ → G
left g k = left_in 2 g k
