-- "Load: 1, 2; then 3 or 7, whichever comes first in the text (3 at the same word); then 6, 4, 5, 8, 9, each over the whole text,
-- first place in text order. Place is 0 for 1, 2 and success."
use Rattle.std.specs.Prelude.{ℕ, true, false, List, [], ◌∷◌, ltb, get_or, length}
use Rattle.meaning.specs.Plain.{Spot, nowhere, at}
use Rattle.meaning.specs.Words.{Word, words_of}
use Rattle.meaning.specs.Sizes.{Verdict, fits, ungrammatical, oversize, read_text}
use Rattle.meaning.specs.Statements.{Statement, statements_of}
use Rattle.meaning.specs.Names.{declared_twice, undeclared}
use Rattle.meaning.specs.Sets.{Names, names_of}
use Rattle.meaning.specs.Permissions.{bad_permission}
use Rattle.meaning.specs.Policy.{Policy, no_policy}
use Rattle.meaning.specs.Rules.{rules_of, policy_of}
use Rattle.meaning.specs.Contradictions.{contradiction}
use Rattle.meaning.specs.Neverallow.{Clash, Search, kept, broken, never_broken}
use Rattle.meaning.specs.Contexts.{nameless, type_at, class_at}
use Rattle.meaning.specs.Refusals.{accepted, short_table, long_text, not_grammar, not_declared, not_permission, declared_again, over_size, contradicts, neverallow_broken}

abbrev pub text_size : ℕ
text_size = 32768

abbrev pub table_size : ℕ
table_size = 16384

-- `clash` is shown with 9 only. `policy` is what the table is made of on success; with 9 it is there for the names of the clash.
pub record Loaded : Type 0 where
  pub number : ℕ
  pub place : ℕ
  pub clash : Clash
  pub policy : Policy

abbrev pub no_clash : Clash
no_clash = record { never = 0; allow = 0; source = 0; target = 0; class = 0; permission = 0 }

unfoldable pub refused : ℕ → ℕ → Loaded
refused k p = record { number = k; place = p; clash = no_clash; policy = no_policy }

unfoldable pub unless : ℕ → Spot → Loaded → Loaded
unless k nowhere r = r
unless k (at p) r = refused k p

unfoldable pub unless_broken : Search → Policy → Loaded
unless_broken kept p = record { number = accepted; place = 0; clash = no_clash; policy = p }
unless_broken (broken c) p = record { number = neverallow_broken; place = c.never; clash = c; policy = p }

-- ---- after_n: what is left to ask where N is not to be given
unfoldable pub after8 : Names → List Statement → Policy → Loaded
after8 n ss p = unless_broken (never_broken (length n.types) (rules_of n ss)) p

unfoldable pub after5 : Names → List Statement → Policy → Loaded
after5 n ss p = let r = after8 n ss p in unless contradicts (contradiction n ss p) r

unfoldable pub after4 : List Statement → Loaded
after4 ss =
    let n = names_of ss in
    let r = after5 n ss (policy_of n ss) in
    unless not_permission (bad_permission ss) r

unfoldable pub after6 : List Statement → Loaded
after6 ss = let r = after4 ss in unless not_declared (undeclared ss) r

unfoldable pub after3 : List Statement → Loaded
after3 ss = let r = after6 ss in unless declared_again (declared_twice ss) r

unfoldable pub after_reading : Verdict → List Word → Loaded
after_reading fits ws = after3 (statements_of ws)
after_reading (ungrammatical p) ws = refused not_grammar p
after_reading (oversize p) ws = refused over_size p

unfoldable pub load_words : ℕ → List Word → Loaded
load_words end ws = after_reading (read_text end ws) ws

unfoldable pub load : List ℕ → Loaded
load s = elim (ltb text_size (length s)) [ true ↦ refused long_text 0 | false ↦ load_words (length s) (words_of s) ]

-- ---- the names of the clash: "showing proof_t, target_t, profile, write"
unfoldable pub clash_names : Policy → Clash → List (List ℕ)
clash_names p c =
    (type_at p c.source).name.text ∷ (type_at p c.target).name.text ∷ (class_at p c.class).name.text
    ∷ (get_or (class_at p c.class).perms c.permission nameless).text ∷ []

-- with a table space of n words
unfoldable pub load_into : ℕ → List ℕ → Loaded
load_into n s = elim (ltb n table_size) [ true ↦ refused short_table 0 | false ↦ load s ]
