-- When a statement covers a source type, a target type, a class and a permission, each by its name. This is the notion that the
-- promises are stated with. The engine's rules and rows say the same in numbers (Rules, Neverallow, Access): that they cover the same
-- is proofs/Rows.antt. It is asked of declared types, of classes, and of permissions of the class.
-- Whether the statement is in force is another question: Access.
use Rattle.std.specs.Prelude.{ℕ, Bool, ◌&&◌, ◌||◌, List}
use Rattle.meaning.specs.Plain.{same_bytes}
use Rattle.meaning.specs.Statements.{Statement, part, p_first, p_second}
use Rattle.meaning.specs.Permissions.{class_part, perm_part}
use Rattle.meaning.specs.Sets.{Names, is_in, type_words, name_words, has_self, named_in}

unfoldable pub in_source : Names → Statement → List ℕ → Bool
in_source n st s = is_in (type_words n (part p_first st)) s

unfoldable pub in_target : Names → Statement → List ℕ → Bool
in_target n st t = is_in (type_words n (part p_second st)) t

-- "`self` adds the pairs (s, s)"
unfoldable pub covers_pair : Names → Statement → List ℕ → List ℕ → Bool
covers_pair n st s t = in_source n st s && (in_target n st t || (has_self (part p_second st) && same_bytes s t))

unfoldable pub covers_class : Statement → List ℕ → Bool
covers_class st c = named_in (class_part st) c

unfoldable pub covers_perm : Statement → List ℕ → Bool
covers_perm st x = is_in (name_words (perm_part st)) x

-- an AV rule
unfoldable pub covers : Names → Statement → List ℕ → List ℕ → List ℕ → List ℕ → Bool
covers n st s t c x = covers_pair n st s t && covers_class st c && covers_perm st x

-- a type rule
unfoldable pub covers_type : Names → Statement → List ℕ → List ℕ → List ℕ → Bool
covers_type n st s t c = covers_pair n st s t && covers_class st c
