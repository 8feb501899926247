-- What the reading of a text has come to, as far as it bears on the statements' shape: a `Seat` is the statement's keyword, the
-- position, whether a list is open, and whether an if has begun. From a seat a word leads to one of two (`nexts`), as a parenthesis
-- is open or not (`next-seat`). `proper` is what holds at each word of a text of the grammar, between the seats before and behind it;
-- `Walks` says that it holds at all of some words (Walks has that it does).
-- Assumes nothing.
use Prim.Native.Nat.{ℕ, ◌-◌}
use mathlib.Core.Path.{◌≡◌, refl}
use mathlib.Core.Bool.{Bool, true, false, not, ◌&&◌, ◌||◌}
use mathlib.Core.List.{List, [], ◌∷◌}
use lib.Dec.{eqb, ltb}
use Rattle.std.specs.Prelude.{if◌then◌else◌}
use Rattle.meaning.specs.Plain.{within}
use Rattle.meaning.specs.Keywords.{k_name, k_open, k_close, k_lparen, k_rparen, k_semi, k_colon, k_comma, k_tilde, k_star, k_minus, k_class, k_type, k_typealias, k_typebounds, k_role, k_role_transition, k_if, k_else, k_constrain, k_inherits, k_alias, k_self, starts, is_type_rule, is_av, is_term}
use Rattle.meaning.specs.Statements.{Seen, moved, in_e, comparing, step, step_e, step_s, behind, compared, saying, plain, minus, p_first, p_third, p_fourth, p_class, p_last, p_test, p_users, p_types, p_behind}
use Rattle.meaning.proofs.Lists.{bool_cases, and_both, Among, here, there}

-- ---- seats
-- `ifs`: an if has begun
pub record Seat : Type 0 where
  pub kw : ℕ
  pub pos : ℕ
  pub inside : Bool
  pub ifs : Bool

abbrev pub seat : Bool → Seen → Seat
seat f st = record { kw = st.kw; pos = st.pos; inside = st.inside; ifs = f }

-- a reading on the seat, with no parenthesis open or with one
abbrev pub seen : Bool → Seat → Seen
seen b a = record { kw = a.kw; pos = a.pos; sign = plain; inside = a.inside; depth = if b then 0 else 1 }

abbrev pub begun_if : Bool → ℕ → Bool
begun_if f k = if eqb k k_if then true else f

unfoldable pub nexts : ℕ → Seat → List Seat
nexts k a = seat (begun_if a.ifs k) (step (seen true a) k) ∷ seat (begun_if a.ifs k) (step (seen false a) k) ∷ []

-- a step depends on the seat, and on whether a parenthesis is open
record Alike (x y : Seen) : Type 0 where
  kw : x.kw ≡ y.kw
  pos : x.pos ≡ y.pos
  inside : x.inside ≡ y.inside

alike : {x y : Seen} → x.kw ≡ y.kw → x.pos ≡ y.pos → x.inside ≡ y.inside → Alike x y
alike p q r = record { kw = p; pos = q; inside = r }

module _ (f : Bool) (st : Seen) (k : ℕ) where
  step_e-alike : (b : Bool) → eqb st.depth 0 ≡ b → Alike (step_e st k) (step_e (seen b (seat f st)) k)
  unfolding step_e
  step_e-alike b d =
      bool_cases (comparing st)
      (λ e. rw (e, step_e) (bool_cases (eqb k k_open) (λ e. rw e (alike refl refl refl)) (λ e. rw e
      (bool_cases (is_term k || eqb k k_close || (eqb k k_name && not st.inside)) (λ e. rw e (alike refl refl refl))
      (λ e. rw e (alike refl refl refl))))))
      (λ e. rw (e, step_e) (bool_cases (is_term k) (λ e. rw e (alike refl refl refl)) (λ e. rw e
      (bool_cases (eqb k k_lparen) (λ e. rw e (alike refl refl refl)) (λ e. rw e
      (bool_cases (eqb k k_rparen) (λ e. rw e (paren b d)) (λ e. rw e (alike refl refl refl))))))))
    where
      paren : (b : Bool) → eqb st.depth 0 ≡ b
          → Alike (if eqb st.depth 0 then moved st p_behind 0 else moved st p_test (st.depth - 1))
          (if eqb (if b then 0 else 1) 0 then moved (seen b (seat f st)) p_behind 0 else moved (seen b (seat f st)) p_test ((if b then 0 else 1) - 1))
      paren true e = rw e (alike refl refl refl)
      paren false e = rw e (alike refl refl refl)

  step_s-alike : (b : Bool) → Alike (step_s st k) (step_s (seen b (seat f st)) k)
  unfolding step_s behind
  step_s-alike b =
      bool_cases (eqb k k_open)
      (λ e. rw (e, step_s) (bool_cases (eqb st.kw k_if || eqb st.kw k_else) (λ e. rw e (alike refl refl refl))
      (λ e. rw e (alike refl refl refl))))
      (λ e. rw (e, step_s)
      (bool_cases (eqb k k_close) (λ e. rw e (alike refl refl refl)) (λ e. rw e
      (bool_cases (eqb k k_lparen && eqb st.kw k_if) (λ e. rw e (alike refl refl refl)) (λ e. rw e
      (bool_cases (eqb k k_colon) (λ e. rw e (alike refl refl refl)) (λ e. rw e
      (bool_cases (eqb k k_comma) (λ e. rw e (alike refl refl refl)) (λ e. rw e
      (bool_cases (eqb k k_alias || eqb k k_inherits) (λ e. rw e (alike refl refl refl)) (λ e. rw e
      (bool_cases (eqb k k_minus) (λ e. rw e (alike refl refl refl)) (λ e. rw e
      (bool_cases (eqb k k_tilde) (λ e. rw e (alike refl refl refl)) (λ e. rw e
      (bool_cases (eqb k k_name || eqb k k_self || eqb k k_star)
      (λ e. rw e (bool_cases st.inside
      (λ e. rw e (bool_cases (eqb st.sign minus) (λ e. rw e (alike refl refl refl)) (λ e. rw e (alike refl refl refl))))
      (λ e. rw e (alike refl refl refl))))
      (λ e. rw e (alike refl refl refl))))))))))))))))))

  step-alike : Alike (step st k) (step (seen (eqb st.depth 0) (seat f st)) k)
  unfolding step
  step-alike =
      bool_cases (starts k) (λ e. rw (e, step) (alike refl refl refl)) (λ e. rw (e, step)
      (bool_cases (eqb k k_semi) (λ e. rw e (alike refl refl refl)) (λ e. rw e
      (bool_cases (in_e st) (λ e. rw e (step_e-alike (eqb st.depth 0) refl)) (λ e. rw e (step_s-alike (eqb st.depth 0)))))))

-- the seat behind a word is one of the two
pub next-seat : (f : Bool) (st : Seen) (k : ℕ) → Among (seat (begun_if f k) (step st k)) (nexts k (seat f st))
unfolding nexts
next-seat f st k = by (eqb st.depth 0) (step-alike f st k)
  where
    one : {x y : Seen} → Alike x y → seat (begun_if f k) x ≡ seat (begun_if f k) y
    one a = λ i. record { kw = a.kw i; pos = a.pos i; inside = a.inside i; ifs = begun_if f k }

    by : (b : Bool) → Alike (step st k) (step (seen b (seat f st)) k) → Among (seat (begun_if f k) (step st k)) (nexts k (seat f st))
    by true a = here (one a)
    by false a = there (here (one a))

-- ---- what holds at each word
-- a name must stand here: the type of `type`, `typealias` and `typebounds`, the result of a type rule, the new role of a role_transition
abbrev pub due : ℕ → ℕ → Bool
due w p =
    ((eqb w k_type || eqb w k_typealias || eqb w k_typebounds) && eqb p p_first) || (is_type_rule w && eqb p p_last)
    || (eqb w k_role_transition && (eqb p p_third || eqb p p_last))

-- behind this position it has stood
abbrev pub paid : ℕ → ℕ → Bool
paid w p =
    if eqb w k_type || eqb w k_typealias || eqb w k_typebounds then not (eqb p p_first)
    else if is_type_rule w then ltb p_last p
    else if eqb w k_role_transition then eqb p p_fourth || ltb p_last p
    else true

-- a statement of this keyword says all its names
abbrev pub speaks : ℕ → Bool
speaks w = starts w && not (eqb w k_else) && not (eqb w k_class || eqb w k_role)

-- nothing but names says something here
abbrev pub names_only : ℕ → ℕ → Bool
names_only w p = eqb w k_typebounds || due w p || ((is_av w || is_type_rule w) && eqb p p_class)

-- an `else` stands behind an `if`
abbrev pub else_behind : Seat → ℕ → Bool
else_behind a k = not (eqb k k_else) || a.ifs

-- names where nothing else may say something
abbrev pub name_here : Seat → ℕ → Bool
name_here a k = not (names_only a.kw a.pos) || eqb k k_name || (not (within p_test p_types a.pos) && not (saying k))

-- and where they must stand
abbrev pub dues_met : Seat → ℕ → Seat → Bool
dues_met a k b =
    if eqb k k_semi then paid a.kw a.pos
    else starts k || not (paid b.kw b.pos) || paid a.kw a.pos || (due a.kw a.pos && speaks a.kw && saying k)

-- in a constraint u1 .. t2 tell what they are compared with, and more follows
abbrev pub tells : Seat → ℕ → Seat → Bool
tells a k b = not (eqb a.kw k_constrain && eqb a.pos p_test && is_term k) || eqb b.pos (compared k)

abbrev pub goes_on : Seat → ℕ → Bool
goes_on a k = not (eqb a.kw k_constrain && within p_users p_types a.pos) || not (starts k || eqb k k_semi)

unfoldable pub proper : Seat → ℕ → Seat → Bool
proper a k b = else_behind a k && (name_here a k && (dues_met a k b && (tells a k b && goes_on a k)))

pub record Proper (a : Seat) (k : ℕ) (b : Seat) : Type 0 where
  pub else-behind : else_behind a k ≡ true
  pub name-here : name_here a k ≡ true
  pub dues-met : dues_met a k b ≡ true
  pub told : tells a k b ≡ true
  pub goes_on_lem : goes_on a k ≡ true

pub proper-is : (a : Seat) (k : ℕ) (b : Seat) → proper a k b ≡ true → Proper a k b
unfolding proper
proper-is a k b e =
    let p = and_both (else_behind a k) _ e in
    let q = and_both (name_here a k) _ p.1 in
    let r = and_both (dues_met a k b) _ q.1 in
    let s = and_both (tells a k b) (goes_on a k) r.1 in
    record { else-behind = p.0; name-here = q.0; dues-met = r.0; told = s.0; goes_on_lem = s.1 }

-- every word is proper; f tells whether an if has begun before
unfoldable pub Walks : Bool → Seen → List ℕ → Type 0
Walks f st [] = Unit {0}
Walks f st (k ∷ ks) = (proper (seat f st) k (seat (begun_if f k) (step st k)) ≡ true) × Walks (begun_if f k) (step st k) ks
