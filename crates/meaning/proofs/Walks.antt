-- In a text of the grammar every word is proper (`walks`; the test is in Seats).
-- `Goes S g T` says that a text of g, read from a seat of S, is proper and ends in a seat of T; by the shape of g it is found by
-- computation (`run`). The statements of the sections lead from the seats between statements to these, and an expression from its
-- seats to these: so a rule of theirs is gone into once (`kept`).
-- Assumes nothing.
use Prim.Native.Nat.{ℕ, zero, suc}
use mathlib.Core.Path.{◌≡◌, refl, sym, ◌∙◌, ap, subst}
use mathlib.Core.Bool.{Bool, true, false, not, ◌&&◌, false≢true}
use mathlib.Core.List.{List, [], ◌∷◌, ◌++◌, append_assoc, append-nil}
use borrow.Author.Tests.{eqb-true, ltb-true, ltb-false}
use lib.Dec.{eqb, ltb}
use lib.ListN.{get_or, get_or-eq_default}
use Rattle.std.specs.Prelude.{if◌then◌else◌}
use Rattle.meaning.specs.Plain.{xor, any, every, joined, up_to}
use Rattle.meaning.specs.Keywords.{spelt, marks, keywords, k_class, k_common, k_if, k_constrain}
use Rattle.meaning.specs.Grammar.{G, none, eps, tok, seq, alt, star, nt, policy, rule, rules, In, in-eps, in_tok, in-seq, in_left, in_right, in-stop, in-more, in-rule}
use Rattle.meaning.specs.Statements.{Seen, outside, step, step_e, step_s, behind, compared, p_test, p_behind}
use Rattle.meaning.proofs.Lists.{and_both, if-both, bool_cases, none-among, Among, here, there, any-among, among-up_to}
use Rattle.meaning.proofs.Seats.{Seat, seat, begun_if, nexts, next-seat, proper, Walks}

-- ---- sets of seats
same_bit : (a b : Bool) → not (xor a b) ≡ true → a ≡ b
same_bit true true e = refl
same_bit true false e = absurd (false≢true e)
same_bit false true e = absurd (false≢true e)
same_bit false false e = refl

same_seat : Seat → Seat → Bool
same_seat a b = eqb a.kw b.kw && eqb a.pos b.pos && not (xor a.inside b.inside) && not (xor a.ifs b.ifs)

same-seat : (a b : Seat) → same_seat a b ≡ true → a ≡ b
unfolding same_seat
same-seat a b e =
    let x = and_both (eqb a.kw b.kw && eqb a.pos b.pos && not (xor a.inside b.inside)) (not (xor a.ifs b.ifs)) e in
    let y = and_both (eqb a.kw b.kw && eqb a.pos b.pos) (not (xor a.inside b.inside)) x.0 in
    let z = and_both (eqb a.kw b.kw) (eqb a.pos b.pos) y.0 in
    λ i. record {
      kw = eqb-true a.kw b.kw z.0 i;
      pos = eqb-true a.pos b.pos z.1 i;
      inside = same_bit a.inside b.inside y.1 i;
      ifs = same_bit a.ifs b.ifs x.1 i;
    }

is_of : List Seat → Seat → Bool
is_of T a = any (same_seat a) T

is-of : (T : List Seat) (a : Seat) → is_of T a ≡ true → Among a T
unfolding is_of
is-of T a e = let r = any-among (same_seat a) T e in subst (λ b. Among b T) (sym (same-seat a r.0 r.2)) r.1

every-among : {A : Type 0} (p : A → Bool) {x : A} {l : List A} → every p l ≡ true → Among x l → p x ≡ true
every-among p e (here {x = y} {xs = l} h) = ap p h ∙ (if-both (p y) (every p l) e).0
every-among p e (there {x = y} {xs = l} m) = every-among p (if-both (p y) (every p l) e).1 m

abbrev Within : List Seat → List Seat → Type 0
Within S T = (a : Seat) → Among a S → Among a T

are_of : List Seat → List Seat → Bool
are_of T S = every (is_of T) S

are-of : (S T : List Seat) → are_of T S ≡ true → Within S T
unfolding are_of
are-of S T e a m = is-of T a (every-among (is_of T) e m)

merged : List Seat → List Seat → List Seat
merged [] T = T
merged (a ∷ S) T = merged S (if is_of T a then T else a ∷ T)

-- ---- the seats between statements, and those in an expression
sitting : Bool → ℕ → ℕ → Seat
sitting f w p = record { kw = w; pos = p; inside = false; ifs = f }

-- behind `;`, behind the brace that closes an if, behind `class` and `common`, which have no `;`, and behind the condition of an if,
-- which a seat does not tell from its end
between : Bool → List Seat
between f =
    sitting f 0 0 ∷ sitting f 0 1 ∷ sitting f k_class 1 ∷ sitting f k_class 2 ∷ sitting f k_class 3 ∷ sitting f k_class 4 ∷ sitting f k_common 2
    ∷ sitting f k_if p_test ∷ []

in_expression : Bool → ℕ → List Seat
in_expression f w = sitting f w p_test ∷ sitting f w p_behind ∷ []

-- of each rule the seats that its texts lead from and to; none of a list and of a rule that may stand in an if, which are gone into
loops : List (List Seat)
loops =
    let all = between false ++ between true in
    all ∷ all ∷ all ∷ all ∷ all ∷ all ∷ all ∷ [] ∷ [] ∷ in_expression true k_if ∷ (in_expression false k_constrain ++ in_expression true k_constrain) ∷ []

loop : ℕ → List Seat
loop i = get_or loops i []

-- ---- a text of g, from a seat of S, is proper and ends in a seat of T
data Goes : List Seat → G → List Seat → Type 0 where
  by-none : {S T : List Seat} → Goes S none T
  by-eps : {S T : List Seat} → Within S T → Goes S eps T
  by-tok : {S T : List Seat} {k : ℕ} → ((a : Seat) → Among a S → (b : Seat) → Among b (nexts k a) → (proper a k b ≡ true) × Among b T)
      → Goes S (tok k) T
  by-seq : {S M T : List Seat} {a b : G} → Goes S a M → Goes M b T → Goes S (seq a b) T
  by-alt : {S M N T : List Seat} {a b : G} → Goes S a M → Goes S b N → Within M T → Within N T → Goes S (alt a b) T
  by-star : {S M N T : List Seat} {a : G} → Within S M → Goes M a N → Within N M → Within M T → Goes S (star a) T
  by-rule : {S T : List Seat} {i : ℕ} → Goes S (rule i) T → Goes S (nt i) T
  by_loop : {S T : List Seat} {i : ℕ} → Within S (loop i) → Within (loop i) T → Goes S (nt i) T

-- ---- found by computation: the seats that a text of g leads to, and whether all is proper on the way
record Run : Type 0 where
  out : List Seat
  fine : Bool

run_tok : ℕ → List Seat → Run
run_tok k S =
    let T = merged (joined (nexts k) S) [] in
    record { out = T; fine = every (λ a. every (λ b. proper a k b && is_of T b) (nexts k a)) S }

run_alt : Run → Run → Run
run_alt r s =
    let T = merged r.out s.out in
    record { out = T; fine = r.fine && s.fine && (are_of T r.out && are_of T s.out) }

run_star : List Seat → List Seat → Run → Run
run_star S M r = record { out = M; fine = r.fine && (are_of M S && are_of M r.out) }

-- what a rule leads to is handed in
run_by : (ℕ → List Seat → Run) → G → List Seat → Run
run_by r none S = record { out = []; fine = true }
run_by r eps S = record { out = S; fine = true }
run_by r (tok k) S = run_tok k S
run_by r (seq a b) S = let s = run_by r a S in let t = run_by r b s.out in record { out = t.out; fine = s.fine && t.fine }
run_by r (alt a b) S = run_alt (run_by r a S) (run_by r b S)
run_by r (star a) S = let M = merged (run_by r a S).out S in run_star S M (run_by r a M)
run_by r (nt i) S = r i S

-- a rule that has seats of its own leads to these; another is gone into
loop_or : List Seat → List Seat → Run → Run
loop_or [] S r = r
loop_or (a ∷ L) S r = record { out = a ∷ L; fine = are_of (a ∷ L) S }

run : ℕ → G → List Seat → Run
run zero g S = run_by (λ i U. record { out = []; fine = false }) g S
run (suc n) g S = run_by (λ i U. let r = run n (rule i) U in loop_or (loop i) U r) g S

tok-goes : (k : ℕ) (S : List Seat) → (run_tok k S).fine ≡ true → Goes S (tok k) (run_tok k S).out
unfolding run_tok
tok-goes k S e =
    let T = (run_tok k S).out in
    by-tok (λ a m b n.
    let p = every-among (λ b. proper a k b && is_of T b) (every-among (λ a. every (λ b. proper a k b && is_of T b) (nexts k a)) e m) n in
    let q = and_both (proper a k b) (is_of T b) p in
    (q.0, is-of T b q.1))

by-goes : (r : ℕ → List Seat → Run) → ((i : ℕ) (S : List Seat) → (r i S).fine ≡ true → Goes S (nt i) (r i S).out)
    → (g : G) (S : List Seat) → (run_by r g S).fine ≡ true → Goes S g (run_by r g S).out
unfolding run_by run_alt run_star
by-goes r h none S e = by-none
by-goes r h eps S e = by-eps (λ a m. m)
by-goes r h (tok k) S e = tok-goes k S e
by-goes r h (seq a b) S e =
    let p = and_both (run_by r a S).fine _ e in
    by-seq (by-goes r h a S p.0) (by-goes r h b (run_by r a S).out p.1)
by-goes r h (alt a b) S e =
    let x = run_by r a S in
    let y = run_by r b S in
    let T = merged x.out y.out in
    let p = and_both (x.fine && y.fine) (are_of T x.out && are_of T y.out) e in
    let q = and_both x.fine y.fine p.0 in
    let w = and_both (are_of T x.out) (are_of T y.out) p.1 in
    by-alt (by-goes r h a S q.0) (by-goes r h b S q.1) (are-of x.out T w.0) (are-of y.out T w.1)
by-goes r h (star a) S e =
    let M = merged (run_by r a S).out S in
    let x = run_by r a M in
    let p = and_both x.fine (are_of M S && are_of M x.out) e in
    let w = and_both (are_of M S) (are_of M x.out) p.1 in
    by-star (are-of S M w.0) (by-goes r h a M p.0) (are-of x.out M w.1) (λ a m. m)
by-goes r h (nt i) S e = h i S e

loop-goes : (i : ℕ) (L S : List Seat) (r : Run) → L ≡ loop i → (r.fine ≡ true → Goes S (rule i) r.out)
    → (loop_or L S r).fine ≡ true → Goes S (nt i) (loop_or L S r).out
unfolding loop_or
loop-goes i [] S r q h e = by-rule (h e)
loop-goes i (a ∷ L) S r q h e = rw q (by_loop {i = i} (λ b m. rw (← q) (are-of S (a ∷ L) e b m)) (λ b m. m))

run-goes : (n : ℕ) (g : G) (S : List Seat) → (run n g S).fine ≡ true → Goes S g (run n g S).out
unfolding run
run-goes zero g S e = by-goes (λ i U. record { out = []; fine = false }) (λ i U f. absurd (false≢true f)) g S e
run-goes (suc n) g S e =
    by-goes (λ i U. let r = run n (rule i) U in loop_or (loop i) U r)
    (λ i U f. loop-goes i (loop i) U (run n (rule i) U) refl (run-goes n (rule i) U) f) g S e

-- ---- a rule that has seats of its own leads back to them
keeps : ℕ → Bool
keeps i = let r = run 2 (rule i) (loop i) in r.fine && are_of (loop i) r.out

all_keep : every keeps (up_to 11) ≡ true
unfolding keeps run run_by loop_or run_tok run_alt run_star merged are_of is_of same_seat nexts proper loop loops between in_expression sitting rule rules spelt marks keywords step step_e step_s behind compared
all_keep = refl

kept : (i : ℕ) {a : Seat} → Among a (loop i) → (T : List Seat) × Goes (loop i) (rule i) T × Within T (loop i)
unfolding keeps loop loops
kept i m =
    bool_cases (ltb i 11)
    (λ e.
    let r = run 2 (rule i) (loop i) in
    let p = and_both r.fine (are_of (loop i) r.out) (every-among keeps all_keep (among-up_to 11 i (ltb-true i 11 e))) in
    (r.out, run-goes 2 (rule i) (loop i) p.0, are-of r.out (loop i) p.1))
    (λ e. none-among (rw (get_or-eq_default loops [] {n = i} (ltb-false i 11 e)) at m))

-- ---- the theorem
sound : {g : G} {S T : List Seat} {u : List ℕ} → In g u → Goes S g T → (f : Bool) (st : Seen) → Among (seat f st) S → (v : List ℕ)
    → ((f' : Bool) (st' : Seen) → Among (seat f' st') T → Walks f' st' v) → Walks f st (u ++ v)
unfolding Walks
sound (in-eps e) (by-eps w) f st m v c = rw e (c f st (w (seat f st) m))
sound (in_tok {k = k} e) (by-tok w) f st m v c =
    let r = w (seat f st) m (seat (begun_if f k) (step st k)) (next-seat f st k) in
    rw e (r.0, c (begun_if f k) (step st k) r.1)
sound (in-seq u v e p q) (by-seq x y) f st m t c =
    rw (e, append_assoc) (sound p x f st m (v ++ t) (λ f' st' n. sound q y f' st' n t c))
sound (in_left p) (by-alt x y w z) f st m v c = sound p x f st m v (λ f' st' n. c f' st' (w (seat f' st') n))
sound (in_right p) (by-alt x y w z) f st m v c = sound p y f st m v (λ f' st' n. c f' st' (z (seat f' st') n))
sound (in-stop e) (by-star w x y z) f st m v c = rw e (c f st (z (seat f st) (w (seat f st) m)))
sound (in-more u v e p q) (by-star w x y z) f st m t c =
    rw (e, append_assoc) (sound p x f st (w (seat f st) m) (v ++ t)
    (λ f' st' n. sound q (by-star (λ a l. l) x y z) f' st' (y (seat f' st') n) t c))
sound (in-rule p) (by-rule x) f st m v c = sound p x f st m v c
sound (in-rule {i = i} p) (by_loop w z) f st m v c =
    let k = kept i (w (seat f st) m) in
    sound p k.1 f st (w (seat f st) m) v (λ f' st' n. c f' st' (z (seat f' st') (k.2 (seat f' st') n)))

-- In a text of the grammar every word is proper.
pub walks : (ks : List ℕ) → In policy ks → Walks false outside ks
unfolding loop loops between sitting Walks
walks ks h = rw append-nil at (sound h (by_loop {T = loop 0} (λ a m. m) (λ a m. m)) false outside (here refl) [] (λ f st m. tt))
