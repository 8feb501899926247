-- The shape of the statements of a text of the grammar, where a later page rests on it (`shape`). In a statement of a plain form
--   named   every word at a position where only names may stand is a name
--   owed    where a name must stand, one stands
--   told    in a constraint, the words behind u1 .. t2 stand at the position of what these are compared with (`heads`)
-- Every word is proper (Walks); what it does to the reading is in Steps. What is gathered from a word on has its shape if what is
-- gathered behind the word has (`shape_on`), and at the `;` that ends the statement nothing is left to say (`shape-over`).
-- Assumes nothing.
use Prim.Native.Nat.{ℕ}
use native.Mathlib.Omega.{arith}
use mathlib.Core.Path.{◌≡◌, refl, sym, ◌∙◌}
use mathlib.Core.Bool.{Bool, true, false, not, ◌&&◌, ◌||◌, false≢true}
use mathlib.Core.List.{List, [], ◌∷◌}
use borrow.Author.Tests.{eqb-true, leb-true, le-leb, not-true}
use lib.Dec.{eqb, leb}
use lib.ListN.{length}
use Rattle.std.specs.Prelude.{if◌then◌else◌}
use Rattle.meaning.specs.Plain.{within, keep}
use Rattle.meaning.specs.Keywords.{k_name, k_semi, k_class, k_role, k_constrain, starts, is_term}
use Rattle.meaning.specs.Words.{Word, words_of}
use Rattle.meaning.specs.Statements.{Seen, outside, step, compared, in_e, of_e, idle, saying, says, Item, item_of, Branch, always, Statement, statements_of, ends, form_at, Gathered, gather, p_first, p_test, p_users, p_types}
use Rattle.meaning.proofs.Lists.{bool_cases, either-right, or-neither, and_both, both-and, or_cases, Among, here, there}
use Rattle.meaning.proofs.Reading.{kinds, fits-is}
use Rattle.meaning.proofs.Places.{stepped}
use Rattle.meaning.proofs.Steps.{active, active-starts, starts-ends, begin-step, stays, quiet-on, stop-silent, says-quiet, says-what, of_e-in, compared_is}
use Rattle.meaning.proofs.Seats.{Seat, seat, begun_if, due, paid, speaks, names_only, Proper, proper-is, Walks}
use Rattle.meaning.proofs.Walks.{walks}
use Rattle.meaning.proofs.Forms.{plain_form, form-plain}
use Rattle.meaning.proofs.Accepted.{NoEarlier, statements_in}

-- ---- a word more of a statement: what `gather` makes of what is gathered behind it, by the tests that it makes
abbrev more : Seen → Word → List Item → Bool → List Item
more st w is s = if s then item_of st w ∷ is else is

abbrev pub gathered : Bool → Bool → Bool → Seen → Word → Branch → Gathered → Gathered
gathered c e s st w b r = stepped c s (if e then form_at st w.kind else r.form) w.at b (item_of st w) r

-- what says something where only names may is a name
name-said : (f : Bool) (st : Seen) (k : ℕ) {b : Seat} → Proper (seat f st) k b → says st k ≡ true → names_only st.kw st.pos ≡ true
    → eqb k k_name ≡ true
name-said f st k p s e =
    or_cases (eqb k k_name) (not (in_e st) && not (saying k)) (rw e at p.name-here) (λ q. q)
    (λ q.
    let r = and_both (not (in_e st)) (not (saying k)) q in
    or_cases (of_e st k) (saying k) (says-what st k s)
    (λ t. absurd (false≢true (sym (not-true (in_e st) r.0) ∙ of_e-in st k t)))
    (λ t. absurd (false≢true (sym (not-true (saying k) r.1) ∙ t))))

-- where a name must stand it says something
due-said : (st : Seen) (k : ℕ) → speaks st.kw ≡ true → saying k ≡ true → says st k ≡ true
unfolding says idle
due-said st k e s =
    let a = and_both (active st.kw) (not (eqb st.kw k_class || eqb st.kw k_role)) e in
    rw (a.0, not-true (eqb st.kw k_class || eqb st.kw k_role) a.1, says) (either-right (of_e st k) (saying k) s)

-- where no statement is, nothing is gathered
quiet : (ws : List Word) (st : Seen) (n : ℕ) (b : Branch) → active st.kw ≡ false → (gather st n b ws).items ≡ []
unfolding gather
quiet [] st n b e = refl
quiet (w ∷ ws) st n b e = by (active k) refl _ (λ o. quiet ws (step st k) _ _ (quiet-on st k o e))
  where
    k : ℕ
    k = w.kind

    by : (c : Bool) → active k ≡ c → (r : Gathered) → (active k ≡ false → r.items ≡ []) → (gathered c (ends st k) (says st k) st w b r).items ≡ []
    by true o r h = refl
    by false o r h = rw (says-quiet st k e) (h o)

-- ---- the shape of the rest of a statement, from the position p on
abbrev pub in_test : Item → Bool
in_test i = within p_test p_types i.pos

-- the words go on at the position p
unfoldable pub Heads : ℕ → List Item → Type 0
Heads p [] = ⊥
Heads p (i ∷ is) = i.pos ≡ p

-- behind u1 .. t2 where a comparison begins, the words go on with what they are compared with
unfoldable pub Told : List Item → Type 0
Told [] = Unit {0}
Told (i ∷ is) = (eqb i.pos p_test ≡ true → is_term i.kind ≡ true → Heads (compared i.kind) is) × Told is

pub record Shape (w p : ℕ) (is : List Item) : Type 0 where
  pub named : (i : Item) → Among i is → names_only w i.pos ≡ true → eqb i.kind k_name ≡ true
  pub owed : paid w p ≡ false → (i : Item) × Among i is × (due w i.pos ≡ true)
  pub heads : eqb w k_constrain ≡ true → within p_users p_types p ≡ true → Heads p (keep in_test is)
  pub told : eqb w k_constrain ≡ true → Told (keep in_test is)

compares-in : (p : ℕ) → within p_users p_types p ≡ true → within p_test p_types p ≡ true
compares-in p e =
    let r = and_both (leb p_users p) (leb p p_types) e in
    both-and (leb p_test p) (leb p p_types) (le-leb p_test p (omega (arith, leb-true p_users p r.0))) r.1

-- one word more, which does not end the statement
module _ (f : Bool) (st : Seen) (w : Word) (p : Proper (seat f st) w.kind (seat (begun_if f w.kind) (step st w.kind)))
    (e : ends st w.kind ≡ false) (is : List Item) (r : Shape st.kw (step st w.kind).pos is) where
  named-on : (s : Bool) → says st w.kind ≡ s → (i : Item) → Among i (more st w is s) → names_only st.kw i.pos ≡ true
      → eqb i.kind k_name ≡ true
  unfolding item_of
  named-on true s i (here q) n = rw q (name-said f st w.kind p s (rw q at n))
  named-on true s i (there m) n = r.named i m n
  named-on false s i m n = r.named i m n

  goes : (starts w.kind ≡ false) × (eqb w.kind k_semi ≡ false)
  unfolding ends
  goes = or-neither (starts w.kind) (eqb w.kind k_semi) (or-neither (starts w.kind || eqb w.kind k_semi) _ e).0

  owed-on : (s : Bool) → says st w.kind ≡ s → paid st.kw st.pos ≡ false
      → (i : Item) × Among i (more st w is s) × (due st.kw i.pos ≡ true)
  unfolding item_of
  owed-on s h n =
      bool_cases (paid st.kw (step st w.kind).pos)
      (λ q.
      let d = due st.kw st.pos in
      let m : (d && speaks st.kw && saying w.kind) ≡ true = rw (goes.1, goes.0, stays st w.kind e, q, n) at p.dues-met in
      let a = and_both (d && speaks st.kw) (saying w.kind) m in
      let b = and_both d (speaks st.kw) a.0 in
      (item_of st w, rw (sym h ∙ due-said st w.kind b.1 a.1) (here refl), b.0))
      (λ q. let o = r.owed q in (o.0, later s o.1, o.2))
    where
      later : (s : Bool) {i : Item} → Among i is → Among i (more st w is s)
      later true m = there m
      later false m = m

  -- a constraint says every word of its expression
  test-said : eqb st.kw k_constrain ≡ true → in_e st ≡ true → says st w.kind ≡ true
  unfolding says of_e idle
  test-said c t = rw (eqb-true st.kw k_constrain c, t, goes.0, goes.1, says, of_e, idle)

  heads-on : (s : Bool) → says st w.kind ≡ s → eqb st.kw k_constrain ≡ true → within p_users p_types st.pos ≡ true
      → Heads st.pos (keep in_test (more st w is s))
  unfolding item_of Heads
  heads-on s h c t =
      let i : in_e st ≡ true = compares-in st.pos t in
      rw (sym h ∙ test-said c i, i) refl

  told-on : (s : Bool) → says st w.kind ≡ s → eqb st.kw k_constrain ≡ true → Told (keep in_test (more st w is s))
  unfolding item_of Told
  told-on s h c =
      bool_cases (in_e st)
      (λ i. rw (sym h ∙ test-said c i, i) (
        λ q k.
            let z : (step st w.kind).pos ≡ compared w.kind = eqb-true _ _ (rw (c, q, k) at p.told) in
            rw z at (r.heads c (rw z (compared_is w.kind))),
        r.told c,
      ))
      (λ i. by s i)
    where
      by : (s : Bool) → in_e st ≡ false → Told (keep in_test (more st w is s))
      by true i = rw i (r.told c)
      by false i = r.told c

  shape_on : (s : Bool) → says st w.kind ≡ s → Shape st.kw st.pos (more st w is s)
  shape_on s h = record { named = named-on s h; owed = owed-on s h; heads = heads-on s h; told = told-on s h }

-- `;`
shape-over : (f : Bool) (st : Seen) (b : Seat) → Proper (seat f st) k_semi b → Shape st.kw st.pos []
unfolding Told
shape-over f st b p =
    record {
      named = λ i m n. absurd (elim m [ ]);
      owed = λ n. absurd (false≢true (sym n ∙ p.dues-met));
      heads = λ c t. absurd (false≢true (rw (c, t) at p.goes_on_lem));
      told = λ c. tt;
    }

semi-out : (st : Seen) (k : ℕ) → eqb k k_semi ≡ true → active (step st k).kw ≡ false
unfolding step
semi-out st k q = rw (eqb-true k k_semi q)

-- the statement that is being read
shape_of : (ws : List Word) (f : Bool) (st : Seen) (n : ℕ) (b : Branch) → Walks f st (kinds ws) → plain_form (gather st n b ws).form ≡ true
    → ((gather st n b ws).form ≡ st.kw) × Shape st.kw st.pos (gather st n b ws).items
unfolding gather Walks
shape_of [] f st n b g h = absurd (false≢true h)
shape_of (w ∷ ws) f st n b g h =
    by (active k) (ends st k) (says st k) refl refl refl _ (shape_of ws (begun_if f k) (step st k) _ _ g.1)
    (quiet ws (step st k) _ _) h
  where
    k : ℕ
    k = w.kind

    p : Proper (seat f st) k (seat (begun_if f k) (step st k))
    p = proper-is _ k _ g.0

    over : eqb k k_semi ≡ true → Shape st.kw st.pos []
    over q = shape-over f st _ (rw (eqb-true k k_semi q) at p)

    by : (c e s : Bool) → active k ≡ c → ends st k ≡ e → says st k ≡ s → (r : Gathered)
        → (plain_form r.form ≡ true → (r.form ≡ (step st k).kw) × Shape (step st k).kw (step st k).pos r.items)
        → (active (step st k).kw ≡ false → r.items ≡ [])
        → plain_form (gathered c e s st w b r).form ≡ true
        → ((gathered c e s st w b r).form ≡ st.kw) × Shape st.kw st.pos (gathered c e s st w b r).items
    by true true s o e q r i z h = let x = form-plain st k h in (x.0, over x.1)
    by true false s o e q r i z h = absurd (false≢true (sym e ∙ starts-ends st k (active-starts k o)))
    by false true true o e q r i z h =
        absurd (false≢true (sym (stop-silent st k (either-right (starts k) _ (form-plain st k h).1)) ∙ q))
    by false true false o e q r i z h = let x = form-plain st k h in (x.0, rw (z (semi-out st k x.1)) (over x.1))
    by false false s o e q r i z h =
        let x = i h in
        let y : (step st k).kw ≡ st.kw = stays st k e in
        (x.0 ∙ y, shape_on f st w p e r.items (rw y at x.1) s q)

-- and those behind it
shapes-of : (ws : List Word) (f : Bool) (st : Seen) (n : ℕ) (b : Branch) → Walks f st (kinds ws) → {x : Statement}
    → Among x (gather st n b ws).rest → plain_form x.form ≡ true → Shape x.form p_first x.items
unfolding gather Walks
shapes-of [] f st n b g m h = elim m [ ]
shapes-of (w ∷ ws) f st n b g m h =
    by (active k) refl _ (shape_of ws (begun_if f k) (step st k) _ _ g.1) h (λ m. shapes-of ws (begun_if f k) (step st k) _ _ g.1 m h) m
  where
    k : ℕ
    k = w.kind

    by : (c : Bool) → active k ≡ c → (r : Gathered)
        → (plain_form r.form ≡ true → (r.form ≡ (step st k).kw) × Shape (step st k).kw (step st k).pos r.items)
        → {x : Statement} → plain_form x.form ≡ true → (Among x r.rest → Shape x.form p_first x.items)
        → Among x (gathered c (ends st k) (says st k) st w b r).rest → Shape x.form p_first x.items
    by true o r i h j (here e) = let y = i (rw e at h) in rw e (rw (sym y.0, begin-step st k (active-starts k o)) at y.1)
    by true o r i h j (there m) = j m
    by false o r i h j m = j m

-- ---- the texts that a load has no earlier refusal for
pub text-walks : (s : List ℕ) → NoEarlier s → Walks false outside (kinds (words_of s))
text-walks s c = walks (kinds (words_of s)) (fits-is (length s) (words_of s) c.reads)

-- Every statement of a plain form has its shape.
pub shape : (s : List ℕ) → NoEarlier s → {x : Statement} → Among x (statements_in s) → plain_form x.form ≡ true
    → Shape x.form p_first x.items
unfolding statements_of
shape s c m h = shapes-of (words_of s) false outside 0 always (text-walks s c) m h
