-- What a word puts into the rows, by what it is: it begins a statement, is an item, or neither. The form comes first, if the word ends
-- the statement; then the law of the row that is put in.
--
--   begin-word, item-word, other_word    the three answers of `put_word`
-- Assumes nothing.
use Prim.Native.Nat.{ℕ, ◌+◌, ◌-◌, ◌*◌, ◌%◌, ◌/◌, ◌≤◌, ◌<◌}
use native.Mathlib.Omega.{arith}
use native.Mathlib.Nat.{mod-eq_of_lt}
use mathlib.Core.Path.{◌≡◌, refl, sym, ◌∙◌, ap}
use mathlib.Core.Bool.{Bool, true, false, not, ◌&&◌, ◌||◌, false≢true}
use mathlib.Core.List.{List, [], ◌∷◌}
use borrow.Author.Tests.{ltb-true, ltb-false}
use lib.Dec.{eqb, ltb}
use lib.ListN.{take, drop}
use Rattle.std.specs.Prelude.{if◌then◌else◌}
use Rattle.meaning.specs.Keywords.{starts, k_else, k_semi, k_open, k_if}
use Rattle.meaning.specs.Words.{Word}
use Rattle.meaning.specs.Statements.{Seen, Item, Branch, Gathered, says, item_of, ends, form_at}
use Rattle.words.specs.declared.Span.{Span}
use Rattle.words.specs.Spans.{span_of}
use Rattle.listing.specs.declared.Rows.{Rows}
use Rattle.listing.specs.Listed.{entry, item_at}
use Rattle.listing.specs.Joined.{onto, joined_rows, Firsts, Inside}
use Rattle.listing.specs.Answers.{Ended, ItemPut, StmtPut, RoomFor, WordPut}
use Rattle.listing.proofs.Whole.{gathered, form-known, item-put, stmt-put}

-- ---- `gather` at a word
abbrev begins : ℕ → Bool
begins k = starts k && not (eqb k k_else)

begins-ends : (st : Seen) (k : ℕ) → begins k ≡ true → ends st k ≡ true
unfolding ends
begins-ends st k e = go (starts k) e
  where
    go : (t : Bool) → (t && not (eqb k k_else)) ≡ true → (t || eqb k k_semi || (eqb k k_open && (eqb st.kw k_if || eqb st.kw k_else))) ≡ true
    go true h = refl
    go false h = absurd (false≢true h)

abbrev form_of : Seen → Word → Gathered → ℕ
form_of st x g = if ends st x.kind then form_at st x.kind else g.form

module _ (st : Seen) (b : Branch) (x : Word) (g : Gathered) where
  onto-begins : begins x.kind ≡ true
      → onto st b x g ≡ gathered [] (form_of st x g) (record { form = g.form; at = x.at; branch = b; items = g.items } ∷ g.rest)
  unfolding onto
  onto-begins e = rw e

  onto-says : begins x.kind ≡ false → says st x.kind ≡ true → onto st b x g ≡ gathered (item_of st x ∷ g.items) (form_of st x g) g.rest
  unfolding onto
  onto-says e h = rw (e, h)

  onto-other : begins x.kind ≡ false → says st x.kind ≡ false → onto st b x g ≡ gathered g.items (form_of st x g) g.rest
  unfolding onto
  onto-other e h = rw (e, h)

  onto-form : ends st x.kind ≡ true → (onto st b x g).form ≡ form_at st x.kind
  unfolding onto
  onto-form e = rw e (go (begins x.kind))
    where
      go : (t : Bool) → (if t then gathered [] (form_at st x.kind) (record { form = g.form; at = x.at; branch = b; items = g.items } ∷ g.rest)
          else gathered (if says st x.kind then item_of st x ∷ g.items else g.items) (form_at st x.kind) g.rest).form ≡ form_at st x.kind
      go true = refl
      go false = refl

-- ---- the three answers: the arrays before, the statements behind `put_end`, and what that answered
module _ (items stmts stmts₁ : List ℕ) (r q : Rows) (st : Seen) (w : Span) (room : RoomFor stmts r w)
    (ended : Ended stmts stmts₁ r q st w.kind) where
  kinds : (x : Word) → w ≡ span_of x → w.kind ≡ x.kind
  unfolding span_of
  kinds x e = ap (λ z. z.kind) e

  starts-at : (x : Word) → w ≡ span_of x → w.start ≡ x.at
  unfolding span_of
  starts-at x e = ap (λ z. z.start) e

  firsts-kept : Firsts stmts₁ q.statements q.items
  firsts-kept = record { first = λ j h. omega (arith, ended.firsts j, room.firsts.first j (omega arith)) }

  inside-kept : (size : ℕ) → w.end ≤ size → Inside size items r.items → Inside size items q.items
  inside-kept size h i = rw ended.items i

  formed : (s : List ℕ) (x : Word) (b : Branch) (g : Gathered) → w ≡ span_of x
      → joined_rows s items stmts r (onto st b x g) ≡ joined_rows s items stmts₁ q (onto st b x g)
  formed s x b g e = ended.joins s items (onto st b x g) (λ h. rw (kinds x e) (onto-form st b x g (rw (kinds x e) at h)))

  known_kept : (x : Word) → w ≡ span_of x → ends st x.kind ≡ true → q.known ≡ true
  known_kept x e h = ended.known (rw (kinds x e) h)

  -- the form to come counts no more
  settled : (s : List ℕ) (x : Word) (is : List Item) (g : Gathered) → w ≡ span_of x
      → joined_rows s items stmts₁ q (gathered is (form_of st x g) g.rest) ≡ joined_rows s items stmts₁ q (gathered is g.form g.rest)
  settled s x is g e =
      form-known s items stmts₁ q.statements q.items q.known (ends st x.kind) is (form_at st x.kind) g.form g.rest
      (known_kept x e)

  pub other_word : (b : Branch) → begins w.kind ≡ false → says st w.kind ≡ false → WordPut items stmts items stmts₁ r q st b w
  other_word b n m =
      record {
        joins = λ s x g e t.
            formed s x b g e
            ∙ rw (onto-other st b x g (rw (kinds x e) at n) (rw (kinds x e) at m)) (settled s x g.items g e);
        firsts = firsts-kept;
        inside = inside-kept;
        more_statements = omega arith;
        more_items = omega arith;
      }

  -- ---- a statement begins, in the branch b
  module _ (b : Branch) (l : List ℕ) (a : Rows) (put : StmtPut stmts₁ l q a w.start b) where
    begin-firsts : Firsts l (q.statements + 1) q.items
    begin-firsts = record { first = λ j h. go j h (ltb j q.statements) refl }
      where
        go : (j : ℕ) → j < q.statements + 1 → (t : Bool) → ltb j q.statements ≡ t → entry l j 3 ≤ q.items
        go j h true e =
            let before = ltb-true j q.statements e in
            omega (arith, put.row.before (4 * j + 3) (omega arith), firsts-kept.first j before)
        go j h false e =
            let last : j ≡ q.statements = omega (arith, ltb-false j q.statements e) in
            rw last (omega (arith, put.row.third))

    pub begin-word : begins w.kind ≡ true → WordPut items stmts items l r a st b w
    begin-word h =
        rw put.rows
        (record {
          joins = λ s x g e t.
              let k = rw (kinds x e) at h in
              formed s x b g e
              ∙ rw (onto-begins st b x g k, known_kept x e (begins-ends st x.kind k), sym (starts-at x e))
              (stmt-put s items stmts₁ l q.statements q.items w.start b put.row g _);
          firsts = begin-firsts;
          inside = inside-kept;
          more_statements = omega (arith, ended.statements);
          more_items = omega (arith, ended.items);
        })

  -- ---- an item
  module _ (l : List ℕ) (a : Rows) (put : ItemPut items l q a st w) where
    item-is : (s : List ℕ) (x : Word) → w ≡ span_of x → x.text ≡ take (w.end - w.start) (drop w.start s) → item_of st x ≡ item_at s l q.items
    unfolding item_of item_at
    item-is s x e t =
        let kind : (w.kind + 256 * st.sign) % 256 ≡ x.kind = omega (arith, kinds x e, put.kind) in
        let sign : (w.kind + 256 * st.sign) / 256 ≡ st.sign = omega (arith, put.kind) in
        let row = put.row in
        rw (row.zeroth, row.first, row.second, row.third, kind, sign, mod-eq_of_lt put.pos, ← t, starts-at x e)

    item-inside : (size : ℕ) → w.end ≤ size → Inside size items r.items → Inside size l (q.items + 1)
    item-inside size h i = record { end = λ j g. go j g (ltb j q.items) refl }
      where
        go : (j : ℕ) → j < q.items + 1 → (t : Bool) → ltb j q.items ≡ t → entry l j 0 + entry l j 1 ≤ size
        go j g true e =
            let before = ltb-true j q.items e in
            rw (put.row.before (4 * j + 0) (omega arith), put.row.before (4 * j + 1) (omega arith)) (i.end j (omega (arith, ended.items)))
        go j g false e =
            let last : j ≡ q.items = omega (arith, ltb-false j q.items e) in
            rw (last, put.row.zeroth, put.row.first) (omega (arith, room.ordered))

    pub item-word : (b : Branch) → begins w.kind ≡ false → says st w.kind ≡ true → WordPut items stmts l stmts₁ r a st b w
    item-word b n m =
        rw put.rows
        (record {
          joins = λ s x g e t.
              formed s x b g e
              ∙ rw (onto-says st b x g (rw (kinds x e) at n) (rw (kinds x e) at m))
              (settled s x _ g e
              ∙ item-put s items l stmts₁ q.items _ _ _ _ put.row q.statements firsts-kept q.known _ g.items g.form g.rest
              (item-is s x e t));
          firsts = record { first = λ j h. omega (arith, firsts-kept.first j h) };
          inside = item-inside;
          more_statements = omega (arith, ended.statements);
          more_items = omega (arith, ended.items);
        })
