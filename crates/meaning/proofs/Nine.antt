-- `load` answers 9 exactly if the text has none of the earlier faults and a neverallow and an allow of it, in whatever branch, both cover
-- one source type, target type, class and permission; it then shows the smallest such clash, and its place is the neverallow's. Without
-- such a pair it accepts. Said of the statements of the text and of names (Coverage).
--   Clashing       some pair of statements clashes
--   Shows          a clash, by places and numbers, is one of the statements
-- A clash of statements is one of their rules (Rows), and the search over the rules finds the smallest (Smallest).
-- Assumes nothing.
use mathlib.Core.Path.{◌≡◌, refl, sym, ap, ◌∙◌, subst, transport}
use mathlib.Core.Bool.{true, false≢true}
use mathlib.Core.List.{List, []}
use mathlib.Core.Logic.{◌⊎◌}
use Prim.Native.Nat.{ℕ, ◌<◌}
use lib.Dec.{eqb}
use lib.ListN.{length, get_or}
use Rattle.meaning.specs.Plain.{nowhere}
use Rattle.meaning.specs.Statements.{Statement}
use Rattle.meaning.specs.Names.{declared_twice}
use Rattle.meaning.specs.Permissions.{Name, Class}
use Rattle.meaning.specs.Sets.{names_of}
use Rattle.meaning.specs.Coverage.{covers}
use Rattle.meaning.specs.Policy.{Rule}
use Rattle.meaning.specs.Rules.{rule_of, av_statements, rules_of}
use Rattle.meaning.specs.Neverallow.{Clash, Search, kept, broken, rule_pair}
use Rattle.meaning.specs.Contexts.{nameless}
use Rattle.meaning.specs.Keywords.{is_av, k_allow, k_neverallow}
use Rattle.meaning.specs.Refusals.{accepted, neverallow_broken}
use Rattle.meaning.specs.Load.{load, unless_broken}
use Rattle.meaning.proofs.Lists.{Among, and_both, keep-among, among-keep, each-among, among-each, at-among, among-at}
use Rattle.meaning.proofs.Accepted.{statements_in, names_in, policy_in, rules_in, search_in, NoEarlier, load_is, is_late, no-earlier, stands}
use Rattle.meaning.proofs.Apart.{types-apart}
use Rattle.meaning.proofs.Clashes.{rule_covers, ClashOf, none_left}
use Rattle.meaning.proofs.Places.{rules-sorted}
use Rattle.meaning.proofs.Rows.{type_name, class_in, class_name, perm_name, perm-below, rule-covers}
use Rattle.meaning.proofs.Smallest.{Before, smallest}

-- ---- clashes of statements
-- `never` and `allow` are a neverallow and an allow of the statements, and both cover the source s, target t, class c and permission x
pub record Both (ss : List Statement) (never allow : Statement) (s t c x : List ℕ) : Type 0 where
  pub never-among : Among never ss
  pub allow-among : Among allow ss
  pub never-form : never.form ≡ k_neverallow
  pub allow-form : allow.form ≡ k_allow
  pub by-never : covers (names_of ss) never s t c x ≡ true
  pub by-allow : covers (names_of ss) allow s t c x ≡ true

-- some declared source and target, declared class and permission of it are covered by both
pub record Clashing (ss : List Statement) : Type 0 where
  pub never : Statement
  pub allow : Statement
  pub source : Name
  pub target : Name
  pub class : Class
  pub permission : Name
  pub source-among : Among source (names_of ss).types
  pub target-among : Among target (names_of ss).types
  pub class-among : Among class (names_of ss).classes
  pub permission-among : Among permission class.perms
  pub both : Both ss never allow source.text target.text class.name.text permission.text

-- the clash x shows such a pair by the places of the two and the numbers of the four
pub record Shows (ss : List Statement) (x : Clash) : Type 0 where
  pub never : Statement
  pub allow : Statement
  pub never-at : x.never ≡ never.at
  pub allow-at : x.allow ≡ allow.at
  pub source : x.source < length (names_of ss).types
  pub target : x.target < length (names_of ss).types
  pub class : x.class < length (names_of ss).classes
  pub permission : x.permission < length (class_in (names_of ss) x.class).perms
  pub both :
      Both ss never allow (type_name (names_of ss) x.source) (type_name (names_of ss) x.target) (class_name (names_of ss) x.class)
      (perm_name (names_of ss) x.class x.permission)

clashing-shows : (ss : List Statement) → Clashing ss → (x : Clash) × Shows ss x
clashing-shows ss h =
    let n = names_of ss in
    let none : Class = record { name = nameless; perms = [] } in
    let s = among-at nameless h.source-among in
    let t = among-at nameless h.target-among in
    let c = among-at none h.class-among in
    let i = among-at nameless h.permission-among in
    let ps : h.source.text ≡ type_name n s.0 = ap (λ x. x.text) (sym s.2) in
    let pt : h.target.text ≡ type_name n t.0 = ap (λ x. x.text) (sym t.2) in
    let pc : h.class ≡ class_in n c.0 = sym c.2 in
    let px : h.permission.text ≡ perm_name n c.0 i.0 = ap (λ x. x.text) (sym i.2) ∙ ap (λ k. (get_or k.perms i.0 nameless).text) pc in (
      record { never = h.never.at; allow = h.allow.at; source = s.0; target = t.0; class = c.0; permission = i.0 },
      record {
        never = h.never;
        allow = h.allow;
        never-at = refl;
        allow-at = refl;
        source = s.1;
        target = t.1;
        class = c.1;
        permission = subst (λ k. i.0 < length k.perms) pc i.1;
        both = transport (λ j. Both ss h.never h.allow (ps j) (pt j) (pc j).name.text (px j)) h.both;
      },
    )

shows-clashing : (ss : List Statement) (x : Clash) → Shows ss x → Clashing ss
shows-clashing ss x h =
    let n = names_of ss in
    record {
      never = h.never;
      allow = h.allow;
      source = get_or n.types x.source nameless;
      target = get_or n.types x.target nameless;
      class = class_in n x.class;
      permission = get_or (class_in n x.class).perms x.permission nameless;
      source-among = at-among n.types x.source nameless h.source;
      target-among = at-among n.types x.target nameless h.target;
      class-among = at-among n.classes x.class (record { name = nameless; perms = [] }) h.class;
      permission-among = at-among (class_in n x.class).perms x.permission nameless h.permission;
      both = h.both;
    }

-- ---- a clash of statements is one of their rules
module _ (s : List ℕ) (once : declared_twice (statements_in s) ≡ nowhere) where
  rule-among : (st : Statement) → Among st (statements_in s) → is_av st.form ≡ true → Among (rule_of (names_in s) st) (rules_in s)
  unfolding rules_of av_statements
  rule-among st m e = among-each (rule_of (names_in s)) (among-keep (λ x. is_av x.form) m e)

  among-rule : (r : Rule) → Among r (rules_in s) → (st : Statement) × Among st (statements_in s) × (r ≡ rule_of (names_in s) st)
  unfolding rules_of av_statements
  among-rule r m =
      let k = each-among (rule_of (names_in s)) (av_statements (statements_in s)) m in
      (k.0, (keep-among (λ x. is_av x.form) (statements_in s) k.1).0, k.2)

  covers_at : (st : Statement) (x : Clash) → x.source < length (names_in s).types → x.target < length (names_in s).types
      → x.class < length (names_in s).classes → x.permission < length (class_in (names_in s) x.class).perms
      → rule_covers (rule_of (names_in s) st) x.source x.target x.class x.permission
      ≡ covers (names_in s) st (type_name (names_in s) x.source) (type_name (names_in s) x.target) (class_name (names_in s) x.class)
      (perm_name (names_in s) x.class x.permission)
  covers_at st x = rule-covers (names_in s) st (types-apart s once) x.source x.target x.class x.permission

  shows-clash : (x : Clash) → Shows (statements_in s) x → ClashOf (length (names_in s).types) (rules_in s) x
  unfolding rule_of
  shows-clash x h =
      let n = names_in s in
      let b = h.both in
      record {
        never = rule_of n h.never;
        allow = rule_of n h.allow;
        never-among = rule-among h.never b.never-among (rw b.never-form);
        allow-among = rule-among h.allow b.allow-among (rw b.allow-form);
        never-kind = b.never-form;
        allow-kind = b.allow-form;
        meet =
            record {
              never = h.never-at;
              allow = h.allow-at;
              source = h.source;
              target = h.target;
              by-never = covers_at h.never x h.source h.target h.class h.permission ∙ b.by-never;
              by-allow = covers_at h.allow x h.source h.target h.class h.permission ∙ b.by-allow;
            };
      }

  clash-shows : (x : Clash) → ClashOf (length (names_in s).types) (rules_in s) x → Shows (statements_in s) x
  unfolding rule_of
  clash-shows x h =
      let n = names_in s in
      let m = h.meet in
      let a = among-rule h.never h.never-among in
      let b = among-rule h.allow h.allow-among in
      let an : rule_covers (rule_of n a.0) x.source x.target x.class x.permission ≡ true = rw a.2 at m.by-never in
      let bn : rule_covers (rule_of n b.0) x.source x.target x.class x.permission ≡ true = rw b.2 at m.by-allow in
      let l = perm-below n a.0 x.class x.permission (and_both (rule_pair (rule_of n a.0) x.source x.target) _ an).1 in
      record {
        never = a.0;
        allow = b.0;
        never-at = m.never ∙ ap (λ r. r.at) a.2;
        allow-at = m.allow ∙ ap (λ r. r.at) b.2;
        source = m.source;
        target = m.target;
        class = l.0;
        permission = l.1;
        both =
            record {
              never-among = a.1;
              allow-among = b.1;
              never-form = sym (ap (λ r. r.kind) a.2) ∙ h.never-kind;
              allow-form = sym (ap (λ r. r.kind) b.2) ∙ h.allow-kind;
              by-never = sym (covers_at a.0 x m.source m.target l.0 l.1) ∙ an;
              by-allow = sym (covers_at b.0 x m.source m.target l.0 l.1) ∙ bn;
            };
      }

-- ---- 9
-- what is shown with 9
pub record Shown (s : List ℕ) : Type 0 where
  pub clash : Shows (statements_in s) (load s).clash
  pub smallest : (y : Clash) → Shows (statements_in s) y → (y ≡ (load s).clash) ⊎ Before (load s).clash y
  pub place : (load s).place ≡ (load s).clash.never
  pub policy : (load s).policy ≡ policy_in s

decided : (s : List ℕ) → NoEarlier s → (x : Search) → search_in s ≡ x → load s ≡ unless_broken x (policy_in s)
decided s c x q = load_is s c ∙ ap (λ y. unless_broken y (policy_in s)) q

shown-with : (s : List ℕ) → NoEarlier s → (x : Search) → search_in s ≡ x → (load s).number ≡ neverallow_broken → Shown s
unfolding unless_broken
shown-with s c kept q e = absurd (false≢true (ap (λ (k : ℕ). eqb k neverallow_broken) (sym (ap (λ l. l.number) (decided s c kept q)) ∙ e)))
shown-with s c (broken x) q e =
    let d = decided s c (broken x) q in
    let k : (load s).clash ≡ x = ap (λ l. l.clash) d in
    let h = smallest (length (names_in s).types) (rules_in s) x (rules-sorted (names_in s) s) q in
    record {
      clash = rw k (clash-shows s c.once x h.0);
      smallest = rw k (λ y w. h.1 y (shows-clash s c.once y w));
      place = ap (λ l. l.place) d ∙ sym (ap (λ y. y.never) k);
      policy = ap (λ l. l.policy) d;
    }

-- Where 9 is answered, none of the earlier faults is there, two statements clash, and the smallest clash is shown, at the neverallow.
pub nine : (s : List ℕ) → (load s).number ≡ neverallow_broken → NoEarlier s × Clashing (statements_in s) × Shown s
nine s e =
    let c = no-earlier s (ap is_late e) in
    let h = shown-with s c (search_in s) refl e in
    (c, shows-clashing (statements_in s) (load s).clash h.clash, h)

-- Where none of the earlier faults is there and two statements clash, 9 is answered.
pub nine-if : (s : List ℕ) → NoEarlier s → Clashing (statements_in s) → (load s).number ≡ neverallow_broken
unfolding unless_broken
nine-if s c h = found (search_in s) refl
  where
    found : (x : Search) → search_in s ≡ x → (load s).number ≡ neverallow_broken
    found kept q = let y = clashing-shows (statements_in s) h in absurd (none_left _ _ q (shows-clash s c.once y.0 y.1))
    found (broken x) q = ap (λ l. l.number) (decided s c (broken x) q)

-- Where none of the earlier faults is there and no two statements clash, the text is accepted.
pub accepted-if : (s : List ℕ) → NoEarlier s → (Clashing (statements_in s) → ⊥) → (load s).number ≡ accepted
unfolding unless_broken
accepted-if s c h = found (search_in s) refl
  where
    found : (x : Search) → search_in s ≡ x → (load s).number ≡ accepted
    found kept q = ap (λ l. l.number) (decided s c kept q)
    found (broken x) q = absurd (h (nine s (ap (λ l. l.number) (decided s c (broken x) q))).1)

-- An accepted text has no two statements that clash.
pub accepted-only : (s : List ℕ) → (load s).number ≡ accepted → Clashing (statements_in s) → ⊥
accepted-only s e h = false≢true (ap (λ (k : ℕ). eqb k accepted) (sym (nine-if s (stands s e).earlier h) ∙ e))
