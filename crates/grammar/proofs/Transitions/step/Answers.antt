-- `Transitions::step` goes from state to state as the grammar does: at each return a law of Turn. A kind too high leaves nothing, nor
-- does a word that leads to state 0; outside expressions the entry is the next state; within parentheses an opening one counts up, a
-- word that stays inside keeps the count, and the closing one leads out or counts down.
-- Assumes nothing.
use mathlib.Core.Path.{refl, sym, ◌∙◌}
use borrow.Author.Tests.{eqb-true, eqb-false}
use Rattle.std.proofs.Common.{arith}
use Rattle.grammar.proofs.Turn.{leads, entry_small, step-beyond, step-none, step-outside, step-open, step-here, step-close}
use Rattle.grammar.proofs.Transitions.step.Goals as goal

pub returns-then-beyond : goal.returns-then-beyond
returns-then-beyond c = step-beyond _ _ _ c.args.st.known (omega arith)

pub returns-then-n-eq0 : goal.returns-then-n-eq0
returns-then-n-eq0 c = step-none _ _ _ (cc) c.args.st.known (omega arith) _ c.if-n-eq0.true

pub invariant_of-result : goal.invariant_of-result
invariant_of-result c = record { known = entry_small c.args.st.s c.args.k _ (cc) c.args.st.known (omega arith) }

pub returns-then-s-gt-LAST_INSIDE : goal.returns-then-s-gt-LAST_INSIDE
returns-then-s-gt-LAST_INSIDE c =
    leads (step-outside _ _ _ (cc) c.args.st.known (omega arith) _ c.if-s-gt-LAST_INSIDE.true) c.if-n-eq0.false

pub invariant_of-result-then-eq : goal.invariant_of-result-then-eq
invariant_of-result-then-eq c = record { known = entry_small c.args.st.s c.args.k _ (cc) c.args.st.known (omega arith) }

pub returns-then-eq : goal.returns-then-eq
returns-then-eq c =
    let opens = eqb-true _ _ (sym c.eq.ensures ∙ c.if-eq.true) in
    leads (step-open _ _ _ (cc) c.args.st.known (omega arith) _ c.if-s-gt-LAST_INSIDE.false opens) c.if-n-eq0.false

pub invariant_of-result-then-n-le-LAST_INSIDE : goal.invariant_of-result-then-n-le-LAST_INSIDE
invariant_of-result-then-n-le-LAST_INSIDE c = record { known = entry_small c.args.st.s c.args.k _ (cc) c.args.st.known (omega arith) }

pub returns-then-n-le-LAST_INSIDE : goal.returns-then-n-le-LAST_INSIDE
returns-then-n-le-LAST_INSIDE c =
    leads
    (step-here _ _ _ (cc) c.args.st.known (omega arith) _ c.if-s-gt-LAST_INSIDE.false
    (eqb-false _ _ (sym c.eq.ensures ∙ c.if-eq.false)) (grind arith))
    c.if-n-eq0.false

pub returns : goal.returns
returns c =
    step-close _ _ _ refl c.args.st.known (omega arith) _ c.if-s-gt-LAST_INSIDE.false
    (eqb-false _ _ (sym c.eq.ensures ∙ c.if-eq.false)) (grind arith) c.if-depth-eq0.false
