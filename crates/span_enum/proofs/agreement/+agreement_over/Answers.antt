use Rattle.span_enum.proofs.Base.{arith, mark_count, member, reached, Some, subst, sym, text_at, true, word_over, ℕ, ◌*◌, ◌++◌, ◌+◌, ◌<◌, ◌≡◌, ◌≤◌}
use Rattle.span_enum.proofs.Agreed.{agree-right, left-lookups, right-lookups, until-left}
use Rattle.std.proofs.Common.{rules}
use Rattle.span_enum.proofs.Chains.{Fork, ahead-left, ahead-right, fork, fork-height}
use Rattle.span_enum.proofs.Runs.{run-within}
use Rattle.span_enum.proofs.Tables.{pair-text}
use Rattle.span_enum.specs.Agreement.{AgreesUntil, IsAgreement, path_lookups}
use Rattle.span_enum.specs.Trail.{height_at}
use Rattle.span_enum.proofs.agreement.+agreement_over.Given.{Over}
use Rattle.span_enum.proofs.agreement.+agreement_over.Goals.{After-agreement_over-in-Whole, After-look-right}
use Rattle.span_enum.proofs.agreement.+agreement_over.Goals as goal

-- the tables of the pair and of its children
pair : (g : Over) (t : ℕ) (c : After-look-right g t) → Fork c.args.input.now c.args.here.now c.in-Pair.l c.in-Pair.r c.look-left.result c.look-right.result
pair g t c = fork c.args.input.now c.requires.input c.args.here.now c.requires.is_ahead c.in-Pair.l c.in-Pair.r c.look-left.result c.look-right.result c.in-Pair.is c.look-left.ensures.look c.look-right.ensures.look

-- its text is that of both
joined : (g : Over) (t : ℕ) (c : After-look-right g t) → text_at c.args.input.now c.args.here.now.id.index ≡ text_at c.args.input.now c.in-Pair.l.index ++ text_at c.args.input.now c.in-Pair.r.index
joined g t c = pair-text c.args.input.now.view.store.now c.args.here.now.id.index c.in-Pair.l c.in-Pair.r (pair g t c).pair

both : (g : Over) (t : ℕ) (c : After-agreement_over-in-Whole g t) → IsAgreement c.args.input.now.dfa.now c.args.p c.args.t.now c.args.here.now.at (text_at c.args.input.now c.in-Pair.l.index ++ text_at c.args.input.now c.in-Pair.r.index)
    c.args.here.now.goals c.agreement_over-in-Whole.result
both g t c =
    let input = c.args.input.now in
    let h = c.args.here.now in
    let right = subst (λ n. IsAgreement input.dfa.now c.in-Whole.q c.args.t.now (h.at + n) (text_at input c.in-Pair.r.index) h.goals c.agreement_over-in-Whole.result) c.look-left.ensures.look.len_is c.agreement_over-in-Whole.ensures.agreement in
    agree-right input.dfa.now c.args.p c.in-Whole.q h.at c.args.t.now (text_at input c.in-Pair.l.index) (text_at input c.in-Pair.r.index) h.goals c.agreement_over-in-Whole.result c.in-Whole.ensures.agreement.0 right

pub agreement_over-requires : goal.agreement_over-requires
agreement_over-requires g t c κs within =
    let f = pair g t (goal.at.agreement_over-requires g t c).After-look-right in
    let child = ahead-left c.args.input.now c.args.here.now c.in-Pair.l c.in-Pair.r c.look-left.result c.look-right.result f c.goals_between-between.result c.args.here.now.next in
    let can = c.goals_between-between.ensures.can c.requires.can in
    (omega (arith, c.decreases, f.pair.1), (within, ((λ a m. search rules), (omega (arith, c.requires.input.narrow), (omega (arith, c.requires.input.narrow), (c.requires.input, (child, (c.requires.state, can))))))))

pub agreement_over-requires-in-Whole : goal.agreement_over-requires-in-Whole
agreement_over-requires-in-Whole g t c κs within =
    let f = pair g t (goal.at.agreement_over-requires-in-Whole g t c).After-look-right in
    let sibling = ahead-right c.args.input.now c.args.here.now c.in-Pair.l c.in-Pair.r c.look-left.result c.look-right.result f in
    let agrees = c.in-Whole.ensures.agreement in
    let state = run-within c.args.input.now.dfa.now c.requires.input.automaton c.args.p c.in-Whole.q _ c.requires.state agrees.0 in
    let can = c.goals_between-between.ensures.on c.in-Whole.q agrees.1 in
    (omega (arith, c.decreases, f.pair.2), (within, ((λ a m. search rules), (omega (arith, c.requires.input.narrow), (omega (arith, c.requires.input.narrow), (c.requires.input, (sibling, (state, can))))))))

pub returns-in-Whole-clause-agreement : goal.returns-in-Whole-clause-agreement
returns-in-Whole-clause-agreement g t c =
    let e = joined g t (goal.at.returns-in-Whole-clause-agreement g t c).After-look-right in
    subst (λ x. IsAgreement c.args.input.now.dfa.now c.args.p c.args.t.now c.args.here.now.at x c.args.here.now.goals c.agreement_over-in-Whole.result) (sym e)
    (both g t (goal.at.returns-in-Whole-clause-agreement g t c).After-agreement_over-in-Whole)

pub returns-in-Whole-clause-cost : goal.returns-in-Whole-clause-cost
returns-in-Whole-clause-cost g t c =
    let input = c.args.input.now in
    let a = input.dfa.now in
    let h = c.args.here.now in
    let tuple = c.args.t.now in
    let k = (goal.at.returns-in-Whole-clause-cost g t c).After-look-right in
    let f = pair g t k in
    let e = joined g t k in
    let l = c.in-Pair.l.index in
    let r = c.in-Pair.r.index in
    let out = c.agreement_over-in-Whole.result in
    let some = subst (λ x. (q : ℕ) → reached a c.args.p (word_over tuple h.at x) ≡ Some q → member h.goals q ≡ true → 0 < mark_count (word_over tuple h.at x)) e c.in_default.ensures in
    let cost = subst (λ n. c.agreement_over-in-Whole.new.looks ≤ c.agreement_over.new.looks + 2 * (height_at input r * mark_count (word_over tuple (h.at + n) (text_at input r))) + path_lookups out (height_at input r))
    c.look-left.ensures.look.len_is c.agreement_over-in-Whole.ensures.cost in
    subst (λ x. c.agreement_over-in-Whole.new.looks ≤ c.args.looks.now + 2 * (height_at input h.id.index * mark_count (word_over tuple h.at x)) + path_lookups out (height_at input h.id.index)) (sym e)
    (right-lookups tuple h.at (height_at input h.id.index) (height_at input l) (height_at input r) c.args.looks.now c.look-right.new.looks c.agreement_over.new.looks c.agreement_over-in-Whole.new.looks (text_at input l) (text_at input r)
    (fork-height input h c.in-Pair.l c.in-Pair.r _ _ f) (omega (arith, c.look-left.ensures.step, c.look-right.ensures.step)) a c.args.p h.goals out (both g t (goal.at.returns-in-Whole-clause-cost g t c).After-agreement_over-in-Whole) some
    (omega (arith, c.in-Whole.ensures.cost)) cost)

pub returns-in-Until-clause-agreement : goal.returns-in-Until-clause-agreement
returns-in-Until-clause-agreement g t c =
    let input = c.args.input.now in
    let h = c.args.here.now in
    let k = (goal.at.returns-in-Until-clause-agreement g t c).After-look-right in
    let f = pair g t k in
    let l = text_at input c.in-Pair.l.index in
    let r = text_at input c.in-Pair.r.index in
    subst (λ x. AgreesUntil input.dfa.now c.args.p c.args.t.now h.at x h.goals c.in-Until.position) (sym (joined g t k))
    (until-left input.dfa.now c.args.p h.at c.args.t.now l r h.goals c.goals_between-between.result.goals c.in-Until.position (c.goals_between-between.ensures.between l r f.left_is f.right_is) c.in-Until.ensures.agreement)

pub returns-in-Until-clause-cost : goal.returns-in-Until-clause-cost
returns-in-Until-clause-cost g t c =
    let input = c.args.input.now in
    let h = c.args.here.now in
    let tuple = c.args.t.now in
    let k = (goal.at.returns-in-Until-clause-cost g t c).After-look-right in
    let l = c.in-Pair.l.index in
    let r = c.in-Pair.r.index in
    let mid = c.agreement_over.new.looks in
    subst (λ x. mid ≤ c.args.looks.now + 2 * (height_at input h.id.index * mark_count (word_over tuple h.at x)) + 2 * height_at input h.id.index) (sym (joined g t k))
    (left-lookups tuple h.at (height_at input h.id.index) (height_at input l) (height_at input r) c.args.looks.now c.look-right.new.looks mid mid (text_at input l) (text_at input r)
    (fork-height input h c.in-Pair.l c.in-Pair.r _ _ (pair g t k)) (omega (arith, c.look-left.ensures.step, c.look-right.ensures.step)) c.in-Until.ensures.cost)
