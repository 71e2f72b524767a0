use Rattle.std.proofs.Common.{◌≡◌, ◌+◌, ◌/◌, ◌%◌, ◌^◌, length, get_or, arith, ap, sym, subst, ◌∙◌, w64, ℕ}
use Rattle.std.proofs.lemmas.List.{get_or_default}
use Rattle.std.specs.Int.{trailing_zeros}
use Rattle.marker_dfa.specs.StateWords.{IsFirstFrom}
use Rattle.marker_dfa.proofs.StateWords.{first-in_rest, length-members, none-left, none-up_to, word_there}
use Rattle.marker_dfa.proofs.states.StateSet.member_from.Goals as goal
use Rattle.marker_dfa.proofs.states.StateSet.member_from.Goals.{After-index}

-- this turn's word
word : (c : After-index) → c.index.result.now ≡ get_or c.self.inside.words.items (c.loop-next.next / 64) 0
word c = c.index.ensures ∙ get_or_default c.self.inside.words.items (c.loop-next.next / 64) c.index.result.now 0 (word_there c.self.inside.states c.loop-next.next (length c.self.inside.words.items) c.self.invariant.size c.loop-next-test.true)

found : (c : After-index) → (c.index.result.now / 2 ^ (c.loop-next.next % 64) ≡ 0 → ⊥) → IsFirstFrom c.args.self.now c.args.state (c.loop-next.next + trailing_zeros w64 (c.index.result.now / 2 ^ (c.loop-next.next % 64)))
found c some = subst (λ (x : ℕ). (x / 2 ^ (c.loop-next.next % 64) ≡ 0 → ⊥) → IsFirstFrom c.args.self.now c.args.state (c.loop-next.next + trailing_zeros w64 (x / 2 ^ (c.loop-next.next % 64)))) (sym (word c))
    (λ s. first-in_rest c.self.inside.states c.self.inside.words.items c.args.self.now c.args.state c.loop-next.next c.self.invariant c.self.view_is s c.loop-next.invariant.from c.loop-next.invariant.none) some

pub overflow_cast-result-then-rest-ne0 : goal.overflow_cast-result-then-rest-ne0
overflow_cast-result-then-rest-ne0 c =
    let is = found (goal.at.overflow_cast-result-then-rest-ne0 c).After-index c.if-rest-ne0.true in
    let size : length c.args.self.now ≡ c.self.inside.states = ap length (sym c.self.view_is) ∙ length-members c.self.inside.states c.self.inside.words.items in
    omega (arith, is.within, size)

pub returns-then-rest-ne0 : goal.returns-then-rest-ne0
returns-then-rest-ne0 c = found (goal.at.returns-then-rest-ne0 c).After-index c.if-rest-ne0.true

pub loop-next-preserved : goal.loop-next-preserved
loop-next-preserved c =
    let none = subst (λ (x : ℕ). x / 2 ^ (c.loop-next.next % 64) ≡ 0) (word (goal.at.loop-next-preserved c).After-index) c.if-rest-ne0.false in
    record {
      from = omega (arith, c.loop-next.invariant.from);
      none = λ p le lt. none-up_to c.self.inside.states c.self.inside.words.items c.args.self.now c.args.state c.loop-next.next p c.self.view_is none c.loop-next.invariant.none le lt;
    }

pub returns : goal.returns
returns c p = none-left c.self.inside.states c.self.inside.words.items c.args.self.now c.args.state c.loop-next.next p c.self.view_is c.loop-next-test.false c.loop-next.invariant.none
