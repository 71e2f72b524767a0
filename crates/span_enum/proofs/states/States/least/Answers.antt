use Rattle.std.proofs.Common.{◌≡◌, ◌<◌, ◌+◌, ◌*◌, ◌∙◌, inl, inr, ap, arith, get_or, sym, true, w64}
use Rattle.std.specs.Int.{trailing_zeros}
use Rattle.std.proofs.lemmas.Bool.{cases_lt}
use Rattle.std.proofs.lemmas.List.{get_or_past}
use Rattle.state_tables.specs.StateSet.{member}
use Rattle.state_tables.proofs.Words.{words-none}
use Rattle.span_enum.proofs.WordSets.{least-at, words-are}
use Rattle.span_enum.proofs.states.States.least.Given.{Over}
use Rattle.span_enum.proofs.states.States.least.Goals.{Then-word-ne0}
use Rattle.span_enum.proofs.states.States.least.Goals as goal

-- the state that is found is in the set
found : (g : Over) (c : Then-word-ne0 g)
    → (trailing_zeros w64 (get_or c.self.inside.words c.loop-index.index 0) < 64) × (member c.args.self.now (64 * c.loop-index.index + trailing_zeros w64 (get_or c.self.inside.words c.loop-index.index 0)) ≡ true)
found g c =
    let k = least-at g.row.N c.self.inside.words c.loop-index.index c.self.invariant c.if-word-ne0.true in
    (k.0, ap (λ n. member n (64 * c.loop-index.index + trailing_zeros w64 (get_or c.self.inside.words c.loop-index.index 0))) (sym c.self.view_is) ∙ k.1)

pub overflow_mul-result : goal.overflow_mul-result
overflow_mul-result g c =
    let k = found g c in
    let low = c.requires _ k.1 in
    record { fits = omega (arith, low) }

pub overflow_add-result : goal.overflow_add-result
overflow_add-result g c =
    let k = found g c in
    let low = c.requires _ k.1 in
    record { fits = omega (arith, low) }

pub overflow_cast-result-then-word-ne0 : goal.overflow_cast-result-then-word-ne0
overflow_cast-result-then-word-ne0 g c =
    let k = found g c in
    let low = c.requires _ k.1 in
    record { fits = omega (arith, low) }

pub returns-then-word-ne0-clause-member : goal.returns-then-word-ne0-clause-member
returns-then-word-ne0-clause-member g c = (found g c).1

pub loop-index-preserved : goal.loop-index-preserved
loop-index-preserved g c = λ k lt. elim (cases_lt k c.loop-index.index) [
  | inl before ↦ c.loop-index.invariant k before
  | inr from ↦
      let same : k ≡ c.loop-index.index = omega (arith, lt, from) in
      let is = words-are g.row.N c.self.inside.words c.args.self.now c.self.invariant c.self.view_is in
      rw (same, is) c.if-word-ne0.false
]

pub returns-clause-member : goal.returns-clause-member
returns-clause-member g c =
    let ws = c.self.inside.words in
    let is = words-are g.row.N ws c.args.self.now c.self.invariant c.self.view_is in
    sym c.self.view_is ∙ words-none ws (λ k low. elim (cases_lt k c.loop-index.index) [
      | inl lt ↦ rw is at (c.loop-index.invariant k lt)
      | inr ge ↦ get_or_past ws k 0 (omega (arith, ge, c.loop-index-test.false, c.self.invariant.size))
    ])
