use Rattle.std.proofs.Common.{◌≡◌, ◌==◌, ◌∙◌, inl, inr, ap, arith, bit_and, get_or, length, not, sym}
use Rattle.std.specs.Int.Bits.{and_zero_l, and_zero_r}
use Rattle.std.proofs.lemmas.Bool.{cases_lt, ne_eqb}
use Rattle.std.proofs.lemmas.List.{get_or_past}
use Rattle.state_tables.specs.StateSet.{number_of_words}
use Rattle.span_enum.proofs.WordSets.{meets-at, meets-nowhere, words-are}
use Rattle.span_enum.proofs.states.States.meets_words.Goals as goal

pub returns-then-set-index-ne0 : goal.returns-then-set-index-ne0
returns-then-set-index-ne0 g c =
    let both = bit_and (number_of_words c.args.set.now) c.args.self.now in
    let some : both ≡ 0 → ⊥ = λ none. c.if-set-index-ne0.true (meets-at c.args.set.now c.self.inside.words c.loop-index.index (λ k. (c.type_inv.set k).fits) c.self.invariant.below (ap (bit_and (number_of_words c.args.set.now)) c.self.view_is ∙ none)) in
    sym (ap not (ne_eqb both 0 some))

pub loop-index-preserved : goal.loop-index-preserved
loop-index-preserved g c = λ k lt. elim (cases_lt k c.loop-index.index) [
  | inl before ↦ c.loop-index.invariant k before
  | inr from ↦
      let same : k ≡ c.loop-index.index = omega (arith, lt, from) in
      let is = words-are g.row.N c.self.inside.words c.args.self.now c.self.invariant c.self.view_is in
      rw (same, is) c.if-set-index-ne0.false
]

pub returns : goal.returns
returns g c =
    let ws = c.args.set.now in
    let vs = c.self.inside.words in
    let is = words-are g.row.N vs c.args.self.now c.self.invariant c.self.view_is in
    let none = meets-nowhere ws vs (λ k. (c.type_inv.set k).fits) c.self.invariant.below (λ k. elim (cases_lt k c.loop-index.index) [
      | inl lt ↦ rw is at (c.loop-index.invariant k lt)
      | inr ge ↦ elim (cases_lt k (length ws)) [
        | inl lt ↦ rw (get_or_past vs k 0 (omega (arith, ge, lt, c.loop-index-test.false, c.min-index-end.ensures, c.self.invariant.size))) (and_zero_r (get_or ws k 0))
        | inr past ↦ rw (get_or_past ws k 0 past) (and_zero_l (get_or vs k 0))
      ]
    ]) in
    sym (ap (λ n. not (bit_and (number_of_words ws) n == 0)) (sym c.self.view_is) ∙ ap (λ n. not (n == 0)) none)
