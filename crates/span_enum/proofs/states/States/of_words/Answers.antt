use Rattle.std.proofs.Common.{◌≡◌, ◌<◌, ◌∙◌, inl, inr, ℕ, arith, get_or, length, length-set, sym}
use Rattle.std.proofs.lemmas.Bool.{cases_eq, cases_lt}
use Rattle.std.proofs.lemmas.List.{get_or-set_same, get_or-set_other, get_or_past, length-replicate}
use Rattle.span_enum.proofs.WordSets.{get-zeros, number-copied}
use Rattle.span_enum.proofs.states.States.of_words.Goals.{After-loop-index}
use Rattle.span_enum.proofs.states.States.of_words.Given.{Over}
use Rattle.span_enum.proofs.states.States.of_words.Goals as goal

pub loop-index-init : goal.loop-index-init
loop-index-init g c = record { size = length-replicate g.row.N 0; copied = λ k lt. absurd (omega arith); left = λ k h. get-zeros g.row.N k }

pub loop-index-preserved : goal.loop-index-preserved
loop-index-preserved g c =
    let ws = c.loop-index.words in
    let i = c.loop-index.index in
    let now = c.loop-index.invariant in
    let w = get_or c.args.set.now i 0 in
    let low : i < length ws = omega (arith, now.size) in
    record {
      size = length-set ws i w ∙ now.size;
      copied = λ k lt. elim (cases_eq k i) [
        | inl e ↦ rw (e) (get_or-set_same ws i w 0 low)
        | inr ne ↦ get_or-set_other ws i k w 0 ne ∙ now.copied k (omega arith)
      ];
      left = λ k le. get_or-set_other ws i k w 0 (λ e. omega (arith, le, e)) ∙ now.left k (omega arith);
    }

-- the words are those of the set
same : (g : Over) (c : After-loop-index g) → (k : ℕ) → get_or c.loop-index.words k 0 ≡ get_or c.args.set.now k 0
same g c k = elim (cases_lt k c.loop-index.index) [
  | inl lt ↦ c.loop-index.invariant.copied k lt
  | inr ge ↦ c.loop-index.invariant.left k ge ∙ sym (get_or_past c.args.set.now k 0 (omega (arith, ge, c.loop-index-test.false, c.min-index-end.ensures, c.requires)))
]

pub invariant_of-result : goal.invariant_of-result
invariant_of-result g c = record { size = c.loop-index.invariant.size; below = λ k. rw (same g (goal.at.invariant_of-result g c).After-loop-index k) ((c.type_inv.set k).fits) }

pub returns : goal.returns
returns g c =
    let all = same g (goal.at.returns g c).After-loop-index in
    number-copied c.loop-index.words c.args.set.now (λ k. rw (all k) ((c.type_inv.set k).fits)) (λ k. (c.type_inv.set k).fits) all
