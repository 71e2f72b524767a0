use Rattle.std.proofs.Common.{◌≡◌, ℕ, List, ◌<◌, ◌%◌, ◌^◌, ap, get_or, length, subst, ◌∙◌, arith}
use Rattle.state_tables.specs.Coded.{GroupedRows, coded_at, list_of, row_in, table_of}
use Rattle.state_tables.specs.declared.table_rows.CodedRow.{CodedRow}
use Rattle.state_tables.specs.Digest.{digest_with, row_number, sum_digest}
use Rattle.state_tables.specs.Weights.{weighted}
use Rattle.state_tables.proofs.RowSets.{numbers-of-rows}
use Rattle.state_tables.proofs.row_set.RowSet.digest.Goals as goal
use Rattle.state_tables.proofs.row_set.RowSet.digest.Goals.{After-sum_digest, in-Some, in-None}

within : (c : After-sum_digest) (p : ℕ) → p < length c.args.partition.now → get_or c.args.partition.now p 0 < length c.self.inside.rows.items
within c p lt = omega (arith, c.requires p lt, ap (λ (g : GroupedRows). length g.rows) c.self.view_is)

summed : (c : After-sum_digest) → c.match-weights.sum
    ≡ weighted (λ k. row_number c.self.inside.sets.width (row_in c.self.inside.sets.sets (coded_at c.self.inside.rows.items k))) 0 c.args.partition.now % 2 ^ 64
summed c =
    let sets = c.self.inside.sets in
    let cs = c.args.partition.now in
    let is : List CodedRow → Type 0 = λ rows. c.match-weights.sum ≡ weighted (λ k. row_number sets.width (row_in sets.sets (coded_at rows k))) 0 cs % 2 ^ 64 in
    elim c.match-weights.branch [
      | in-Some w ↦ subst is w.deref.ensures.value (w.sum-is ∙ w.sum_by_classes-sum.ensures cs w.in-Some.ensures (λ p lt. omega (arith, within c p lt, ap length w.deref.ensures.value)))
      | in-None w ↦ subst is w.deref-in-None.ensures.value (w.sum-is ∙ w.sum_by_states-sum.ensures ∙ ap (λ ps. weighted (λ k. row_number sets.width (row_in sets.sets (coded_at w.deref-in-None.result.now k))) 0 ps % 2 ^ 64) w.classes.ensures)
    ]

pub returns : goal.returns
returns c =
    let start : ℕ = 0x1319_8a2e_0370_7344_243f_6a88_85a3_08d3 in
    let i = c.self.inside in
    let cs = c.args.partition.now in
    c.sum_digest.ensures ∙ ap (digest_with start) (summed c)
    ∙ ap sum_digest (numbers-of-rows (record { width = i.sets.width; sets = i.sets.sets; rows = i.rows.items }) cs (within c))
    ∙ ap (λ (g : GroupedRows). sum_digest (weighted (row_number g.width) 0 (table_of cs (list_of g).rows))) c.self.view_is
