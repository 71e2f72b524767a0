use Rattle.std.proofs.Common.{ℕ, List, ◌-◌, ◌/◌, ◌%◌, ap, sym, ◌∙◌, get_or}
use Rattle.std.specs.Int.{bit_at}
use Rattle.std.proofs.lemmas.Nat.Bits.{shr_and_one}
use Rattle.state_tables.proofs.SetBranches.{set-branch-digest, set-branch-words}
use Rattle.state_tables.proofs.shared_set.SharedSetDigested.branch.Goals as goal

pub returns-then-depth-lt64-clause-value : goal.returns-then-depth-lt64-clause-value
returns-then-depth-lt64-clause-value c =
    shr_and_one c.digest.result (127 - c.args.depth)
    ∙ ap (λ d. bit_at d (127 - c.args.depth)) c.digest.ensures
    ∙ sym (set-branch-digest c.args.self.now c.args.depth c.if-depth-lt64.true)

pub returns-else-depth-lt64-clause-value : goal.returns-else-depth-lt64-clause-value
returns-else-depth-lt64-clause-value c =
    let index = c.args.depth - 64 in
    c.word_bit.ensures
    ∙ ap (λ (ws : List ℕ). bit_at (get_or ws (index / 64) 0) (index % 64)) c.words.ensures
    ∙ sym (set-branch-words c.args.self.now c.args.depth c.if-depth-lt64.false)
