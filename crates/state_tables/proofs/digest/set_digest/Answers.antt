use Rattle.std.proofs.Common.{ℕ, List, ◌+◌, ◌*◌, ◌%◌, ◌^◌, ap, arith, refl, sym, ◌∙◌}
use Rattle.std.proofs.lemmas.List.{take_all}
use Rattle.state_tables.specs.Digest.{digest_with, set_digest, word_number}
use Rattle.state_tables.specs.Weights.{weighted}
use Rattle.state_tables.proofs.Weights.{next-weight, weight-none, weighted-more}
use Rattle.state_tables.proofs.digest.set_digest.Goals as goal

pub loop-word-init : goal.loop-word-init
loop-word-init c = record {
  next = ap (λ n. n % 2 ^ 64) (sym weight-none);
  added = refl;
}

pub loop-word-preserved : goal.loop-word-preserved
loop-word-preserved c =
    let at = c.loop-word in
    record {
      next = next-weight at.word-index at.weight at.invariant.next;
      added = ap (λ n. (at.sum + (at.weight * n) % 2 ^ 64) % 2 ^ 64) c.word_number.ensures ∙ weighted-more word_number (2 ^ 64) c.args.words.now at.word-index at.sum at.weight c.loop-word-test.true at.invariant.next at.invariant.added;
    }

pub returns : goal.returns
unfolding set_digest
returns c =
    let at = c.loop-word in
    c.sum_digest.ensures ∙ ap (digest_with 0x1319_8a2e_0370_7344_243f_6a88_85a3_08d3) (at.invariant.added
    ∙ ap (λ (ws : List ℕ). weighted word_number 0 ws % 2 ^ 64) (take_all at.word-index c.args.words.now (omega (arith, c.loop-word-test.false))))
