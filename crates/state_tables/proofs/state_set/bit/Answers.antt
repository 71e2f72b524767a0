use Rattle.std.proofs.Common.{◌≡◌, ◌/◌, ◌%◌, get_or, ap, sym, ◌∙◌, arith}
use Rattle.std.specs.Int.{bit_at}
use Rattle.std.proofs.lemmas.List.{get_or_past}
use Rattle.std.proofs.lemmas.Nat.Bits.{bit_at-zero, shr_and_one}
use Rattle.state_tables.specs.StateSetLaws.{bit-words}
use Rattle.state_tables.proofs.state_set.bit.Goals as goal

pub returns-then-index-words : goal.returns-then-index-words
returns-then-index-words c =
    shr_and_one (get_or c.args.words.now (c.args.q / 64) 0) (c.args.q % 64) ∙ sym (bit-words c.args.words.now c.args.q (λ i. omega (arith, c.type_inv.words i)))

pub returns-else-index-words : goal.returns-else-index-words
returns-else-index-words c =
    let past : get_or c.args.words.now (c.args.q / 64) 0 ≡ 0 = get_or_past c.args.words.now (c.args.q / 64) 0 (omega (arith, c.if-index-words.false)) in
    sym (bit-words c.args.words.now c.args.q (λ i. omega (arith, c.type_inv.words i)) ∙ ap (λ w. bit_at w (c.args.q % 64)) past ∙ bit_at-zero (c.args.q % 64))
