use Rattle.std.proofs.Common.{◌≡◌, take, ap, subst, ◌∙◌, arith}
use Rattle.std.proofs.lemmas.List.{length-take-le}
use Rattle.share_loader.proofs.ByteLemmas.{take-take, low-bytes}
use Rattle.share_loader.proofs.words.number_of.Goals as goal

pub returns-then-text-lt-MAX_WORD_BYTES : goal.returns-then-text-lt-MAX_WORD_BYTES
returns-then-text-lt-MAX_WORD_BYTES c =
    ap (take c.args.len) c.number_of_eight.ensures
    ∙ subst (λ n. take n c.padded.result ≡ take c.args.len c.args.text.now) (length-take-le c.args.len c.args.text.now c.requires.within) c.padded.ensures.prefix

pub returns-then-len-eq-MAX_WORD_BYTES : goal.returns-then-len-eq-MAX_WORD_BYTES
returns-then-len-eq-MAX_WORD_BYTES c =
    ap (take c.args.len) c.number_of_eight-number.ensures ∙ take-take c.args.len 8 c.args.text.now c.requires.short

pub returns : goal.returns
returns c =
    low-bytes c.args.len c.number_of_eight-number.result (omega (arith, c.requires.short, c.if-len-eq-MAX_WORD_BYTES.false))
    ∙ (ap (take c.args.len) c.number_of_eight-number.ensures ∙ take-take c.args.len 8 c.args.text.now c.requires.short)
