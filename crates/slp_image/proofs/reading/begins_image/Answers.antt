use Rattle.std.proofs.Common.{◌≡◌, rules, sym, take, ◌∙◌}
use Rattle.slp_image.specs.Image.{is_magic}
use Rattle.slp_image.proofs.MagicLemmas.{no_image}
use Rattle.slp_image.proofs.reading.begins_image.Goals as goal

pub returns-clause-settled : goal.returns-clause-settled
returns-clause-settled c = λ none rest.
    let value : c.is_magic.result ≡ is_magic (take 4 c.args.prefix.now) = search rules in
    no_image c.args.prefix.now rest c.requires (sym value ∙ none)
