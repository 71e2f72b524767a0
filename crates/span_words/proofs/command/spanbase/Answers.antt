use Rattle.std.proofs.Common.{◌≡◌, ◌∙◌, ap, ap₂, true, codes, pos}
use Rattle.clap.specs.Words.{App, app_of, with_rule, new_app}
use Rattle.clap.specs.Simple.{on_top, app_of_fields}
use Rattle.clap.specs.declared.builder.value_parser.ValueParser.TheVariants as vp
use Rattle.span_words.proofs.command.spanbase.Goals as goal

abbrev bare : App
bare = on_top (λ s. record s { no_binary_name = true }) (new_app (codes "spanbase"))

pub returns : goal.returns
returns c =
    let workers : c.range-parser.result ≡ vp.Signed (pos 1) (pos 64) = rw (c.value_parser.ensures, c.new-2.ensures.start, c.new-2.ensures.end) at c.range-parser.ensures in
    let states : c.range-parser-2.result ≡ vp.Signed (pos 128) (pos 1024) = rw (c.value_parser-2.ensures, c.new-3.ensures.start, c.new-3.ensures.end) at c.range-parser-2.ensures in
    let demo : c.range-parser-3.result ≡ vp.Signed (pos 1) (pos 46) = rw (c.value_parser-3.ensures, c.new-4.ensures.start, c.new-4.ensures.end) at c.range-parser-3.ensures in
    let bare_is : app_of c.no_binary_name-command.result ≡ bare = ap app_of_fields c.no_binary_name-command.ensures ∙ ap (on_top (λ s. record s { no_binary_name = true })) c.new.ensures.app in
    let one = c.in_ok-command.ensures.shape c.option.ensures.local ∙ ap₂ with_rule bare_is (rw workers at c.option.ensures.rule) in
    let two = c.in_ok-command-2.ensures.shape c.option-2.ensures.local ∙ ap₂ with_rule one (rw states at c.option-2.ensures.rule) in
    c.in_ok-command-3.ensures.shape c.option-3.ensures.local ∙ ap₂ with_rule two (rw demo at c.option-3.ensures.rule)
