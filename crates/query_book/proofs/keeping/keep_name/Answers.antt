use Rattle.std.proofs.Common.{◌≡◌, Contains, Err, ap, subst, sym, ◌∙◌}
use Rattle.query_book.proofs.KeptNames.{no-ninth}
use Rattle.query_book.proofs.keeping.keep_name.Goals as goal

pub unreachable-requires : goal.unreachable-requires
unreachable-requires c =
    let full = c.number_of.ensures.full.0 (c.in-Err-Full.is ∙ ap Err c.in-Err-Full.field-0-is) in
    let same : c.in_ok-name.name ≡ c.args.name.now = c.in_ok-name.ensures in
    let there = c.has_name.ensures.there.0 c.if-not-has_name.false in
    no-ninth c.args.vars.now c.args.names.now c.args.name.now c.has_name.ensures.vars.few there c.requires.variables full.0
    (λ h. full.1 (subst (Contains c.args.names.now) (sym same) h))
