use Rattle.std.proofs.Common.{◌≡◌, ◌∙◌, ◌++◌, ◌∷◌, [], ap, arith, length, sym}
use Rattle.std.proofs.lemmas.Bool.{eqb-true}
use Rattle.state_tables.proofs.Indices.{range-next}
use Rattle.state_tables.proofs.places.Places.push.Goals as goal

pub returns-then-index-lt65535 : goal.returns-then-index-lt65535
returns-then-index-lt65535 c =
    let i = c.self.inside in
    let none : length c.self.inside.others.items ≡ 0 = omega (arith, eqb-true c.self.inside.others.len 0 (sym c.is_empty.ensures ∙ c.if-is_empty.true), c.self.inside.others.ok.0) in
    range-next i.kept c.args.index i.others.items none c.if-index-self.true ∙ ap (λ l. l ++ c.args.index ∷ []) c.self.view_is
