use Rattle.std.proofs.Common.{ℕ, List, ◌≡◌, ◌<◌, arith, get_or, length, subst, sym, ◌∙◌}
use Rattle.std.proofs.lemmas.Bool.{eqb-true}
use Rattle.state_tables.proofs.Indices.{range-kept}
use Rattle.state_tables.proofs.places.Places.are_kept.Goals as goal

pub returns : goal.returns
returns c = λ is.
    let i = c.self.inside in
    let none : length c.self.inside.others.items ≡ 0 = omega (arith, eqb-true c.self.inside.others.len 0 (sym c.is_empty.ensures ∙ is), c.self.inside.others.ok.0) in
    subst (λ (l : List ℕ). (k : ℕ) → k < length l → get_or l k 0 ≡ k) c.self.view_is (λ k lt. range-kept i.kept i.others.items k none lt)
