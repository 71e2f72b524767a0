use Rattle.std.proofs.Common.{◌≡◌, ap, sym, ◌∙◌}
use Rattle.std.specs.Bool.{Decides}
use Rattle.std.proofs.lemmas.Bool.Decides.{Decides-eqb}
use Rattle.std.proofs.lemmas.Slice.Eq.{slice_eq-Decides}
use Rattle.span_types.specs.ByteWords.{members}
use Rattle.span_types.specs.ByteWordLaws.{words-same}
use Rattle.span_types.proofs.bytes.ByteSet.is_same.Goals as goal

pub returns : goal.returns
returns c = (
  λ t. sym c.self.view_is ∙ ap members (same.0 t) ∙ c.other.view_is,
  λ e. same.1 (words-same c.self.inside.words c.other.inside.words c.self.invariant c.other.invariant (c.self.view_is ∙ e ∙ sym c.other.view_is)),
)
  where
    same : Decides c.eq.result (c.self.inside.words ≡ c.other.inside.words)
    same = slice_eq-Decides Decides-eqb c.self.inside.words c.other.inside.words c.eq.result c.eq.ensures
