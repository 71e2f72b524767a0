use Rattle.std.proofs.Common.{◌≡◌, ◌∙◌, ap}
use Rattle.state_tables.specs.StateSet.{member, number_of_words}
use Rattle.state_tables.proofs.StateSets.{member-without_other, member-without_same, without-less}
use Rattle.span_enum.proofs.WordSets.{xor-word}
use Rattle.span_enum.proofs.states.States.remove.Goals as goal

pub invariant_of-self : goal.invariant_of-self
invariant_of-self g c = (xor-word g.row.N c.self.inside.words c.args.q c.self.invariant c.requires.few).0

pub returns-clause-gone : goal.returns-clause-gone
returns-clause-gone g c =
    let set = number_of_words c.self.inside.words in
    let is = (xor-word g.row.N c.self.inside.words c.args.q c.self.invariant c.requires.few).1 in
    ap (λ n. member n c.args.q) is ∙ member-without_same set c.args.q (ap (λ n. member n c.args.q) c.self.view_is ∙ c.requires.member)

pub returns-clause-others : goal.returns-clause-others
returns-clause-others g c = λ i ne.
    let set = number_of_words c.self.inside.words in
    let is = (xor-word g.row.N c.self.inside.words c.args.q c.self.invariant c.requires.few).1 in
    ap (λ n. member n i) is ∙ member-without_other set c.args.q i ne ∙ ap (λ n. member n i) c.self.view_is

pub returns-clause-less : goal.returns-clause-less
returns-clause-less g c =
    let set = number_of_words c.self.inside.words in
    let is = (xor-word g.row.N c.self.inside.words c.args.q c.self.invariant c.requires.few).1 in
    let old : set ≡ c.args.self.now = c.self.view_is in
    rw (← old, is) (without-less set c.args.q (ap (λ n. member n c.args.q) c.self.view_is ∙ c.requires.member))
