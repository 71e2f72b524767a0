use Rattle.std.proofs.Common.{◌*◌, ap, sym, ◌∙◌, drop, get_or, length, take}
use Rattle.state_tables.specs.StateSet.{number_of_words}
use Rattle.state_tables.proofs.CodedRows.{sets-at, sets-low, words-within}
use Rattle.state_tables.proofs.sets.Sets.words.Goals as goal

pub words_at-requires : goal.words_at-requires
words_at-requires c =
    let i = c.self.inside in
    words-within c.args.set i.count i.width _ (sets-low i.width i.count i.words.items c.args.self.now c.args.set c.self.view_is c.requires) (ap length c.deref.ensures.value ∙ c.self.invariant)

pub returns-clause-number : goal.returns-clause-number
returns-clause-number c =
    let i = c.self.inside in
    let w = c.self.inside.width in
    let k = c.args.set in
    ap number_of_words (c.words_at.ensures.words ∙ ap (λ x. take w (drop (k * w) x)) c.deref.ensures.value)
    ∙ sym (sets-at w i.count i.words.items k (sets-low w i.count i.words.items c.args.self.now k c.self.view_is c.requires))
    ∙ ap (λ s. get_or s.sets k 0) c.self.view_is
