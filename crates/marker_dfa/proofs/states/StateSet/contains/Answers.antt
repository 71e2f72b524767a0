use Rattle.std.proofs.Common.{◌≡◌, ◌<◌, ◌/◌, length, get_or, arith, refl, ◌∙◌}
use Rattle.std.proofs.lemmas.List.{get_or_default}
use Rattle.std.proofs.lemmas.Nat.Bits.{shr_and_one}
use Rattle.marker_dfa.specs.StateWords.{members}
use Rattle.marker_dfa.proofs.StateWords.{at-members, has_word, length-members}
use Rattle.marker_dfa.proofs.states.StateSet.contains.Goals as goal

pub index-requires : goal.index-requires
index-requires c =
    let lt : c.args.state < length (members c.self.inside.states c.self.inside.words.items) = rw c.self.view_is c.requires in
    omega (arith, has_word c.self.inside.states c.self.inside.words.items c.args.state c.self.invariant lt, c.self.inside.words.ok.0)

pub returns : goal.returns
returns c =
    let lt : c.args.state < length (members c.self.inside.states c.self.inside.words.items) = rw c.self.view_is c.requires in
    let below : c.args.state < c.self.inside.states = omega (arith, lt, length-members c.self.inside.states c.self.inside.words.items) in
    let word : c.index.result.now ≡ get_or c.self.inside.words.items (c.args.state / 64) 0 =
    c.index.ensures ∙ get_or_default c.self.inside.words.items (c.args.state / 64) c.index.result.now 0 (has_word c.self.inside.states c.self.inside.words.items c.args.state c.self.invariant lt) in
    rw (← c.self.view_is, at-members c.self.inside.states c.self.inside.words.items c.args.state below, shr_and_one _ _, word) refl
