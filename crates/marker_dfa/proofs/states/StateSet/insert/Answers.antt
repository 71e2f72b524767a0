use Rattle.std.proofs.Common.{◌≡◌, ◌<◌, ◌/◌, length, get_or, arith, ◌∙◌}
use Rattle.std.proofs.lemmas.List.{get_or_default}
use Rattle.marker_dfa.specs.StateWords.{members}
use Rattle.marker_dfa.proofs.StateWords.{AreWords-with, has_word, length-members, members-with}
use Rattle.marker_dfa.proofs.states.StateSet.insert.Goals as goal

is_state : (c : goal.After-self-1) → c.args.state < length (members c.self.inside.states c.self.inside.words.items)
is_state c = rw c.self.view_is c.requires

below : (c : goal.After-self-1) → c.args.state < c.self.inside.states
below c = omega (arith, is_state c, length-members c.self.inside.states c.self.inside.words.items)

word : (c : goal.After-self-1) → c.index_mut.result.now ≡ get_or c.self.inside.words.items (c.args.state / 64) 0
word c = c.index_mut.ensures.value ∙ get_or_default c.self.inside.words.items (c.args.state / 64) c.index_mut.result.now 0 (has_word c.self.inside.states c.self.inside.words.items c.args.state c.self.invariant (is_state c))

pub index_mut-requires : goal.index_mut-requires
index_mut-requires c =
    let lt : c.args.state < length (members c.self.inside.states c.self.inside.words.items) = rw c.self.view_is c.requires in
    omega (arith, has_word c.self.inside.states c.self.inside.words.items c.args.state c.self.invariant lt, c.self.inside.words.ok.0)

pub invariant_of-self : goal.invariant_of-self
invariant_of-self c = rw (word c) (AreWords-with c.self.inside.states c.self.inside.words.items c.args.state c.self.invariant (below c))

pub returns : goal.returns
returns c = rw (word c, ← c.self.view_is) (members-with c.self.inside.states c.self.inside.words.items c.args.state c.self.invariant (below c))
