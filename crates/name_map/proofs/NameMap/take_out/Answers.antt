use Rattle.std.proofs.Common.{◌≡◌, sym, ap, subst, ◌∙◌, List, ℕ, false, IfNone}
use Rattle.name_map.specs.Named.{is_same, taken_out, value_of}
use Rattle.name_map.specs.Kept.{indexed, live}
use Rattle.name_map.proofs.NamedLaws.{taken_out-none, value_of-taken_out, value_of-taken_out-other}
use Rattle.name_map.proofs.SlotLaws.{names-distinct}
use Rattle.name_map.proofs.NameMap.take_out.Goals as goal

pub returns-clause-gone : goal.returns-clause-gone
returns-clause-gone g c =
    let s = c.self.inside.slots in
    let n = c.args.name.now in
    ap (λ ps. value_of ps n) c.take_out.ensures.rest ∙ value_of-taken_out (live s.items.items) n (names-distinct (indexed s.index.entries) s.items.items s.empty c.self.invariant)

pub returns-clause-others : goal.returns-clause-others
returns-clause-others g c =
    let ps = live c.self.inside.slots.items.items in
    let n = c.args.name.now in
    λ (other : List ℕ) (o : is_same other n ≡ false). ap (λ qs. value_of qs other) c.take_out.ensures.rest ∙ (value_of-taken_out-other ps n other o ∙ ap (λ qs. value_of qs other) c.self.view_is)

pub returns-clause-same : goal.returns-clause-same
returns-clause-same g c =
    let ps = live c.self.inside.slots.items.items in
    let n = c.args.name.now in
    subst (λ qs. IfNone c.take_out.result (qs ≡ c.args.self.now)) (sym c.take_out.ensures.rest) (subst (λ qs. IfNone c.take_out.result (taken_out ps n ≡ qs)) c.self.view_is (taken_out-none ps n c.take_out.result c.take_out.ensures.value))
