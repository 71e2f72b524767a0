use Rattle.std.proofs.Common.{◌≡◌, ap, ◌∙◌, List, ℕ, false}
use Rattle.name_map.specs.Named.{is_same, put, value_of}
use Rattle.name_map.proofs.NamedLaws.{value_of-put, value_of-put-other}
use Rattle.name_map.proofs.SlotLaws.{on-ok}
use Rattle.name_map.proofs.NameMap.set.Goals as goal

pub returns-clause-given : goal.returns-clause-given
returns-clause-given g c = on-ok c.set.result c.set.ensures.ok (λ same. ap (λ ps. value_of ps c.args.name) (same ∙ ap (λ ps. put ps c.args.name c.args.value) c.self.view_is) ∙ value_of-put c.args.self.now c.args.name c.args.value)

pub returns-clause-others : goal.returns-clause-others
returns-clause-others g c = on-ok c.set.result c.set.ensures.ok (λ same (other : List ℕ) (o : is_same other c.args.name ≡ false). ap (λ ps. value_of ps other) (same ∙ ap (λ ps. put ps c.args.name c.args.value) c.self.view_is) ∙ value_of-put-other c.args.self.now c.args.name other c.args.value o)
