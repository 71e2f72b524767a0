use Rattle.std.proofs.Common.{rules, ◌≡◌, List, ℕ, Some, ap, ◌∙◌, length, cond, arith}
use Rattle.std.specs.BTreeMap.{UpdatesBy}
use Rattle.name_map.specs.Named.{is_same}
use Rattle.name_map.specs.Kept.{indexed}
use Rattle.name_map.proofs.Index.{key_order, name_order, indexed-updated}
use Rattle.name_map.proofs.slots.push.Goals as goal

pub returns-clause-index : goal.returns-clause-index
returns-clause-index g c = λ (other : List ℕ).
    let e : c.in_ok-key.key.items ≡ c.args.name = search (rules, c.in_ok-key.ensures) in
    let u : UpdatesBy key_order (name_order c.in_ok-key.key.items) c.args.slots.now.index c.insert.new.self (Some c.len-slot.result) = search (rules, c.insert.ensures.updates) in
    let len : c.len-slot.result ≡ length c.args.slots.now.items.items = omega (arith, c.len-slot.ensures) in
    indexed-updated c.in_ok-key.key.items c.args.slots.now.index c.insert.new.self (Some c.len-slot.result) u other
    ∙ (ap (λ n. cond (is_same n other) (Some c.len-slot.result) (indexed c.args.slots.now.index.entries other)) e ∙ ap (λ k. cond (is_same c.args.name other) (Some k) (indexed c.args.slots.now.index.entries other)) len)
