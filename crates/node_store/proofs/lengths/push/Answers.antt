use Rattle.std.proofs.Common.{rules, ◌≡◌, ◌+◌, ◌^◌, ◌++◌, ◌∷◌, [], length}
use Rattle.node_store.proofs.LengthLemmas.{lengths-long}
use Rattle.node_store.proofs.lengths.push.Goals as goal

pub returns-else-len-from-clause-lengths : goal.returns-else-len-from-clause-lengths
returns-else-len-from-clause-lengths c =
    let entries : c.push_reserved-else-len-from.new.self.items ≡ c.args.entries.now.items ++ (2 ^ 31 + length c.args.long.now.items) ∷ [] = search rules in
    let long : c.push_reserved-else-len-from-2.new.self.items ≡ c.args.long.now.items ++ c.args.len ∷ [] = search rules in
    rw (entries, long) (lengths-long c.args.entries.now.items c.args.long.now.items c.args.len c.requires.entries)
