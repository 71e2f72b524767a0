use Rattle.node_store.proofs.Store.expect_bytes.Goals as goal

pub invariant_of-self : goal.invariant_of-self
invariant_of-self c = (c.self.invariant.0, c.expect_bytes.ensures c.self.inside.nodes c.self.invariant.1)
