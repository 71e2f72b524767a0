use Rattle.marker_dfa.proofs.bundles.BundledEdges.push.Goals as goal

pub returns-in_ok-set : goal.returns-in_ok-set
returns-in_ok-set c = rw (← c.self.view_is) c.in_ok-index.ensures

pub returns-else-index-hint : goal.returns-else-index-hint
returns-else-index-hint c = rw (← c.self.view_is) c.in_ok-index.ensures
