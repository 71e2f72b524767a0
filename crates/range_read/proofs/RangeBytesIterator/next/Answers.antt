use Rattle.std.proofs.Common.{◌≡◌, suc, ◌-◌, ◌∷◌, length, take, vec_capacity, sym, ap, ◌∙◌, arith}
use Rattle.range_read.specs.Waiting.{trail_text}
use Rattle.range_read.proofs.TrailLemmas.{trail_text-push, IsTrail-taken}
use Rattle.range_read.proofs.RangeBytesIterator.next.Goals as goal

pub first_byte-requires-clause-live : goal.first_byte-requires-clause-live
first_byte-requires-clause-live c =
    (IsTrail-taken c.self.inside.store.now (vec_capacity c.self.inside.trail) (vec_capacity c.pop.new.self) c.self.inside.trail.items c.pop.new.self.items c.in_ok-id.id
    c.in_ok-id.ensures.items c.in_ok-id.ensures.capacity c.self.invariant.0).1

pub first_byte-requires-clause-trail : goal.first_byte-requires-clause-trail
first_byte-requires-clause-trail c =
    (IsTrail-taken c.self.inside.store.now (vec_capacity c.self.inside.trail) (vec_capacity c.pop.new.self) c.self.inside.trail.items c.pop.new.self.items c.in_ok-id.id
    c.in_ok-id.ensures.items c.in_ok-id.ensures.capacity c.self.invariant.0).0

pub first_byte-requires-clause-room : goal.first_byte-requires-clause-room
first_byte-requires-clause-room c =
    (IsTrail-taken c.self.inside.store.now (vec_capacity c.self.inside.trail) (vec_capacity c.pop.new.self) c.self.inside.trail.items c.pop.new.self.items c.in_ok-id.id
    c.in_ok-id.ensures.items c.in_ok-id.ensures.capacity c.self.invariant.0).2

pub invariant_of-self-2 : goal.invariant_of-self-2
invariant_of-self-2 c =
    let nodes = c.self.inside.store.now in
    let rest = trail_text nodes c.first_byte.new.trail.items in
    let walk : trail_text nodes c.self.inside.trail.items ≡ c.first_byte.result ∷ rest =
    ap (λ ids. trail_text nodes ids) c.in_ok-id.ensures.items ∙ trail_text-push nodes c.pop.new.self.items c.in_ok-id.id ∙ c.first_byte.ensures.text in
    (c.first_byte.ensures.trail, omega (arith, c.self.invariant.1, ap length walk))

pub returns-clause-steps : goal.returns-clause-steps
returns-clause-steps c =
    let nodes = c.self.inside.store.now in
    let rest = trail_text nodes c.first_byte.new.trail.items in
    let walk : trail_text nodes c.self.inside.trail.items ≡ c.first_byte.result ∷ rest =
    ap (λ ids. trail_text nodes ids) c.in_ok-id.ensures.items ∙ trail_text-push nodes c.pop.new.self.items c.in_ok-id.id ∙ c.first_byte.ensures.text in
    let more : c.self.inside.left ≡ suc (c.self.inside.left - 1) = omega (arith, c.if-self-eq0.false) in
    sym c.self.view_is ∙ ap (λ l. take c.self.inside.left l) walk ∙ ap (λ n. take n (c.first_byte.result ∷ rest)) more
