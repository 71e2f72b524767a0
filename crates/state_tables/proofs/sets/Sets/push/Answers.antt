use Rattle.std.proofs.Common.{suc, ◌≡◌, ◌+◌, ◌^◌, ◌<◌, ap, sym, ◌∙◌, arith, length}
use Rattle.state_tables.specs.StateSet.{number_of_words}
use Rattle.state_tables.specs.Coded.{with_set}
use Rattle.state_tables.proofs.CodedRows.{sets-length, sets-push}
use Rattle.state_tables.proofs.sets.Sets.push.Goals as goal

pub overflow_add-self : goal.overflow_add-self
overflow_add-self c =
    let few : c.self.inside.count < 2 ^ 16 = omega (arith, c.requires.few, sets-length c.self.inside.width c.self.inside.count c.self.inside.words.items, ap (λ s. length s.sets) c.self.view_is) in
    omega (arith, few)

pub returns-clause-ok : goal.returns-clause-ok
returns-clause-ok c =
    let i = c.self.inside in
    let wide : length c.args.words.now ≡ c.self.inside.width = c.requires.width ∙ sym (ap (λ s. s.width) c.self.view_is) in
    let more : c.self.inside.count + 1 ≡ suc c.self.inside.count = omega (arith) in
    rw (c.in_ok-extend_from_slice.ensures.items, more)
    (ap (λ t. record { width = c.self.inside.width; sets = t }) (sets-push i.width i.count i.words.items c.args.words.now c.self.invariant wide)
    ∙ ap (λ s. with_set s (number_of_words c.args.words.now)) c.self.view_is)
