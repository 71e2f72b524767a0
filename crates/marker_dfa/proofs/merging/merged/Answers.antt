use Rattle.std.proofs.Common.{◌≡◌, ℕ, List, arith, ap, sym, subst, ◌∙◌, length}
use Rattle.marker_dfa.specs.Deterministic.{IsDeterministic, IsWide}
use Rattle.marker_dfa.specs.Merging.{AcceptsAlike, AreRepresentatives}
use Rattle.marker_dfa.proofs.Lists.{get_within}
use Rattle.marker_dfa.proofs.MergedAutomaton.{accepts_alike, byte_small, is_deterministic, is_wide, same_parts}
use Rattle.marker_dfa.proofs.merging.merged.Goals as goal

pub numbering_of-requires-clause-some : goal.numbering_of-requires-clause-some
numbering_of-requires-clause-some c = omega (arith, ap length c.deref.ensures.value, c.in_ok-into.ensures.size, c.variables-variables.ensures.automaton.has_start)

pub numbering_of-requires-clause-few : goal.numbering_of-requires-clause-few
numbering_of-requires-clause-few c = omega (arith, ap length c.deref.ensures.value, c.in_ok-into.ensures.size, c.variables-variables.ensures.automaton.few_states)

pub rows_under-requires : goal.rows_under-requires
rows_under-requires c k q at =
    let into = c.deref.result.now in
    let own = (c.in_ok-numbering.ensures.back k q at).0 in
    omega (arith, get_within into q q own, ap length c.deref.ensures.value, c.in_ok-into.ensures.size)

pub from_rows-requires-clause-deterministic : goal.from_rows-requires-clause-deterministic
from_rows-requires-clause-deterministic c =
    let d = c.args.dfa.now in
    let into_are = subst (λ (l : List ℕ). AreRepresentatives d l) (sym c.deref.ensures.value) c.in_ok-into.ensures in
    let classes : c.in_ok-classes.classes.items ≡ d.classes = c.in_ok-classes.ensures.items_if_clones_equal (λ x y e. e) ∙ c.classes.ensures.value in
    let parts = same_parts d _ _ c.in_ok-rows.rows.items c.variables-variables.ensures.value classes in
    subst IsDeterministic parts (is_deterministic d c.deref.result.now _ _ c.in_ok-rows.rows.items c.variables-variables.ensures.automaton c.classes.ensures.wide into_are c.in_ok-numbering.ensures c.in_ok-rows.ensures)

pub from_rows-requires-clause-wide : goal.from_rows-requires-clause-wide
from_rows-requires-clause-wide c =
    let d = c.args.dfa.now in
    let into_are = subst (λ (l : List ℕ). AreRepresentatives d l) (sym c.deref.ensures.value) c.in_ok-into.ensures in
    let classes : c.in_ok-classes.classes.items ≡ d.classes = c.in_ok-classes.ensures.items_if_clones_equal (λ x y e. e) ∙ c.classes.ensures.value in
    let parts = same_parts d _ _ c.in_ok-rows.rows.items c.variables-variables.ensures.value classes in
    subst IsWide parts (is_wide d c.deref.result.now _ _ c.in_ok-rows.rows.items c.variables-variables.ensures.automaton c.classes.ensures.wide into_are c.in_ok-numbering.ensures c.in_ok-rows.ensures)

pub returns-clause-accepts : goal.returns-clause-accepts
returns-clause-accepts c =
    let d = c.args.dfa.now in
    let into_are = subst (λ (l : List ℕ). AreRepresentatives d l) (sym c.deref.ensures.value) c.in_ok-into.ensures in
    let classes : c.in_ok-classes.classes.items ≡ d.classes = c.in_ok-classes.ensures.items_if_clones_equal (λ x y e. e) ∙ c.classes.ensures.value in
    let parts = same_parts d _ _ c.in_ok-rows.rows.items c.variables-variables.ensures.value classes in
    subst (AcceptsAlike d) (parts ∙ sym c.from_rows.ensures) (accepts_alike d c.deref.result.now _ _ c.in_ok-rows.rows.items c.variables-variables.ensures.automaton c.classes.ensures.wide into_are c.in_ok-numbering.ensures c.in_ok-rows.ensures)

pub returns-clause-bytes : goal.returns-clause-bytes
returns-clause-bytes c q m b r step =
    let classes : c.in_ok-classes.classes.items ≡ c.args.dfa.now.classes = c.in_ok-classes.ensures.items_if_clones_equal (λ x y e. e) ∙ c.classes.ensures.value in
    byte_small c.from_rows.result q m b r (ap (λ e. length e.classes) c.from_rows.ensures ∙ ap length classes ∙ c.classes.ensures.wide.bytes) step
