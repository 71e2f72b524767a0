use Rattle.marker_dfa.specs.Bundled.{automaton_in}
use Rattle.marker_dfa.proofs.Glue.{stands_for, accepts_same, is_deterministic, is_wide, not_too_many}
use Rattle.marker_dfa.proofs.determinise_bundled.Goals as goal

pub from_rows-requires-clause-deterministic : goal.from_rows-requires-clause-deterministic
from_rows-requires-clause-deterministic c =
    let rows = rw (c.deref-2.ensures.value) at c.in_ok-rows.ensures.rows in
    let fit = rw (c.deref.ensures.value) at c.in_ok-classes.ensures.fit in
    (is_deterministic c.args.most (automaton_in c.args.nfa.now) c.in_ok-classes.classes c.in_ok-rows.rows.items c.requires.bundled.automaton c.in_ok-classes.ensures.classes (λ e k. fit e.letters (c.requires.bundled.letters e k)) rows c.requires.many)

pub from_rows-requires-clause-wide : goal.from_rows-requires-clause-wide
from_rows-requires-clause-wide c =
    let rows = rw (c.deref-2.ensures.value) at c.in_ok-rows.ensures.rows in
    let fit = rw (c.deref.ensures.value) at c.in_ok-classes.ensures.fit in
    (is_wide c.args.most (automaton_in c.args.nfa.now) c.in_ok-classes.classes c.in_ok-rows.rows.items c.requires.bundled.automaton c.in_ok-classes.ensures.classes (λ e k. fit e.letters (c.requires.bundled.letters e k)) rows)

pub returns-clause-states : goal.returns-clause-states
returns-clause-states c =
    let rows = rw (c.deref-2.ensures.value) at c.in_ok-rows.ensures.rows in
    let fit = rw (c.deref.ensures.value) at c.in_ok-classes.ensures.fit in
    rw (c.from_rows.ensures) (stands_for c.args.most (automaton_in c.args.nfa.now) c.in_ok-classes.classes c.in_ok-rows.rows.items c.requires.bundled.automaton c.in_ok-classes.ensures.classes (λ e k. fit e.letters (c.requires.bundled.letters e k)) rows)

pub returns-clause-accepts : goal.returns-clause-accepts
returns-clause-accepts c =
    let rows = rw (c.deref-2.ensures.value) at c.in_ok-rows.ensures.rows in
    let fit = rw (c.deref.ensures.value) at c.in_ok-classes.ensures.fit in
    rw (c.from_rows.ensures) (accepts_same c.args.most (automaton_in c.args.nfa.now) c.in_ok-classes.classes c.in_ok-rows.rows.items c.requires.bundled.automaton c.in_ok-classes.ensures.classes (λ e k. fit e.letters (c.requires.bundled.letters e k)) rows)

pub returns-clause-few : goal.returns-clause-few
returns-clause-few c =
    let rows = rw (c.deref-2.ensures.value) at c.in_ok-rows.ensures.rows in
    let fit = rw (c.deref.ensures.value) at c.in_ok-classes.ensures.fit in
    (not_too_many c.args.most (automaton_in c.args.nfa.now) c.in_ok-classes.classes c.in_ok-rows.rows.items c.requires.bundled.automaton c.in_ok-classes.ensures.classes (λ e k. fit e.letters (c.requires.bundled.letters e k)) rows)
