use Rattle.std.proofs.Common.{◌≡◌, ◌<◌, ap, sym, subst, ◌∙◌, arith, length}
use Rattle.std.specs.Vec.{with_items}
use Rattle.std.proofs.lemmas.List.{with_items_is}
use Rattle.marker_dfa.specs.Deterministic.{states_of}
use Rattle.state_tables.specs.StateSet.{member, number_of_words, word_count}
use Rattle.state_tables.specs.Table.{byte_row}
use Rattle.state_tables.specs.Coded.{list_of, row_of, table_of}
use Rattle.state_tables.specs.Classed.{AreClassed, AreRowsAt, AreSetsWithin}
use Rattle.state_tables.proofs.Composing.{sets-longer, sets-none, sets-taken-within}
use Rattle.state_tables.proofs.Meanings.{IsTable-byte}
use Rattle.state_tables.proofs.Placing.{IsWithin, byte-classed, byte-is-within, placed-byte_table, placed-more, placed-none, width-taken}
use Rattle.state_tables.proofs.one_byte.of_byte.Goals as goal
use Rattle.state_tables.proofs.one_byte.of_byte.Goals.{After-loop-p}

pub loop-p-init : goal.loop-p-init
loop-p-init c = record {
  words = omega (arith, c.in_ok-words.ensures.len, c.word_count-width.ensures, c.states-states.ensures.value, c.in_ok-words.words.ok.0);
  width = ap (λ s. s.width) c.in_ok-set.ensures ∙ c.word_count-width.ensures ∙ ap word_count c.states-states.ensures.value;
  few = omega (arith, ap (λ s. length s.sets) c.in_ok-set.ensures);
  within = rw c.in_ok-set.ensures (sets-none (states_of c.args.dfa.now));
  placed = rw (c.in_ok-classes.ensures.items, c.in_ok-set.ensures) (placed-none (byte_row c.args.dfa.now c.args.byte) (states_of c.args.dfa.now) c.word_count-width.result);
}

pub loop-p-preserved : goal.loop-p-preserved
loop-p-preserved c =
    let at = c.loop-p in
    let n = states_of c.args.dfa.now in
    let row = row_of c.byte_row-code.result c.deref.result.now in
    let words : (with_items c.loop-p.words c.byte_row-code.new.words).items ≡ c.byte_row-code.new.words =
    with_items_is at.words c.byte_row-code.new.words (omega (arith, c.byte_row-code.ensures.width, at.words.ok.0)) in
    let same : row_of c.byte_row-code.result c.deref.result.now ≡ byte_row c.args.dfa.now c.args.byte c.loop-p.p =
    ap (row_of c.byte_row-code.result) (c.deref.ensures.value ∙ words) ∙ c.byte_row-code.ensures.value in
    let is = byte-is-within c.args.dfa.now c.args.byte at.p c.states-states.ensures.automaton in
    let set : number_of_words c.deref.result.now ≡ (byte_row c.args.dfa.now c.args.byte c.loop-p.p).marked = ap (λ r. r.marked) same in
    record {
      words = ap length words ∙ c.byte_row-code.ensures.width ∙ ap length c.deref_mut.ensures.value ∙ at.invariant.words;
      width = width-taken (list_of at.set) (list_of c.index_with.new.self) row c.in_ok-index_with.ensures.taken ∙ at.invariant.width;
      few = omega (arith, sets-longer at.set.sets c.index_with.new.self.sets _ c.in_ok-index_with.ensures.sets, at.invariant.few);
      within = sets-taken-within n at.set.sets c.index_with.new.self.sets _ c.in_ok-index_with.ensures.sets at.invariant.within (λ q h. is.marked q (ap (λ s. member s q) (sym set) ∙ h));
      placed = rw c.in_ok-push.ensures.items
          (placed-more (byte_row c.args.dfa.now c.args.byte) at.p n at.classes.items (list_of at.set) (list_of c.index_with.new.self) row c.in_ok-index_with.field-0 at.invariant.placed c.in_ok-index_with.ensures.taken
          c.in_ok-index_with.ensures.index same (subst (IsWithin n) (sym same) is));
    }

placed : (c : After-loop-p) → AreRowsAt (byte_row c.args.dfa.now c.args.byte) (states_of c.args.dfa.now) (states_of c.args.dfa.now) c.loop-p.classes.items (list_of c.loop-p.set)
placed c =
    let at : c.loop-p.p ≡ states_of c.args.dfa.now = omega (arith, c.states-states.ensures.value, c.loop-p-test.false, c.loop-p.auto.p-end) in
    subst (λ m. AreRowsAt (byte_row c.args.dfa.now c.args.byte) m (states_of c.args.dfa.now) c.loop-p.classes.items (list_of c.loop-p.set)) at c.loop-p.invariant.placed

classed : (c : After-loop-p) → AreClassed c.loop-p.classes.items c.loop-p.set
classed c =
    let at : c.loop-p.p ≡ states_of c.args.dfa.now = omega (arith, c.states-states.ensures.value, c.loop-p-test.false, c.loop-p.auto.p-end) in
    let are = placed c in
    record {
      states = byte-classed c.args.dfa.now c.args.byte c.loop-p.classes.items (list_of c.loop-p.set) c.states-states.ensures.automaton are c.loop-p.invariant.width;
      few_sets = omega (arith, at, are.long, c.loop-p.invariant.few);
      sets_within = subst (λ m. AreSetsWithin m c.loop-p.set.sets) (sym are.long) c.loop-p.invariant.within;
    }

pub from_partition-requires : goal.from_partition-requires
from_partition-requires c =
    subst (λ cs. AreClassed cs c.loop-p.set) (sym c.in_ok-partition.ensures) (classed (goal.at.from_partition-requires c).After-loop-p)

pub returns : goal.returns
returns c =
    let byte : c.args.byte < 256 = omega arith in
    let rows = (list_of c.loop-p.set).rows in
    rw (c.from_partition.ensures ∙ ap (λ cs. table_of cs rows) c.in_ok-partition.ensures
    ∙ placed-byte_table c.args.dfa.now c.args.byte c.loop-p.classes.items (list_of c.loop-p.set) (placed (goal.at.returns c).After-loop-p))
    (IsTable-byte c.args.dfa.now c.args.byte byte c.states-states.ensures.automaton)
