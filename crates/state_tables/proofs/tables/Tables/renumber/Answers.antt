use Rattle.std.proofs.Common.{◌≡◌, ℕ, ◌<◌, length, map, refl, ap, sym, subst, ◌∙◌, List}
use Rattle.std.specs.Prelude.{All}
use Rattle.slp_model.specs.declared.Node.{Node}
use Rattle.slp_model.specs.Kept.{Keeps}
use Rattle.slp_model.specs.Thin.{IsCompactionOf, rank}
use Rattle.marker_dfa.specs.Deterministic.{DeterministicAutomaton}
use Rattle.distinct_items.specs.Renumbering.{kept_items, used_of}
use Rattle.state_tables.specs.Dictionary.{AreTables, Dictionary, IsDictionary, count_of, table_of}
use Rattle.state_tables.specs.Kept.{view_of}
use Rattle.state_tables.proofs.Dropping.{AreDropped, IsDictionary-dropped, count-is, kept-within, table-stays, tables-thin}
use Rattle.state_tables.proofs.tables.Tables.renumber.Goals as goal
use Rattle.state_tables.proofs.tables.Tables.renumber.Goals.{After-len}

pub keep_used-requires-clause-within : goal.keep_used-requires-clause-within
keep_used-requires-clause-within c =
    subst (All (λ n. n < length c.self.inside.kept)) (sym c.renumber.ensures.numbers) (kept-within (view_of c.self.inside) c.args.moves.now c.self.invariant)

-- ---- after the unused tables are gone
abbrev after : After-len → Dictionary
after c = view_of (record c.self.inside { kept = c.keep_used.new.self; numbers = c.keep_used.new.numbers })

dropped : (c : After-len) → AreDropped (view_of c.self.inside) c.args.moves.now (after c)
dropped c = record {
  kept = c.keep_used.ensures.items ∙ ap (λ xs. kept_items c.self.inside.kept (used_of xs (length c.self.inside.kept))) c.renumber.ensures.numbers;
  numbers = c.keep_used.ensures.numbers ∙ ap (λ xs. map (rank (used_of xs (length c.self.inside.kept))) xs) c.renumber.ensures.numbers;
  states = refl;
}

dictionary : (c : After-len) → IsDictionary (after c)
dictionary c = IsDictionary-dropped (view_of c.self.inside) c.args.moves.now (after c) c.self.invariant (dropped c)

count : (c : After-len) → count_of (after c) ≡ rank c.args.moves.now (count_of c.args.self.now)
count c = count-is (view_of c.self.inside) c.args.moves.now (after c) c.self.invariant (dropped c) ∙ ap (λ d. rank c.args.moves.now (count_of d)) c.self.view_is

each : (c : After-len) (i : ℕ) → i < count_of c.args.self.now → Keeps c.args.moves.now i → table_of (after c) (rank c.args.moves.now i) ≡ table_of c.args.self.now i
each c i lt keeps =
    let low : i < count_of (view_of c.self.inside) = subst (λ d. i < count_of d) (sym c.self.view_is) lt in
    table-stays (view_of c.self.inside) c.args.moves.now (after c) c.self.invariant (dropped c) i low keeps ∙ ap (λ d. table_of d i) c.self.view_is

tables : (c : After-len) (a : DeterministicAutomaton) (ns ms : List Node) → IsCompactionOf ns c.args.moves.now ms → AreTables a ns c.args.self.now → AreTables a ms (after c)
tables c a ns ms thin are =
    tables-thin (view_of c.self.inside) c.args.moves.now (after c) c.self.invariant (dropped c) a ns ms thin.trees (subst (AreTables a ns) (sym c.self.view_is) are)

-- ---- whether or not there were some
pub invariant_of-self : goal.invariant_of-self
invariant_of-self c = dictionary (goal.at.invariant_of-self c).After-len

pub invariant_of-self-else-len-before : goal.invariant_of-self-else-len-before
invariant_of-self-else-len-before c = dictionary (goal.at.invariant_of-self-else-len-before c).After-len

pub returns-then-len-before-clause-count : goal.returns-then-len-before-clause-count
returns-then-len-before-clause-count c = count (goal.at.returns-then-len-before-clause-count c).After-len

pub returns-else-len-before-clause-count : goal.returns-else-len-before-clause-count
returns-else-len-before-clause-count c = count (goal.at.returns-else-len-before-clause-count c).After-len

pub returns-then-len-before-clause-each : goal.returns-then-len-before-clause-each
returns-then-len-before-clause-each c = each (goal.at.returns-then-len-before-clause-each c).After-len

pub returns-else-len-before-clause-each : goal.returns-else-len-before-clause-each
returns-else-len-before-clause-each c = each (goal.at.returns-else-len-before-clause-each c).After-len

pub returns-then-len-before-clause-tables : goal.returns-then-len-before-clause-tables
returns-then-len-before-clause-tables c = tables (goal.at.returns-then-len-before-clause-tables c).After-len

pub returns-else-len-before-clause-tables : goal.returns-else-len-before-clause-tables
returns-else-len-before-clause-tables c = tables (goal.at.returns-else-len-before-clause-tables c).After-len
