-- The tables of the kept nodes alone are a dictionary of these.
use Rattle.std.proofs.Common.{◌≡◌, ℕ, ◌<◌, ◌^◌, Bool, List, [], map, sym, subst, arith}
use Rattle.std.specs.Prelude.{All}
use Rattle.slp_model.proofs.RankLemmas.{rank-most}
use Rattle.slp_model.specs.declared.Node.{Node}
use Rattle.slp_model.specs.Tree.{text}
use Rattle.slp_model.specs.Nodes.{tree}
use Rattle.slp_model.specs.Kept.{Keeps}
use Rattle.slp_model.specs.Thin.{rank}
use Rattle.marker_dfa.specs.Deterministic.{DeterministicAutomaton}
use Rattle.distinct_items.specs.Renumbering.{kept_items}
use Rattle.path_counts.specs.Counting.{IsCountTable, IsCountTableOf}
use Rattle.count_tables.specs.Dictionary.{CountDictionary, IsCountDictionary, AreCountTables, count_of, distinct_of, kept_of, table_of, used_by}
use Rattle.distinct_items.proofs.Dropping.{AreDistinctItems-left, AreLeft, AreNumbersOf-left, all-left, item-stays, items-left, kept-numbers, numbers-left, owners-left}

-- e has of d's tables those of the kept nodes
pub record AreDropped (d : CountDictionary) (keep : List Bool) (e : CountDictionary) : Type 0 where
  pub kept : e.kept ≡ kept_items d.kept (used_by d keep)
  pub numbers : e.numbers ≡ map (rank (used_by d keep)) (kept_items d.numbers keep)
  pub states : e.states ≡ d.states

-- the numbers of the kept nodes are those of kept tables
pub kept-within : (d : CountDictionary) (keep : List Bool) → IsCountDictionary d → All (λ n. n < distinct_of d) (kept_items d.numbers keep)
kept-within d keep is = kept-numbers d.kept d.numbers keep is.numbers

module _ (d : CountDictionary) (keep : List Bool) (e : CountDictionary) (is : IsCountDictionary d) (are : AreDropped d keep e) where
  left : AreLeft d.kept d.numbers keep e.kept e.numbers
  left = record { items_are = are.kept; numbers_are = are.numbers }

  pub count-is : count_of e ≡ rank keep (count_of d)
  count-is = numbers-left [] d.kept d.numbers keep e.kept e.numbers is.numbers left

  pub table-stays : (i : ℕ) → i < count_of d → Keeps keep i → table_of e (rank keep i) ≡ table_of d i
  table-stays = item-stays [] d.kept d.numbers keep e.kept e.numbers is.numbers left

  pub tables-thin : (a : DeterministicAutomaton) (ns ms : List Node) → ((i : ℕ) → Keeps keep i → tree ms (rank keep i) ≡ tree ns i) → AreCountTables a ns d → AreCountTables a ms e
  tables-thin a ns ms trees tables = owners-left [] d.kept d.numbers keep e.kept e.numbers is.numbers left (λ t. IsCountTable a (text t)) (tree ns) (tree ms) trees tables

  pub IsCountDictionary-dropped : IsCountDictionary e
  IsCountDictionary-dropped = record {
    few = subst (λ n. n < 2 ^ 16) (sym are.states) is.few;
    kept = record {
      narrow = omega (arith, is.kept.narrow, items-left [] d.kept d.numbers keep e.kept e.numbers is.numbers left, rank-most (used_by d keep) (distinct_of d));
      shapes = λ n lt. subst (λ s. IsCountTableOf s (kept_of e n)) (sym are.states) (all-left [] d.kept d.numbers keep e.kept e.numbers is.numbers left (IsCountTableOf d.states) is.kept.shapes n lt);
      distinct = AreDistinctItems-left [] d.kept d.numbers keep e.kept e.numbers is.numbers left is.kept.distinct;
    };
    numbers = AreNumbersOf-left [] d.kept d.numbers keep e.kept e.numbers is.numbers left;
  }
