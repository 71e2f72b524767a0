-- The number of the answers on the text of a root.
use Rattle.std.proofs.Common.{◌≡◌, ℕ, ◌+◌, ◌<◌, ◌≤◌, List, [], length, refl, ap, sym, ◌∙◌, arith, Some, None}
use Rattle.std.proofs.lemmas.List.Elements.{All-nil}
use Rattle.slp_model.specs.declared.Node.{Node}
use Rattle.slp_model.specs.declared.NodeId.{NodeId}
use Rattle.slp_model.specs.Tree.{text}
use Rattle.slp_model.specs.Nodes.{tree, IsSound}
use Rattle.slp_model.proofs.TreeLemmas.{length-text}
use Rattle.marker_dfa.specs.Deterministic.{DeterministicAutomaton, IsDeterministic, ends_of}
use Rattle.path_counts.specs.Paths.{most, stopped}
use Rattle.path_counts.specs.Counting.{counts_at, unmarked_at}
use Rattle.path_counts.proofs.Caps.{stop-sum_left}
use Rattle.path_counts.proofs.Ways.{value_at}
use Rattle.count_tables.specs.Dictionary.{CountDictionary, table_of}
use Rattle.count_tables.specs.Number.{IsCounted, IsNumber, endings, weighted}
use Rattle.count_tables.proofs.Numbers.{number-is}
use Rattle.count_tables.proofs.Weights.{all-ways}

module _ (a : DeterministicAutomaton) (auto : IsDeterministic a) where
  -- the empty text
  pub none-number : (n : ℕ) → n ≤ most → n ≡ length (ends_of a 0) → IsNumber a [] n
  none-number n low e =
      let whole : n ≡ stopped n = omega arith in
      number-is a auto [] (omega arith) n (All-nil (λ b. b < 256)) (whole ∙ ap stopped e)

  module _ (nodes : List Node) (sound : IsSound nodes) (d : CountDictionary) (id : NodeId) (is : IsCounted a nodes d (Some id)) where
    short : length (text (tree nodes id.index)) ≤ 281474976710656
    short = omega (arith, length-text (tree nodes id.index), sound.short id.index (omega (arith, is.live, is.covered)))

    pub root-number : (n : ℕ) → n ≡ stopped (weighted (endings a) (counts_at (table_of d id.index) 0) + value_at (endings a) (unmarked_at (table_of d id.index) 0)) → IsNumber a (text (tree nodes id.index)) n
    root-number n e =
        let table = is.tables id.index is.live in
        number-is a auto (text (tree nodes id.index)) short n table.bytes (e ∙ all-ways a auto (text (tree nodes id.index)) (table_of d id.index) table (endings a) (endings a) (λ q lt. refl) 0 auto.has_start)

    -- by the number of those with some mark
    pub root-some : (marked n ends q : ℕ) → marked ≡ stopped (weighted (endings a) (counts_at (table_of d id.index) 0)) → unmarked_at (table_of d id.index) 0 ≡ Some q → ends ≡ endings a q → n ≡ stopped (marked + ends) → IsNumber a (text (tree nodes id.index)) n
    root-some marked n ends q m u w e =
        root-number n (e ∙ ap (λ k. stopped (k + ends)) m ∙ stop-sum_left most (weighted (endings a) (counts_at (table_of d id.index) 0)) ends ∙ ap (λ k. stopped (weighted (endings a) (counts_at (table_of d id.index) 0) + k)) w ∙ ap (λ o. stopped (weighted (endings a) (counts_at (table_of d id.index) 0) + value_at (endings a) o)) (sym u))

    pub root-none : (marked : ℕ) → marked ≡ stopped (weighted (endings a) (counts_at (table_of d id.index) 0)) → unmarked_at (table_of d id.index) 0 ≡ None → IsNumber a (text (tree nodes id.index)) marked
    root-none marked m u =
        root-number marked (m ∙ ap stopped (zero-more (weighted (endings a) (counts_at (table_of d id.index) 0))) ∙ ap (λ o. stopped (weighted (endings a) (counts_at (table_of d id.index) 0) + value_at (endings a) o)) (sym u))
      where
        zero-more : (k : ℕ) → k ≡ k + 0
        zero-more k = omega arith
