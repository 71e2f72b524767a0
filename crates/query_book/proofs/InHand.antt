-- The answers of a query on the texts of a store.
use Rattle.std.proofs.Common.{◌<◌, ◌≤◌, List, length, Option, All}
use Rattle.span_types.specs.Query.{query_of}
use Rattle.slp_model.specs.declared.Node.{Node}
use Rattle.slp_model.specs.declared.NodeId.{NodeId}
use Rattle.slp_model.specs.Nodes.{IsLive, text_of}
use Rattle.marker_dfa.specs.Deterministic.{IsDeterministic}
use Rattle.query_book.specs.declared.entry.TabledQuery.{TabledQuery}
use Rattle.query_book.specs.InHand.{HasAllTables, HasAnswersIn}
use Rattle.query_book.proofs.Covered.{bytes-found, short-live}
use Rattle.query_book.proofs.Lent.{has-answers}

module _ (ns : List Node) (t : TabledQuery) (h : HasAllTables ns t) where
  pub short-text : (root : Option NodeId) → IsLive ns root → length (text_of ns root) ≤ 281474976710656
  short-text root live = short-live ns root h.nodes live

  pub byte-text : (root : Option NodeId) → IsLive ns root → All (λ b. b < 256) (text_of ns root)
  byte-text root live = bytes-found t.query.dfa ns t.tables root h.tables h.all live

  pub answers-in : IsDeterministic t.query.dfa → HasAnswersIn ns t.query.dfa (query_of t.query.tree)
  answers-in auto =
      let a = has-answers (query_of t.query.tree) t.query.dfa h.sound.compiled.defines auto in
      record {
        variables = a.defines.variables;
        same = λ root ts live. a.same (text_of ns root) ts (short-text root live);
        list = λ root live. a.list (text_of ns root) (byte-text root live) (short-text root live);
      }
