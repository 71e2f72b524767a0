-- Facts about the entries and the nodes, when the registry changes or nodes are added.
use Rattle.std.proofs.Common.{◌≡◌, ℕ, Bool, true, false, cond, List, [], ◌∷◌, ◌++◌, Option, Some, None, IfSome, sym, subst, arith, length-append}
use Rattle.slp_model.specs.declared.Node.{Node}
use Rattle.slp_model.specs.Tree.{text}
use Rattle.slp_model.proofs.NodesLemmas.{tree-append}
use Rattle.state_tables.specs.Dictionary.{count_of, table_of}
use Rattle.state_tables.specs.Meaning.{IsTable}
use Rattle.marker_dfa.specs.Deterministic.{DeterministicAutomaton}
use Rattle.path_counts.specs.Counting.{IsCountTable}
use Rattle.count_tables.specs.Dictionary.{CountDictionary}
use Rattle.count_tables.specs.Dictionary as counting
use Rattle.query_book.specs.Counting.{AreFirstCounts}
use Rattle.query_book.specs.declared.entry.Entry.{Entry}
use Rattle.query_book.specs.declared.entry.TabledQuery.{TabledQuery}
use Rattle.query_book.specs.Named.{is_same}
use Rattle.query_book.specs.Book.{Book, with_entry, without_entry}
use Rattle.query_book.specs.Serving.{AreServed, IsServed, Serves}

-- without nodes there are no tables
pub served-none : (ns : List Node) (t : TabledQuery) → count_of t.tables ≡ 0 → t.counts ≡ None → IsServed ns t
served-none ns t z none = record {
  covered = omega (arith, z);
  tables = λ id lt. absurd (omega (arith, z, lt));
  counts = subst (λ o. IfSome o (AreFirstCounts t.query.dfa ns)) (sym none) tt;
}

pub serves-with_entry : (ns : List Node) (es : List Entry) (x : Entry) → AreServed ns es → IsServed ns x.tabled → AreServed ns (with_entry es x)
serves-with_entry ns [] x h s = (s, tt)
serves-with_entry ns (e ∷ es) x h s = by (is_same x.name e.name) (serves-with_entry ns es x h.1 s)
  where
    by : (b : Bool) → AreServed ns (with_entry es x) → AreServed ns (cond b (x ∷ es) (e ∷ with_entry es x))
    by true rest = (s, h.1)
    by false rest = (h.0, rest)

pub serves-without_entry : (ns : List Node) (es : List Entry) (name : List ℕ) → AreServed ns es → AreServed ns (without_entry es name)
serves-without_entry ns [] name h = tt
serves-without_entry ns (e ∷ es) name h = by (is_same name e.name) (serves-without_entry ns es name h.1)
  where
    by : (b : Bool) → AreServed ns (without_entry es name) → AreServed ns (cond b es (e ∷ without_entry es name))
    by true rest = h.1
    by false rest = (h.0, rest)

counts-more : (a : DeterministicAutomaton) (ns ms : List Node) (o : Option CountDictionary) → IfSome o (AreFirstCounts a ns) → IfSome o (AreFirstCounts a (ns ++ ms))
counts-more a ns ms None s = tt
counts-more a ns ms (Some d) s = record {
  covered = omega (arith, s.covered, length-append ns ms);
  tables = λ id lt. subst (λ x. IsCountTable a (text x) (counting.table_of d id)) (sym (tree-append ns ms id (omega (arith, lt, s.covered)))) (s.tables id lt);
}

served-more : (ns ms : List Node) (t : TabledQuery) → IsServed ns t → IsServed (ns ++ ms) t
served-more ns ms t s = record {
  covered = omega (arith, s.covered, length-append ns ms);
  tables = λ id lt. subst (λ x. IsTable t.query.dfa (text x) (table_of t.tables id)) (sym (tree-append ns ms id (omega (arith, lt, s.covered)))) (s.tables id lt);
  counts = counts-more t.query.dfa ns ms t.counts s.counts;
}

all-more : (ns ms : List Node) (es : List Entry) → AreServed ns es → AreServed (ns ++ ms) es
all-more ns ms [] h = tt
all-more ns ms (e ∷ es) h = (served-more ns ms e.tabled h.0, all-more ns ms es h.1)

pub serves-more : (ns ms : List Node) (book : Book) → Serves ns book → Serves (ns ++ ms) book
serves-more ns ms book h = all-more ns ms book.entries h
