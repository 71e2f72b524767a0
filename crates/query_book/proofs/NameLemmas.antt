-- Queries by name, before and after a registry changes.
use Rattle.std.proofs.Common.{[], ap, Bool, cond, false, IsSome, List, None, Option, option_map, refl, Some, sym, true, ℕ, ◌∙◌, ◌∷◌, ◌≡◌}
use Rattle.std.proofs.lemmas.Option.{same_Some}
use Rattle.query_book.specs.Answers.{IsNamed}
use Rattle.query_book.specs.Book.{Book, queries_in, queries_of, tabled_in}
use Rattle.query_book.specs.Grown.{GrowsTables}
use Rattle.query_book.specs.Named.{is_same, Named, value_of}
use Rattle.query_book.specs.Serving.{CoversQuery, HasCounts, Serves}
use Rattle.query_book.specs.declared.entry.Entry.{Entry}
use Rattle.query_book.specs.declared.entry.TabledQuery.{TabledQuery}
use Rattle.slp_model.specs.declared.Node.{Node}
use Rattle.span_types.specs.Query.{Query, query_of as tree_query}
use Rattle.span_types.specs.Rel.{names_of}

-- the value of an existing name
pub some_value : {A : Type 0} (o : Option A) → IsSome o → (x : A) × (o ≡ Some x)
some_value None h = absurd (let bad : ⊥ = cc h in bad)
some_value (Some x) h = (x, refl)

-- the query whose variables were returned
pub query_of : (o : Option Query) (names : List (List ℕ)) → option_map names_of o ≡ Some names → (q : Query) × (o ≡ Some q) × (names_of q ≡ names)
query_of None names told = let bad : ⊥ = cc told in absurd bad
query_of (Some q) names told = (q, refl, same_Some (names_of q) names told)

pub names_known : {P : Query → Type 0} (queries : Named Query) (name : List ℕ) (names : List (List ℕ)) (named : IsNamed queries name P) → option_map names_of (value_of queries name) ≡ Some names → names ≡ names_of named.query
names_known queries name names named told = sym (same_Some (names_of named.query) names (ap (option_map names_of) (sym named.there) ∙ told))

-- the query whose variables were read
pub named_by : (queries : Named Query) (bytes query : List ℕ) (names : List (List ℕ)) → bytes ≡ query → option_map names_of (value_of queries bytes) ≡ Some names → (q : Query) × (value_of queries query ≡ Some q) × (names_of q ≡ names)
named_by queries bytes query names same is = let q = query_of (value_of queries bytes) names is in (q.0, ap (λ (n : List ℕ). value_of queries n) (sym same) ∙ q.1, q.2)

-- no entry has the name
no_entry : (es : List Entry) (name : List ℕ) → value_of (queries_in es) name ≡ None → (t : TabledQuery) → tabled_in es name ≡ Some t → ⊥
no_entry [] name none t is = let bad : ⊥ = cc is in bad
no_entry (e ∷ es) name none t is = at (is_same name e.name) (no_entry es name) none is
  where
    at : (b : Bool) → (value_of (queries_in es) name ≡ None → (u : TabledQuery) → tabled_in es name ≡ Some u → ⊥) → cond b (Some (tree_query e.tabled.query.tree)) (value_of (queries_in es) name) ≡ None → cond b (Some e.tabled) (tabled_in es name) ≡ Some t → ⊥
    at true rest lacks there = let bad : ⊥ = cc lacks in bad
    at false rest lacks there = rest lacks t there

-- no query has the name
pub none_counted : (book : Book) (name : List ℕ) (n : ℕ) → value_of (queries_of book) name ≡ None → HasCounts n book name
none_counted book name n none t is = absurd (no_entry book.entries name none t is)

pub none_tabled : (ns : List Node) (book : Book) (name : List ℕ) → Serves ns book → value_of (queries_of book) name ≡ None → CoversQuery ns book name
none_tabled ns book name serves none = record { serves = serves; tables = λ t is. absurd (no_entry book.entries name none t is) }

-- a query in the registry after counting tables were computed, and before
pub found_before : (old new : Book) (bytes query : List ℕ) (found : Option Query) → queries_of new ≡ queries_of old → bytes ≡ query → value_of (queries_of new) bytes ≡ found → value_of (queries_of old) query ≡ found
found_before old new bytes query found same name is = ap (λ (qs : Named Query). value_of qs query) (sym same) ∙ (ap (value_of (queries_of new)) (sym name) ∙ is)

-- the same after tables were computed, and before
pub registered_before : (asked : Bool) (ns : List Node) (old new : Book) (p q : ℕ) (found : Option Query) (bytes query : List ℕ) → GrowsTables asked ns old new p q → bytes ≡ query
    → value_of (queries_of new) bytes ≡ found → value_of (queries_of old) query ≡ found
registered_before asked ns old new p q found bytes query grown same is = found_before old new bytes query found grown.queries same is
