-- What holds of a query by name if all nodes of the store have tables in it.
use Rattle.std.proofs.Common.{◌≡◌, ℕ, ◌<◌, ◌≤◌, Bool, true, false, cond, List, [], ◌∷◌, length, Option, Some, None, All, refl, sym, ap, subst, ◌∙◌, arith}
use Rattle.std.specs.Prelude.{unwrap_or}
use Rattle.std.specs.Option.{option_map}
use Rattle.std.specs.List.{AllByRecursion}
use Rattle.slp_model.specs.declared.Node.{Node}
use Rattle.slp_model.specs.declared.NodeId.{NodeId}
use Rattle.slp_model.specs.Nodes.{tree, IsLive, IsSound, text_of}
use Rattle.slp_model.proofs.TreeLemmas.{length-text}
use Rattle.state_tables.specs.Dictionary.{AreTables, Dictionary, count_of}
use Rattle.marker_dfa.specs.Deterministic.{DeterministicAutomaton}
use Rattle.query_book.specs.declared.entry.Entry.{Entry}
use Rattle.query_book.specs.declared.entry.TabledQuery.{TabledQuery}
use Rattle.query_book.specs.Named.{Named, is_same, value_of}
use Rattle.query_book.specs.Book.{Book, tabled_in, tabled_of}
use Rattle.query_book.specs.Serving.{IsServed, Covers, CoversQuery, HasTables, covered_of, all_at}
use Rattle.query_book.proofs.Views.{value-by_name}

some_is : {X : Type 0} {x y : X} → Some x ≡ Some y → x ≡ y
some_is {X} {x} p = ap (λ o. unwrap_or o x) p

-- what holds of all queries holds of the one with the name
pub all-found : (P : TabledQuery → Type 0) (es : List Entry) (name : List ℕ) (t : TabledQuery) → AllByRecursion (λ e. P e.tabled) es → tabled_in es name ≡ Some t → P t
all-found P [] name t h q = let bad : ⊥ = cc in absurd bad
all-found P (x ∷ xs) name t h q = by (is_same name x.name) q (all-found P xs name t h.1)
  where
    by : (b : Bool) → cond b (Some x.tabled) (tabled_in xs name) ≡ Some t → (tabled_in xs name ≡ Some t → P t) → P t
    by true r rest = subst P (some_is r) h.0
    by false r rest = rest r

value-all_at : (n : ℕ) (ps : Named ℕ) (name : List ℕ) (k : ℕ) → value_of (all_at n ps) name ≡ Some k → n ≡ k
value-all_at n [] name k q = let bad : ⊥ = cc in absurd bad
value-all_at n (p ∷ ps) name k q = by (is_same name p.0) q (value-all_at n ps name k)
  where
    by : (b : Bool) → cond b (Some n) (value_of (all_at n ps) name) ≡ Some k → (value_of (all_at n ps) name ≡ Some k → n ≡ k) → n ≡ k
    by true r rest = some_is r
    by false r rest = rest r

-- the number of nodes with tables in the query of a name
number-found : (book : Book) (name : List ℕ) (t : TabledQuery) → tabled_of book name ≡ Some t → value_of (covered_of book) name ≡ Some (count_of t.tables)
number-found book name t q = value-by_name (λ x. count_of x.tables) book.entries name ∙ ap (λ o. option_map (λ (x : TabledQuery). count_of x.tables) o) q

-- if each query has all tables, then so has the one with the name
pub covers-query : (ns : List Node) (book : Book) (name : List ℕ) → Covers ns book → CoversQuery ns book name
covers-query ns book name c = record {
  serves = c.serves;
  tables = λ t q. sym (value-all_at (length ns) (covered_of book) name (count_of t.tables) (sym (ap (λ ps. value_of ps name) c.all) ∙ number-found book name t q));
}

-- the query of a name still has its tables if the numbers are unchanged
pub tables-same : (n : ℕ) (old new : Book) (name : List ℕ) → covered_of new ≡ covered_of old → HasTables n old name → HasTables n new name
tables-same n old new name e has t q = by (tabled_of old name) has (sym (value-by_name (λ x. count_of x.tables) old.entries name) ∙ sym (ap (λ ps. value_of ps name) e) ∙ number-found new name t q)
  where
    by : (o : Option TabledQuery) → ((s : TabledQuery) → o ≡ Some s → count_of s.tables ≡ n) → option_map (λ (x : TabledQuery). count_of x.tables) o ≡ Some (count_of t.tables) → count_of t.tables ≡ n
    by None h r = let bad : ⊥ = cc in absurd bad
    by (Some s) h r = sym (some_is r) ∙ h s refl

pub served-found : (ns : List Node) (book : Book) (name : List ℕ) (t : TabledQuery) → CoversQuery ns book name → tabled_of book name ≡ Some t → IsServed ns t
served-found ns book name t c q = all-found (IsServed ns) book.entries name t c.serves q

-- a text of the store has at most 2^48 bytes
pub short-live : (ns : List Node) (root : Option NodeId) → IsSound ns → IsLive ns root → length (text_of ns root) ≤ 281474976710656
short-live ns None sound live = omega arith
short-live ns (Some id) sound live = omega (arith, length-text (tree ns id.index), sound.short id.index live)

-- the texts of nodes with tables have bytes below 256
pub bytes-found : (a : DeterministicAutomaton) (ns : List Node) (d : Dictionary) (root : Option NodeId) → AreTables a ns d → count_of d ≡ length ns → IsLive ns root → All (λ b. b < 256) (text_of ns root)
bytes-found a ns d None tables count live = λ k e lt. absurd (omega (arith, lt))
bytes-found a ns d (Some id) tables count live = (tables id.index (omega (arith, live, count))).bytes
