-- Nodes get their tables one after another.
use Rattle.std.proofs.Common.{zero, suc, refl, ap, ◌≡◌, ℕ, ◌<◌, ◌≤◌, ◌⊎◌, sym, subst, arith, inl, inr, List, [], ◌∷◌, ◌++◌, ◌∙◌, length, length-append, get_or, take, Contains, Result, Ok, Err, IfOk}
use Rattle.std.proofs.lemmas.Bool.{cases_lt}
use Rattle.std.proofs.lemmas.List.{get_or_append_left, get_or_push, take-append-le}
use Rattle.slp_model.specs.declared.NodeId.{NodeId}
use Rattle.slp_model.specs.declared.Node.{Node}
use Rattle.slp_model.specs.declared.Node.TheVariants.{Pair}
use Rattle.slp_model.specs.Tree.{text}
use Rattle.slp_model.specs.Nodes.{IsNodeAt, tree}
use Rattle.marker_dfa.specs.Deterministic.{DeterministicAutomaton, IsDeterministic, states_of}
use Rattle.pair_memo.specs.Entries.{Entry}
use Rattle.path_counts.specs.Counting.{CountRow, IsComposed, IsCountTable}
use Rattle.path_counts.proofs.Meanings.{IsCountTable-composed}
use Rattle.count_tables.specs.Ahead.{HasTable}
use Rattle.count_tables.specs.Dictionary.{AreKept, AreNodeTables}
use Rattle.count_tables.specs.Remembered.{AreTrueEntries, Extends, IsTrueEntry}

-- ---- more tables are kept
pub extends-on : (a b c : List (List CountRow)) → Extends a b → Extends b c → Extends a c
extends-on a b c h k = record { more = λ i lt. k.more i (h.more i lt); same = λ i lt. k.same i (h.more i lt) ∙ h.same i lt }

pub tables-extend : (a : DeterministicAutomaton) (nodes : List Node) (old new : List (List CountRow)) (numbers : List ℕ) → Extends old new → AreNodeTables a nodes old numbers → AreNodeTables a nodes new numbers
tables-extend a nodes old new numbers h are = record {
  within = λ id lt. h.more (get_or numbers id 0) (are.within id lt);
  tables = λ id lt. subst (IsCountTable a (text (tree nodes id))) (sym (h.same (get_or numbers id 0) (are.within id lt))) (are.tables id lt);
}

pub entries-extend : (old new : List (List CountRow)) (es : List Entry) → Extends old new → AreTrueEntries old es → AreTrueEntries new es
entries-extend old new es h are e c =
    let t = are e c in
    record {
      left = h.more e.0.0 t.left;
      right = h.more e.0.1 t.right;
      number = h.more e.1 t.number;
      composed = rw (h.same e.0.0 t.left, h.same e.0.1 t.right, h.same e.1 t.number) t.composed;
    }

pub extends-refl : (kept : List (List CountRow)) → Extends kept kept
extends-refl kept = record { more = λ i lt. lt; same = λ i lt. refl }

-- ---- a composition is noted
pub entries-note : (kept : List (List CountRow)) (es fs : List Entry) (e : Entry) → AreTrueEntries kept es → IsTrueEntry kept e → ((f : Entry) → Contains fs f → Contains es f ⊎ (f ≡ e)) → AreTrueEntries kept fs
entries-note kept es fs e are is from f c = elim (from f c) [ inl old ↦ are f old | inr new ↦ subst (IsTrueEntry kept) (sym new) is ]

-- ---- a further node
pub tables-push : (a : DeterministicAutomaton) (nodes : List Node) (kept : List (List CountRow)) (numbers : List ℕ) (n id : ℕ) → AreNodeTables a nodes kept numbers → length numbers ≡ id → n < length kept
    → IsCountTable a (text (tree nodes id)) (get_or kept n []) → AreNodeTables a nodes kept (numbers ++ n ∷ [])
tables-push a nodes kept numbers n id are long within is = record {
  within = λ k lt. elim (cases_lt k (length numbers)) [
    | inl less ↦ rw (get_or_append_left numbers (n ∷ []) 0 k less) (are.within k less)
    | inr ge ↦ let same : length numbers ≡ k = omega (arith, ge, lt, length-append numbers (n ∷ [])) in rw (get_or_push numbers n 0 k same) within
  ];
  tables = λ k lt. elim (cases_lt k (length numbers)) [
    | inl less ↦ rw (get_or_append_left numbers (n ∷ []) 0 k less) (are.tables k less)
    | inr ge ↦
        let same : length numbers ≡ k = omega (arith, ge, lt, length-append numbers (n ∷ [])) in
        rw (get_or_push numbers n 0 k same) (subst (λ j. IsCountTable a (text (tree nodes j)) (get_or kept n [])) (sym long ∙ same) is)
  ];
}

pub prefix-push : (old numbers : List ℕ) (n : ℕ) → length old ≤ length numbers → take (length old) numbers ≡ old → take (length old) (numbers ++ n ∷ []) ≡ old
prefix-push old numbers n le e = take-append-le (length old) numbers (n ∷ []) le ∙ e

take-in : (k : ℕ) (xs : List ℕ) (m : ℕ) → k ≤ m → take k (take m xs) ≡ take k xs
take-in zero xs m le = refl
take-in (suc k) [] zero le = refl
take-in (suc k) [] (suc m) le = refl
take-in (suc k) (x ∷ xs) zero le = absurd (omega arith)
take-in (suc k) (x ∷ xs) (suc m) le = ap (λ (ys : List ℕ). x ∷ ys) (take-in k xs m (omega arith))

pub prefix-on : (old numbers new : List ℕ) → length old ≤ length numbers → take (length old) numbers ≡ old → take (length numbers) new ≡ numbers → take (length old) new ≡ old
prefix-on old numbers new le first second = sym (take-in (length old) new (length numbers) le) ∙ (ap (λ xs. take (length old) xs) second ∙ first)

-- a composition is kept
pub number-composed : {E : Type 0} (made : Result ℕ E) (left right t : List CountRow) (new : List (List CountRow)) → IsComposed left right t → IfOk made (λ n. (n < length new) × (get_or new n [] ≡ t)) → IfOk made (λ n. (n < length new) × IsComposed left right (get_or new n []))
number-composed (Err e) left right t new is h = h
number-composed (Ok n) left right t new is h = (h.0, rw h.1 is)

-- the table of a pair is the composition of those of its children
pub pair-table : {E : Type 0} (made : Result ℕ E) (a : DeterministicAutomaton) (nodes : List Node) (kept new : List (List CountRow)) (numbers : List ℕ) (id : ℕ) (l r : NodeId) → IsDeterministic a → AreNodeTables a nodes kept numbers → id ≡ length numbers
    → IsNodeAt nodes id (Pair l r) → AreKept (states_of a) new → IfOk made (λ n. (n < length new) × IsComposed (get_or kept (get_or numbers l.index 0) []) (get_or kept (get_or numbers r.index 0) []) (get_or new n []))
    → IfOk made (HasTable a nodes new id)
pair-table (Err e) a nodes kept new numbers id l r auto are long node shapes h = h
pair-table (Ok n) a nodes kept new numbers id l r auto are long node shapes h =
    let left = are.tables l.index (omega (arith, node.1, long)) in
    let right = are.tables r.index (omega (arith, node.2, long)) in
    let whole = IsCountTable-composed a (text (tree nodes l.index)) (text (tree nodes r.index)) (get_or kept (get_or numbers l.index 0) []) (get_or kept (get_or numbers r.index 0) []) auto left right (get_or new n []) (shapes.shapes n h.0) h.1 in
    record { within = h.0; table = subst (λ t. IsCountTable a (text t) (get_or new n [])) (sym node.0) whole }

-- no entry is true of all tables
pub none-true : (kept : List (List CountRow)) (es : List Entry) → es ≡ [] → AreTrueEntries kept es
none-true kept es none = rw none (λ e c. absurd (no-entry e c))
  where
    no-entry : (e : Entry) → Contains [] e → ⊥
    no-entry e (k, lt, is) = omega (arith, lt)
