-- The automaton of an operation on compiled queries.
use Rattle.std.proofs.Common.{◌≡◌, inl, inr, ℕ, suc, ◌+◌, ◌<◌, ◌≤◌, List, sym, ap, subst, ◌∙◌, arith}
use Rattle.span_types.specs.Query.{Query, Union, Join, Project, query_of}
use Rattle.span_types.specs.VarList.{AreVars}
use Rattle.span_types.specs.Rel.{names_of}
use Rattle.marker_dfa.specs.Reached.{CountIsAbove}
use Rattle.marker_dfa.specs.Deterministic.{DeterministicAutomaton, IsAutomatonOf, states_of}
use Rattle.span_algebra.specs.Renaming.{both_names}
use Rattle.span_algebra.specs.Answers.{GivesUnion, GivesJoin, GivesProjection}
use Rattle.span_algebra.specs.TreeAutomaton.{UnionStep, UnionEnd, union_size, JoinStep, JoinEnd, join_size, ProjectStep, ProjectEnd}
use Rattle.span_algebra.proofs.TreeAutomata.{counts-by-any}
use Rattle.query_book.specs.declared.compiled.Compiled.{Compiled}
use Rattle.query_book.specs.Combining.{IsAccepted, parts_of}
use Rattle.query_book.specs.Compiling.{IsCompiled, IsQueryAutomaton}
use Rattle.query_book.proofs.Answering.{union-defines, join-defines, projection-defines}
use Rattle.query_book.proofs.ByteSets.{reads-by}

-- the parts, the names and the automaton of an operation over the trees of compiled queries, or over copies of these
module _ (l r : Compiled) (is_l : IsCompiled l) (is_r : IsCompiled r) (names : List (List ℕ)) (names_is : names ≡ both_names l.vars r.vars) (vars : AreVars names) where
  abbrev p : Query
  p = query_of l.tree

  abbrev q : Query
  q = query_of r.tree

  abbrev both : List (List ℕ)
  both = both_names (names_of p) (names_of q)

  names_are : names ≡ both
  names_are = names_is ∙ (λ i. both_names (is_l.names i) (is_r.names i))

  both_vars : AreVars both
  both_vars = subst AreVars names_are vars

  parts_are : 1 + l.parts + r.parts ≡ suc (parts_of p + parts_of q)
  parts_are = omega (arith, is_l.parts, is_r.parts)

  -- what holds of the kept names holds of the queries' names
  by_names : (P : List (List ℕ) → List (List ℕ) → List (List ℕ) → Type 0) → P l.vars r.vars names → P (names_of p) (names_of q) both
  by_names P h = subst (P (names_of p) (names_of q)) names_are (subst (λ (v : List (List ℕ)). P (names_of p) v names) is_r.names (subst (λ (v : List (List ℕ)). P v r.vars names) is_l.names h))

  module _ (x y : Query) (x_is : x ≡ p) (y_is : y ≡ q) where
    union_tree : Union x y ≡ Union p q
    union_tree = λ i. Union (x_is i) (y_is i)

    pub union-parts : 1 + l.parts + r.parts ≡ parts_of (Union x y)
    union-parts = parts_are ∙ sym (ap parts_of union_tree)

    pub union-names : names ≡ names_of (Union x y)
    union-names = names_are ∙ sym (ap names_of union_tree)

    union_step : (o m b k : ℕ) → UnionStep l.full (names_of p) r.full (names_of q) o m b k → b < 256
    union_step o m b k (inl s) = s.byte
    union_step o m b k (inr s) = s.byte

    pub union-automaton : (d : DeterministicAutomaton) → IsAutomatonOf (union_size l.full r.full) (UnionStep l.full l.vars r.full r.vars) (UnionEnd l.full l.vars r.full r.vars) d → GivesUnion l.full l.vars r.full r.vars names d → IsQueryAutomaton (Union x y) d
    union-automaton d made gives =
        let m : IsAutomatonOf (union_size l.full r.full) (UnionStep l.full (names_of p) r.full (names_of q)) (UnionEnd l.full (names_of p) r.full (names_of q)) d = by_names (λ va vb v. IsAutomatonOf (union_size l.full r.full) (UnionStep l.full va r.full vb) (UnionEnd l.full va r.full vb) d) made in
        let g : GivesUnion l.full (names_of p) r.full (names_of q) both d = by_names (λ va vb v. GivesUnion l.full va r.full vb v d) gives in
        let reads = reads-by (union_size l.full r.full) (UnionStep l.full (names_of p) r.full (names_of q)) (UnionEnd l.full (names_of p) r.full (names_of q)) d union_step m in
        let is : IsQueryAutomaton (Union p q) d = record {
          tree = record { left = l.full; right = r.full; left_is = is_l.full.tree; right_is = is_r.full.tree; holds = record { variables = g.variables; automaton = m } };
          defines = union-defines p q l.full r.full d is_l.full.defines is_r.full.defines is_l.full.bytes is_r.full.bytes reads both_vars g;
          bytes = reads;
        } in
        subst (λ t. IsQueryAutomaton t d) (sym union_tree) is

    pub union-accepted : 1 + l.parts + r.parts ≤ 128 → (most : ℕ) → (CountIsAbove most (union_size l.full r.full) (UnionStep l.full l.vars r.full r.vars) → ⊥) → IsAccepted most (Union x y)
    union-accepted few most h =
        let none = by_names (λ va vb v. CountIsAbove most (union_size l.full r.full) (UnionStep l.full va r.full vb) → ⊥) h in
        subst (IsAccepted most) (sym union_tree) (record {
          few_parts = omega (arith, few, parts_are);
          few_names = both_vars.few;
          few = λ k. none ((counts-by-any.union most p q l.full r.full is_l.full.tree is_r.full.tree).0 k);
        })

  module _ (x y : Query) (x_is : x ≡ p) (y_is : y ≡ q) where
    join_tree : Join x y ≡ Join p q
    join_tree = λ i. Join (x_is i) (y_is i)

    pub join-parts : 1 + l.parts + r.parts ≡ parts_of (Join x y)
    join-parts = parts_are ∙ sym (ap parts_of join_tree)

    pub join-names : names ≡ names_of (Join x y)
    join-names = names_are ∙ sym (ap names_of join_tree)

    pub join-automaton : states_of r.full ≤ 1024 → (d : DeterministicAutomaton) → IsAutomatonOf (join_size l.full) (JoinStep l.full l.vars r.full r.vars) (JoinEnd l.full l.vars r.full r.vars) d → GivesJoin l.full l.vars r.full r.vars names d → IsQueryAutomaton (Join x y) d
    join-automaton small d made gives =
        let m : IsAutomatonOf (join_size l.full) (JoinStep l.full (names_of p) r.full (names_of q)) (JoinEnd l.full (names_of p) r.full (names_of q)) d = by_names (λ va vb v. IsAutomatonOf (join_size l.full) (JoinStep l.full va r.full vb) (JoinEnd l.full va r.full vb) d) made in
        let g : GivesJoin l.full (names_of p) r.full (names_of q) both d = by_names (λ va vb v. GivesJoin l.full va r.full vb v d) gives in
        let reads = reads-by (join_size l.full) (JoinStep l.full (names_of p) r.full (names_of q)) (JoinEnd l.full (names_of p) r.full (names_of q)) d (λ o m b k s. s.byte) m in
        let is : IsQueryAutomaton (Join p q) d = record {
          tree = record { left = l.full; right = r.full; left_is = is_l.full.tree; right_is = is_r.full.tree; holds = (small, record { variables = g.variables; automaton = m }) };
          defines = join-defines p q l.full r.full d is_l.full.defines is_r.full.defines is_l.full.bytes is_r.full.bytes reads both_vars g;
          bytes = reads;
        } in
        subst (λ t. IsQueryAutomaton t d) (sym join_tree) is

    pub join-accepted : states_of r.full ≤ 1024 → 1 + l.parts + r.parts ≤ 128 → (most : ℕ) → (CountIsAbove most (join_size l.full) (JoinStep l.full l.vars r.full r.vars) → ⊥) → IsAccepted most (Join x y)
    join-accepted small few most h =
        let none = by_names (λ va vb v. CountIsAbove most (join_size l.full) (JoinStep l.full va r.full vb) → ⊥) h in
        subst (IsAccepted most) (sym join_tree) (record {
          few_parts = omega (arith, few, parts_are);
          few_names = both_vars.few;
          few = λ k. none ((counts-by-any.join most p q l.full r.full is_l.full.tree is_r.full.tree small).0 k);
        })

module _ (l : Compiled) (is_l : IsCompiled l) (names : List (List ℕ)) (vars : AreVars names) (x : Query) (own : List (List ℕ)) (x_is : x ≡ query_of l.tree) (own_is : own ≡ names) where
  abbrev source : Query
  source = query_of l.tree

  own_parts : 1 + l.parts ≡ suc (parts_of source)
  own_parts = omega (arith, is_l.parts)

  own_names : (P : List (List ℕ) → Type 0) → P l.vars → P (names_of source)
  own_names P h = subst P is_l.names h

  project_tree : Project x own ≡ Project source names
  project_tree = λ i. Project (x_is i) (own_is i)

  pub project-parts : 1 + l.parts ≡ parts_of (Project x own)
  project-parts = own_parts ∙ sym (ap parts_of project_tree)

  pub project-automaton : (d : DeterministicAutomaton) → IsAutomatonOf (states_of l.full) (ProjectStep l.full l.vars names) (ProjectEnd l.full l.vars names) d → GivesProjection l.full l.vars names d → IsQueryAutomaton (Project x own) d
  project-automaton d made gives =
      let m = own_names (λ v. IsAutomatonOf (states_of l.full) (ProjectStep l.full v names) (ProjectEnd l.full v names) d) made in
      let g = own_names (λ v. GivesProjection l.full v names d) gives in
      let reads = reads-by (states_of l.full) (ProjectStep l.full (names_of source) names) (ProjectEnd l.full (names_of source) names) d (λ o m b k s. s.byte) m in
      let is : IsQueryAutomaton (Project source names) d = record {
        tree = record { source = l.full; source_is = is_l.full.tree; holds = record { variables = g.variables; automaton = m } };
        defines = projection-defines source names l.full d is_l.full.defines is_l.full.bytes reads vars g;
        bytes = reads;
      } in
      subst (λ t. IsQueryAutomaton t d) (sym project_tree) is

  pub project-accepted : 1 + l.parts ≤ 128 → (most : ℕ) → (CountIsAbove most (states_of l.full) (ProjectStep l.full l.vars names) → ⊥) → IsAccepted most (Project x own)
  project-accepted few most h =
      let none = own_names (λ v. CountIsAbove most (states_of l.full) (ProjectStep l.full v names) → ⊥) h in
      subst (IsAccepted most) (sym project_tree) (record {
        few_parts = omega (arith, few, own_parts);
        few_names = vars.few;
        few = λ k. none ((counts-by-any.project most source names l.full is_l.full.tree).0 k);
      })
