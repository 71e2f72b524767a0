use Rattle.std.proofs.Common.{sym, ◌∙◌, arith, ap, subst, ◌≡◌, ℕ, Some, ◌≤◌, length, [], List, false}
use Rattle.formula_syntax.specs.Numbering.{Names}
use Rattle.span_types.specs.FormulaTree.{FormulaTree, sets, tree_of}
use Rattle.formula_syntax.specs.Grammar.{alt}
use Rattle.formula_syntax.specs.Below.{Below}
use Rattle.formula_syntax.specs.FormulaOf.{Meets}
use Rattle.formula_syntax.specs.Machine.{Found, read}
use Rattle.formula_syntax.specs.View.{IsRead, IsReadIn, ShowsFound}
use Rattle.formula_syntax.specs.declared.reader.Found as found
use Rattle.formula_syntax.proofs.Sound.{sound}
use Rattle.formula_syntax.proofs.Below.{capped_sets, capped_same, reads_below, below_more}
use Rattle.formula_syntax.proofs.Judged.{fault_below, says_copy, take_few, few, many}
use Rattle.formula_syntax.proofs.outcome.judge.Goals as goal

-- where there are at most eight names, the variables are below their number
record HasFewVars (f : FormulaTree) (names : Names) : Type 0 where
  small : Below 8 f
  own : Below (length names) f

few_names : (x : found.Found) (g : Found) → ShowsFound x g → x.crowded ≡ false → length g.names ≤ 8
few_names x g h c = few (length g.names) (sym h.crowded ∙ c)

same_names : (x : found.Found) (g : Found) → ShowsFound x g → x.crowded ≡ false → x.vars ≡ g.names
same_names x g h c = h.vars ∙ take_few 8 g.names (few_names x g h c)

same_formula : (s : List ℕ) (x : found.Found) (g : Found) → read s ≡ Some g → ShowsFound x g → x.crowded ≡ false → tree_of x.formula ≡ g.formula
same_formula s x g e h c =
    let b = reads_below alt s g.formula g.depth [] g.names (sound s g e) in
    h.formula ∙ capped_same g.formula (below_more (length g.names) 8 g.formula (few_names x g h c) b.below)

few_vars : (x : found.Found) → IsRead x → x.crowded ≡ false → HasFewVars (tree_of x.formula) x.vars
few_vars x (s, r) c =
    let g = r.0 in
    let b = reads_below alt s g.formula g.depth [] g.names (sound s g r.1) in
    let F : FormulaTree → Type 0 = λ z. HasFewVars z x.vars in
    let N : Names → Type 0 = λ z. HasFewVars g.formula z in
    subst F (sym (same_formula s x g r.1 r.2 c)) (subst N (sym (same_names x g r.2 c)) (record { small = below_more (length g.names) 8 g.formula (few_names x g r.2 c) b.below; own = b.below }))

meets : (s : List ℕ) (x : found.Found) (r : IsReadIn s x) → length s ≤ 2048 → x.crowded ≡ false → x.deepest ≤ 64 → sets (tree_of x.formula) ≤ 512 → Meets s (tree_of x.formula) x.vars r.0.depth
meets s x r le c d n =
    let g = r.0 in
    let F : FormulaTree → Type 0 = λ z. Meets s z x.vars g.depth in
    let N : Names → Type 0 = λ z. Meets s g.formula z g.depth in
    subst F (sym (same_formula s x g r.1 r.2 c)) (subst N (sym (same_names x g r.2 c)) (record {
      reading = sound s g r.1;
      short = le;
      shallow = omega (arith, r.2.deepest, d);
      positions = omega (arith, n, ap sets (same_formula s x g r.1 r.2 c));
      variables = few_names x g r.2 c;
    }))

same_sets : (x : found.Found) (g : Found) → ShowsFound x g → sets (tree_of x.formula) ≡ sets g.formula
same_sets x g h = ap sets h.formula ∙ capped_sets g.formula

pub returns-then-deepest-gt64 : goal.returns-then-deepest-gt64
returns-then-deepest-gt64 c = λ s le r.
    let x = r.0 in
    (le, x.formula, x.names, x.depth, sound s x r.1, omega (arith, r.2.deepest, c.if-deepest-gt64.true))

pub returns-then-sets_of-gt512 : goal.returns-then-sets_of-gt512
returns-then-sets_of-gt512 c = λ s le r.
    let x = r.0 in
    let same = same_sets c.args.found x r.2 in
    (le, x.formula, x.names, x.depth, sound s x r.1, omega (arith, r.2.deepest, c.if-deepest-gt64.false), omega (arith, same, c.sets_of.ensures, c.if-sets_of-gt512.true))

pub returns-then-crowded : goal.returns-then-crowded
returns-then-crowded c = λ s le r.
    let x = r.0 in
    let same = same_sets c.args.found x r.2 in
    (le, x.formula, x.names, x.depth, sound s x r.1, omega (arith, r.2.deepest, c.if-deepest-gt64.false), omega (arith, same, c.sets_of.ensures, c.if-sets_of-gt512.false), many (length x.names) (sym r.2.crowded ∙ c.if-crowded.true))

pub check-requires : goal.check-requires
check-requires c = (few_vars c.args.found c.requires c.if-crowded.false).small

pub name-requires : goal.name-requires
name-requires c = fault_below (length c.args.found.vars) (tree_of c.args.found.formula) c.in-Some.v (few_vars c.args.found c.requires c.if-crowded.false).own (sym c.check.ensures.fault ∙ c.in-Some.is)

pub returns-in-Some : goal.returns-in-Some
returns-in-Some c = λ s le r.
    let k = meets s c.args.found r le c.if-crowded.false c.if-deepest-gt64.false (omega (arith, c.sets_of.ensures, c.if-sets_of-gt512.false)) in
    says_copy c.not_functional.result _ s c.not_functional.ensures (tree_of c.args.found.formula, c.args.found.vars, r.0.depth, c.in-Some.v, k, sym c.check.ensures.fault ∙ c.in-Some.is, c.name.ensures)

pub returns-in-None : goal.returns-in-None
returns-in-None c = λ s le r.
    let k = meets s c.args.found r le c.if-crowded.false c.if-deepest-gt64.false (omega (arith, c.sets_of.ensures, c.if-sets_of-gt512.false)) in
    (r.0.depth, k, sym c.check.ensures.fault ∙ c.in-None.is)
