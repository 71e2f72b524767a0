-- The variables of a reading are numbers of its names.
use Rattle.std.proofs.Common.{◌≡◌, ℕ, ◌<◌, ◌≤◌, Bool, true, false, List, [], ◌∷◌, length, refl, ap, arith, bytes_eq}
use Rattle.std.specs.Prelude.{min}
use Rattle.formula_syntax.specs.Numbering.{Names, number_in, seen}
use Rattle.span_types.specs.FormulaTree.{FormulaTree, Set, Empty, Cat, Alt, Star, Plus, Opt, Capture, sets}
use Rattle.formula_syntax.specs.Grammar.{Part, alt, cat, reps, rep, atom, Reads, one_branch, more_branches, nothing, something, last_rep, more_reps, plain, star, plus, option, letter, escape, dot, set, group, capture}
use Rattle.formula_syntax.specs.View.{capped}
use Rattle.formula_syntax.specs.Below.{Below}

pub below_more : (k l : ℕ) (f : FormulaTree) → k ≤ l → Below k f → Below l f
below_more k l (Set b) le h = tt
below_more k l Empty le h = tt
below_more k l (Cat a b) le h = (below_more k l a le h.0, below_more k l b le h.1)
below_more k l (Alt a b) le h = (below_more k l a le h.0, below_more k l b le h.1)
below_more k l (Star a) le h = below_more k l a le h
below_more k l (Plus a) le h = below_more k l a le h
below_more k l (Opt a) le h = below_more k l a le h
below_more k l (Capture x a) le h = (omega (arith, h.0), below_more k l a le h.1)

seen_more : (ys : Names) (x : List ℕ) → (length ys ≤ length (seen ys x)) × (number_in ys x < length (seen ys x))
seen_more [] x = (omega arith, omega arith)
seen_more (y ∷ ys) x = go (bytes_eq y x) refl (seen_more ys x)
  where
    go : (t : Bool) → bytes_eq y x ≡ t → (length ys ≤ length (seen ys x)) × (number_in ys x < length (seen ys x)) → (length (y ∷ ys) ≤ length (seen (y ∷ ys) x)) × (number_in (y ∷ ys) x < length (seen (y ∷ ys) x))
    go true e h = rw e (omega arith, omega arith)
    go false e h = rw e (let a = h.0 in omega arith, let b = h.1 in omega arith)

pub record Named_below (f : FormulaTree) (n m : Names) : Type 0 where
  pub grows : length n ≤ length m
  pub below : Below (length m) f

two : (f g h : FormulaTree) (n k m : Names) → Named_below g n k → Named_below h k m → (length n ≤ length m) × Below (length m) g × Below (length m) h
two f g h n k m x y = let a = x.grows in let b = y.grows in (omega arith, below_more (length k) (length m) g y.grows x.below, y.below)

pub reads_below : (p : Part) (s : List ℕ) (f : FormulaTree) (d : ℕ) (n m : Names) → Reads p s f d n m → Named_below f n m
reads_below alt s f d n m (one_branch _ _ _ _ _ h) = reads_below cat s f d n m h
reads_below alt s f d n m (more_branches _ a b _ g h _ c e _ k _ cut r t is mx) =
    let x = two f g h n k m (reads_below cat a g c n k r) (reads_below alt b h e k m t) in
    record { grows = x.0; below = rw is (x.1, x.2) }
reads_below cat s f d n m (nothing _ _ _ _ _ e is z q) = record { grows = rw q (omega arith); below = rw is tt }
reads_below cat s f d n m (something _ _ _ _ _ h) = reads_below reps s f d n m h
reads_below reps s f d n m (last_rep _ _ _ _ _ h) = reads_below rep s f d n m h
reads_below reps s f d n m (more_reps _ a b _ g h _ c e _ k _ cut r t is mx) =
    let x = two f g h n k m (reads_below rep a g c n k r) (reads_below reps b h e k m t) in
    record { grows = x.0; below = rw is (x.1, x.2) }
reads_below rep s f d n m (plain _ _ _ _ _ h) = reads_below atom s f d n m h
reads_below rep s f d n m (star _ a _ g _ _ _ cut h is) = let x = reads_below rep a g d n m h in record { grows = x.grows; below = rw is x.below }
reads_below rep s f d n m (plus _ a _ g _ _ _ cut h is) = let x = reads_below rep a g d n m h in record { grows = x.grows; below = rw is x.below }
reads_below rep s f d n m (option _ a _ g _ _ _ cut h is) = let x = reads_below rep a g d n m h in record { grows = x.grows; below = rw is x.below }
reads_below atom s f d n m (letter _ _ _ b _ _ cut h is z q) = record { grows = rw q (omega arith); below = rw is tt }
reads_below atom s f d n m (escape _ _ _ b _ _ h is z q) = record { grows = rw q (omega arith); below = rw is tt }
reads_below atom s f d n m (dot _ _ _ _ _ cut is z q) = record { grows = rw q (omega arith); below = rw is tt }
reads_below atom s f d n m (set _ a _ _ _ _ neg rs cut h is z q) = record { grows = rw q (omega arith); below = rw is tt }
reads_below atom s f d n m (group _ a _ _ e _ _ cut h z) = reads_below alt a f e n m h
reads_below atom s f d n m (capture _ w a _ g _ e _ _ cut is_n h is z) =
    let x = reads_below alt a g e (seen n w) m h in
    let y = seen_more n w in
    let u = x.grows in let v = y.0 in let t = y.1 in
    let small : number_in n w < length m = omega arith in
    record { grows = omega arith; below = rw is (small, x.below) }

pub capped_same : (f : FormulaTree) → Below 8 f → capped f ≡ f
capped_same (Set b) h = refl
capped_same Empty h = refl
capped_same (Cat a b) h = rw (capped_same a h.0, capped_same b h.1) refl
capped_same (Alt a b) h = rw (capped_same a h.0, capped_same b h.1) refl
capped_same (Star a) h = ap Star (capped_same a h)
capped_same (Plus a) h = ap Plus (capped_same a h)
capped_same (Opt a) h = ap Opt (capped_same a h)
capped_same (Capture x a) h = let same : min x 8 ≡ x = omega (arith, h.0) in rw (same, capped_same a h.1) refl

pub small_same : (s : List ℕ) (f : FormulaTree) (d : ℕ) (m : Names) → Reads alt s f d [] m → length m ≤ 8 → capped f ≡ f
small_same s f d m h le = let x = reads_below alt s f d [] m h in capped_same f (below_more (length m) 8 f le x.below)

pub capped_sets : (f : FormulaTree) → sets (capped f) ≡ sets f
capped_sets (Set b) = refl
capped_sets Empty = refl
capped_sets (Cat a b) = rw (capped_sets a, capped_sets b) refl
capped_sets (Alt a b) = rw (capped_sets a, capped_sets b) refl
capped_sets (Star a) = capped_sets a
capped_sets (Plus a) = capped_sets a
capped_sets (Opt a) = capped_sets a
capped_sets (Capture x a) = capped_sets a
