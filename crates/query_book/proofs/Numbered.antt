-- The variables of a reading are exactly the numbers of its names.
use Rattle.std.proofs.Common.{◌≡◌, ℕ, suc, max, Bool, true, false, List, [], ◌∷◌, length, refl, ap, arith, bytes_eq}
use Rattle.formula_syntax.specs.Numbering.{Names, number_in, seen}
use Rattle.span_types.specs.FormulaTree.{FormulaTree, var_bound}
use Rattle.formula_syntax.specs.Grammar.{Part, alt, cat, reps, rep, atom, Reads, one_branch, more_branches, nothing, something, last_rep, more_reps, plain, star, plus, option, letter, escape, dot, set, group, capture}

seen_length : (ys : Names) (x : List ℕ) → length (seen ys x) ≡ max (length ys) (suc (number_in ys x))
seen_length [] x = omega arith
seen_length (y ∷ ys) x = go (bytes_eq y x) refl (seen_length ys x)
  where
    go : (t : Bool) → bytes_eq y x ≡ t → length (seen ys x) ≡ max (length ys) (suc (number_in ys x)) → length (seen (y ∷ ys) x) ≡ max (length (y ∷ ys)) (suc (number_in (y ∷ ys) x))
    go true e h = rw e (omega arith)
    go false e h = rw e (omega (arith, h))

-- one part after another
two : (f g h : FormulaTree) (n k m : Names) → var_bound f ≡ max (var_bound g) (var_bound h) → length k ≡ max (length n) (var_bound g) → length m ≡ max (length k) (var_bound h) → length m ≡ max (length n) (var_bound f)
two f g h n k m is a b = omega (arith, is, a, b)

nothing_new : (f : FormulaTree) (n m : Names) → var_bound f ≡ 0 → m ≡ n → length m ≡ max (length n) (var_bound f)
nothing_new f n m z e = omega (arith, z, ap length e)

same_bound : (f g : FormulaTree) (n m : Names) → var_bound f ≡ var_bound g → length m ≡ max (length n) (var_bound g) → length m ≡ max (length n) (var_bound f)
same_bound f g n m e h = omega (arith, e, h)

pub reads_bound : (p : Part) (s : List ℕ) (f : FormulaTree) (d : ℕ) (n m : Names) → Reads p s f d n m → length m ≡ max (length n) (var_bound f)
reads_bound alt s f d n m (one_branch _ _ _ _ _ h) = reads_bound cat s f d n m h
reads_bound alt s f d n m (more_branches _ a b _ g h _ c e _ k _ cut r t is mx) =
    two f g h n k m (ap var_bound is) (reads_bound cat a g c n k r) (reads_bound alt b h e k m t)
reads_bound cat s f d n m (nothing _ _ _ _ _ e is z q) = nothing_new f n m (ap var_bound is) q
reads_bound cat s f d n m (something _ _ _ _ _ h) = reads_bound reps s f d n m h
reads_bound reps s f d n m (last_rep _ _ _ _ _ h) = reads_bound rep s f d n m h
reads_bound reps s f d n m (more_reps _ a b _ g h _ c e _ k _ cut r t is mx) =
    two f g h n k m (ap var_bound is) (reads_bound rep a g c n k r) (reads_bound reps b h e k m t)
reads_bound rep s f d n m (plain _ _ _ _ _ h) = reads_bound atom s f d n m h
reads_bound rep s f d n m (star _ a _ g _ _ _ cut h is) = same_bound f g n m (ap var_bound is) (reads_bound rep a g d n m h)
reads_bound rep s f d n m (plus _ a _ g _ _ _ cut h is) = same_bound f g n m (ap var_bound is) (reads_bound rep a g d n m h)
reads_bound rep s f d n m (option _ a _ g _ _ _ cut h is) = same_bound f g n m (ap var_bound is) (reads_bound rep a g d n m h)
reads_bound atom s f d n m (letter _ _ _ b _ _ cut h is z q) = nothing_new f n m (ap var_bound is) q
reads_bound atom s f d n m (escape _ _ _ b _ _ h is z q) = nothing_new f n m (ap var_bound is) q
reads_bound atom s f d n m (dot _ _ _ _ _ cut is z q) = nothing_new f n m (ap var_bound is) q
reads_bound atom s f d n m (set _ a _ _ _ _ neg rs cut h is z q) = nothing_new f n m (ap var_bound is) q
reads_bound atom s f d n m (group _ a _ _ e _ _ cut h z) = reads_bound alt a f e n m h
reads_bound atom s f d n m (capture _ w a _ g _ e _ _ cut is_n h is z) =
    let x = reads_bound alt a g e (seen n w) m h in
    let y = seen_length n w in
    let v : var_bound f ≡ max (suc (number_in n w)) (var_bound g) = ap var_bound is in
    omega (arith, x, y, v)
