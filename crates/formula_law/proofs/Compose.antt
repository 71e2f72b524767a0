-- What a formula's words say is read by a walk over its positions.
use Rattle.std.proofs.Common.{◌≡◌, ℕ, ◌+◌, ◌<◌, ◌≤◌, Bool, inl, inr, refl, sym, ap, subst, ◌∙◌, arith, List}
use Rattle.span_types.specs.FormulaTree.{FormulaTree, Set, Empty, Cat, Alt, Star, Plus, Opt, Capture, sets}
use Rattle.span_types.specs.Marks.{at_position, opening, closing}
use Rattle.span_types.specs.Fits.{Turns, done, more}
use Rattle.formula_law.specs.Positions.{HasSet, IsNull, IsFirst, IsLast, IsFollow}
use Rattle.span_types.proofs.Sums.{IsZero, IsSum, IsInside, zeros, zeros_path, at_same, at_other}
use Rattle.formula_law.proofs.Walk.{Walk, stop, walk_le, walk_marks, walk_more, walk_join}
use Rattle.formula_law.proofs.Words.{Words}
use Rattle.formula_law.proofs.Enters.{Reads, Path, Runs}

zero_inside : (i j : ℕ) (u : ℕ → ℕ) → IsZero u → IsInside i j u
zero_inside i j u z = record { below = λ p h. z.at p; above = λ p h. z.at p }

module _ (A : ℕ → List Bool → Type 0) where
  turns_le : {P : ℕ → ℕ → Type 0} (i j : ℕ) → Turns P i j → i ≤ j
  turns_le i j (done _ _ e) = omega arith
  turns_le i j (more _ m _ lt le h t) = omega arith

  pub words_le : (f : FormulaTree) (i j : ℕ) (u : ℕ → ℕ) → Words A f i j u → i ≤ j
  words_le (Set b) i j u h = omega (arith, h.0)
  words_le Empty i j u h = omega (arith, h.0)
  words_le (Cat a b) i j u h = omega (arith, h.low, h.high)
  words_le (Alt a b) i j u (inl h) = words_le a i j u h
  words_le (Alt a b) i j u (inr h) = words_le b i j u h
  words_le (Star a) i j u h = turns_le i j h.1
  words_le (Plus a) i j u h = omega (arith, h.2, h.3)
  words_le (Opt a) i j u (inl h) = omega (arith, h.0)
  words_le (Opt a) i j u (inr h) = words_le a i j u h
  words_le (Capture x a) i j u h = words_le a i j h.inner h.within

  around_inside : (x i j : ℕ) (u v : ℕ → ℕ) → i ≤ j → ((p : ℕ) → u p ≡ at_position i (opening x) p + at_position j (closing x) p + v p) → IsInside i j v → IsInside i j u
  around_inside x i j u v le s d = record {
    below = λ p h.
        let n : p ≡ i → ⊥ = omega arith in
        let m : p ≡ j → ⊥ = omega arith in
        omega (arith, s p, at_other i (opening x) p n, at_other j (closing x) p m, d.below p h);
    above = λ p h.
        let n : p ≡ i → ⊥ = omega arith in
        let m : p ≡ j → ⊥ = omega arith in
        omega (arith, s p, at_other i (opening x) p n, at_other j (closing x) p m, d.above p h);
  }

  pub words_inside : (f : FormulaTree) (i j : ℕ) (u : ℕ → ℕ) → Words A f i j u → IsInside i j u
  words_inside (Set b) i j u h = zero_inside i j u h.2
  words_inside Empty i j u h = zero_inside i j u h.1
  words_inside (Cat a b) i j u h =
      let l = words_inside a i h.index h.left h.in_left in
      let r = words_inside b h.index j h.right h.in_right in
      record {
        below = λ p lt. omega (arith, h.sum.at p, l.below p lt, r.below p (omega (arith, h.low)));
        above = λ p lt. omega (arith, h.sum.at p, r.above p lt, l.above p (omega (arith, h.high)));
      }
  words_inside (Alt a b) i j u (inl h) = words_inside a i j u h
  words_inside (Alt a b) i j u (inr h) = words_inside b i j u h
  words_inside (Star a) i j u h = zero_inside i j u h.0
  words_inside (Plus a) i j u h = zero_inside i j u h.0
  words_inside (Opt a) i j u (inl h) = zero_inside i j u h.1
  words_inside (Opt a) i j u (inr h) = words_inside a i j u h
  words_inside (Capture x a) i j u h =
      around_inside x i j u h.inner (words_le a i j h.inner h.within) h.sum (words_inside a i j h.inner h.within)

  -- a part of a formula, and its walk in the whole
  record Embeds (a f : FormulaTree) (n l : ℕ) : Type 0 where
    has : (o : ℕ) (c : List Bool) → HasSet a n o c → HasSet f l o c
    follow : (o m p : ℕ) → IsFollow a n o m p → IsFollow f l o m p

  embeds_reads : (a f : FormulaTree) (n l p o : ℕ) → Embeds a f n l → Reads A a n p o → Reads A f l p o
  embeds_reads a f n l p o e r = record { members = r.members; has_set = e.has o r.members r.has_set; fits = r.fits }

  embeds_walk : (a f : FormulaTree) (n l : ℕ) (u v : ℕ → ℕ) (p o q c : ℕ) → Embeds a f n l → ((r : ℕ) → p < r → r ≤ q → v r ≡ u r) → Walk (IsFollow a n) (Reads A a n) v p o q c → Walk (IsFollow f l) (Reads A f l) u p o q c
  embeds_walk a f n l u v p o q c e same w =
      walk_marks u p o q c same (walk_more p o q c e.follow (λ r d h. embeds_reads a f n l r d e h) w)

  in_prefix : (a b : FormulaTree) (n : ℕ) → Embeds a (Cat a b) n n
  in_prefix a b n = record { has = λ o c h. inl h; follow = λ o m p h. inl h }

  in_back : (a b : FormulaTree) (n : ℕ) → Embeds b (Cat a b) (n + sets a) n
  in_back a b n = record { has = λ o c h. inr h; follow = λ o m p h. inr (inl h) }

  in_one : (a b : FormulaTree) (n : ℕ) → Embeds a (Alt a b) n n
  in_one a b n = record { has = λ o c h. inl h; follow = λ o m p h. inl h }

  in_other : (a b : FormulaTree) (n : ℕ) → Embeds b (Alt a b) (n + sets a) n
  in_other a b n = record { has = λ o c h. inr h; follow = λ o m p h. inr h }

  in_star : (a : FormulaTree) (n : ℕ) → Embeds a (Star a) n n
  in_star a n = record { has = λ o c h. h; follow = λ o m p h. inl h }

  star_plus : (a : FormulaTree) (n : ℕ) → Embeds (Star a) (Plus a) n n
  star_plus a n = record { has = λ o c h. h; follow = λ o m p h. h }

  in_option : (a : FormulaTree) (n : ℕ) → Embeds a (Opt a) n n
  in_option a n = record { has = λ o c h. h; follow = λ o m p h. h }

  in_named : (x : ℕ) (a : FormulaTree) (n : ℕ) → Embeds a (Capture x a) n n
  in_named x a n = record { has = λ o c h. h; follow = λ o m p h. h }

  -- a path of a part, with first and last marks of the whole
  moved_path : (a f : FormulaTree) (n l i j : ℕ) (u v : ℕ → ℕ) → Embeds a f n l → (p : Path A a n i j v) → ((r : ℕ) → i < r → r < j → v r ≡ u r) → IsFirst f l (u i) p.entry → IsLast f l p.exit (u j) → Path A f l i j u
  moved_path a f n l i j u v e p same first last = record {
    entry = p.entry;
    exit = p.exit;
    final = p.final;
    begins = first;
    reads = embeds_reads a f n l i p.entry e p.reads;
    walk = embeds_walk a f n l u v i p.entry p.final p.exit e (λ r g h. same r g (omega (arith, p.at_end))) p.walk;
    at_end = p.at_end;
    ends = last;
  }

  -- a path of a part with the same first and last marks
  whole_path : (a f : FormulaTree) (n l i j : ℕ) (u : ℕ → ℕ) → Embeds a f n l → ((m o : ℕ) → IsFirst a n m o → IsFirst f l m o) → ((o m : ℕ) → IsLast a n o m → IsLast f l o m) → Path A a n i j u → Path A f l i j u
  whole_path a f n l i j u e first last p = moved_path a f n l i j u u e p (λ r g h. refl) (first (u i) p.entry p.begins) (last p.exit (u j) p.ends)

  pub path_less : (f : FormulaTree) (n i j : ℕ) (u : ℕ → ℕ) → Path A f n i j u → i < j
  path_less f n i j u p = let le = walk_le i p.entry p.final p.exit p.walk in omega (arith, p.at_end, le)

  -- nothing is read by the first part
  null_path : (a b : FormulaTree) (n i j : ℕ) (u v w : ℕ → ℕ) → IsSum u v w → IsInside i i v → IsNull a (v i) → Path A b (n + sets a) i j w → Path A (Cat a b) n i j u
  null_path a b n i j u v w s d null p =
      let lt = path_less b (n + sets a) i j w p in
      let L : ℕ → Type 0 = λ m. IsLast b (n + sets a) p.exit m in
      let same : (r : ℕ) → i < r → w r ≡ u r = λ r h. omega (arith, s.at r, d.above r h) in
      moved_path b (Cat a b) (n + sets a) n i j u w (in_back a b n) p (λ r g h. same r g) (inr (record { left = v i; right = w i; in_left = null; in_right = p.begins; sum = s.at i })) (inl (subst L (same j lt) p.ends))

  -- nothing is read by the second part
  path_null : (a b : FormulaTree) (n i j : ℕ) (u v w : ℕ → ℕ) → IsSum u v w → IsInside j j w → IsNull b (w j) → Path A a n i j v → Path A (Cat a b) n i j u
  path_null a b n i j u v w s d null p =
      let lt = path_less a n i j v p in
      let F : ℕ → Type 0 = λ m. IsFirst a n m p.entry in
      let same : (r : ℕ) → r < j → v r ≡ u r = λ r h. omega (arith, s.at r, d.below r h) in
      moved_path a (Cat a b) n n i j u v (in_prefix a b n) p (λ r g h. same r h) (inl (subst F (same i lt) p.begins)) (inr (record { left = v j; right = w j; in_left = p.ends; in_right = null; sum = s.at j }))

  -- both parts read
  path_path : (a b : FormulaTree) (n i m j : ℕ) (u v w : ℕ → ℕ) → IsSum u v w → IsInside i m v → IsInside m j w → Path A a n i m v → Path A b (n + sets a) m j w → Path A (Cat a b) n i j u
  path_path a b n i m j u v w s d e p q =
      let lt = path_less a n i m v p in
      let lt' = path_less b (n + sets a) m j w q in
      let F : ℕ → Type 0 = λ m. IsFirst a n m p.entry in
      let L : ℕ → Type 0 = λ m. IsLast b (n + sets a) q.exit m in
      let same : (r : ℕ) → r < m → v r ≡ u r = λ r h. omega (arith, s.at r, e.below r h) in
      let same' : (r : ℕ) → m < r → w r ≡ u r = λ r h. omega (arith, s.at r, d.above r h) in
      record {
        entry = p.entry;
        exit = q.exit;
        final = q.final;
        begins = inl (subst F (same i lt) p.begins);
        reads = embeds_reads a (Cat a b) n n i p.entry (in_prefix a b n) p.reads;
        walk = walk_join i p.entry p.final p.exit m q.entry q.final q.exit (embeds_walk a (Cat a b) n n u v i p.entry p.final p.exit (in_prefix a b n) (λ r g h. same r (omega (arith, p.at_end))) p.walk) p.at_end (inr (inr (record { left = v m; right = w m; in_left = p.ends; in_right = q.begins; sum = s.at m }))) (embeds_reads b (Cat a b) (n + sets a) n m q.entry (in_back a b n) q.reads) (embeds_walk b (Cat a b) (n + sets a) n u w m q.entry q.final q.exit (in_back a b n) (λ r g h. same' r g) q.walk);
        at_end = q.at_end;
        ends = inl (subst L (same' j lt') q.ends);
      }

  then_runs : (a b : FormulaTree) (n i m j : ℕ) (u v w : ℕ → ℕ) → IsSum u v w → IsInside i m v → IsInside m j w → Runs A a n i m v → Runs A b (n + sets a) m j w → Runs A (Cat a b) n i j u
  then_runs a b n i m j u v w s d e (inl p) (inl q) =
      let W : w m ≡ w i = ap w (sym p.same) in
      inl (record { same = p.same ∙ q.same; null = record { left = v i; right = w m; in_left = p.null; in_right = q.null; sum = omega (arith, s.at i, W) } })
  then_runs a b n i m j u v w s d e (inl p) (inr q) =
      let D : ℕ → Type 0 = λ x. IsInside i x v in
      let P : ℕ → Type 0 = λ x. Path A b (n + sets a) x j w in
      inr (null_path a b n i j u v w s (subst D (sym p.same) d) p.null (subst P (sym p.same) q))
  then_runs a b n i m j u v w s d e (inr p) (inl q) =
      let D : ℕ → Type 0 = λ x. IsInside x j w in
      let P : ℕ → Type 0 = λ x. Path A a n i x v in
      let N : ℕ → Type 0 = λ x. IsNull b (w x) in
      inr (path_null a b n i j u v w s (subst D q.same e) (subst N q.same q.null) (subst P q.same p))
  then_runs a b n i m j u v w s d e (inr p) (inr q) = inr (path_path a b n i m j u v w s d e p q)

  named_runs : (x : ℕ) (a : FormulaTree) (n i j : ℕ) (u v : ℕ → ℕ) → ((p : ℕ) → u p ≡ at_position i (opening x) p + at_position j (closing x) p + v p) → Runs A a n i j v → Runs A (Capture x a) n i j u
  named_runs x a n i j u v s (inl p) =
      let here = at_same i (opening x) in
      let there : at_position j (closing x) i ≡ closing x = ap (at_position j (closing x)) p.same ∙ at_same j (closing x) in
      inl (record { same = p.same; null = (v i, p.null, omega (arith, s i, here, there)) })
  named_runs x a n i j u v s (inr p) =
      let lt = path_less a n i j v p in
      let same : (r : ℕ) → i < r → r < j → v r ≡ u r = λ r g h. inner_same r g h in
      inr (record {
        entry = p.entry;
        exit = p.exit;
        final = p.final;
        begins = (v i, p.begins, omega (arith, s i, at_same i (opening x), at_other j (closing x) i (ne_before lt)));
        reads = embeds_reads a (Capture x a) n n i p.entry (in_named x a n) p.reads;
        walk = embeds_walk a (Capture x a) n n u v i p.entry p.final p.exit (in_named x a n) (λ r g h. same r g (omega (arith, p.at_end))) p.walk;
        at_end = p.at_end;
        ends = (v j, p.ends, omega (arith, s j, at_same j (closing x), at_other i (opening x) j (ne_after lt)));
      })
    where
      ne_before : i < j → i ≡ j → ⊥
      ne_before lt e = omega arith

      ne_after : i < j → j ≡ i → ⊥
      ne_after lt e = omega arith

      inner_same : (r : ℕ) → i < r → r < j → v r ≡ u r
      inner_same r g h =
          let n : r ≡ i → ⊥ = omega arith in
          let m : r ≡ j → ⊥ = omega arith in
          omega (arith, s r, at_other i (opening x) r n, at_other j (closing x) r m)

  -- one turn, and what follows it
  star_path : (a : FormulaTree) (n i m j : ℕ) → Path A a n i m zeros → Runs A (Star a) n m j zeros → Path A (Star a) n i j zeros
  star_path a n i m j p (inl q) =
      let P : ℕ → Type 0 = λ x. Path A (Star a) n i x zeros in
      subst P q.same (whole_path a (Star a) n n i m zeros (in_star a n) (λ x o h. h) (λ o x h. h) p)
  star_path a n i m j p (inr q) = record {
    entry = p.entry;
    exit = q.exit;
    final = q.final;
    begins = p.begins;
    reads = embeds_reads a (Star a) n n i p.entry (in_star a n) p.reads;
    walk = walk_join i p.entry p.final p.exit m q.entry q.final q.exit (embeds_walk a (Star a) n n zeros zeros i p.entry p.final p.exit (in_star a n) (λ r g h. refl) p.walk) p.at_end (inr (record { left = 0; right = 0; in_left = p.ends; in_right = q.begins; sum = refl })) q.reads q.walk;
    at_end = q.at_end;
    ends = q.ends;
  }

  star_more : (a : FormulaTree) (n i m j : ℕ) → i < m → Runs A a n i m zeros → Runs A (Star a) n m j zeros → Runs A (Star a) n i j zeros
  star_more a n i m j lt (inl p) q = absurd (omega (arith, p.same))
  star_more a n i m j lt (inr p) q = inr (star_path a n i m j p q)

  star_runs : (a : FormulaTree) (n i j : ℕ) → ((g h : ℕ) → Words A a g h zeros → Runs A a n g h zeros) → Turns (λ g h. Words A a g h zeros) i j → Runs A (Star a) n i j zeros
  star_runs a n i j each (done _ _ e) = inl (record { same = e; null = inl refl })
  star_runs a n i j each (more _ m _ lt le w t) = star_more a n i m j lt (each i m w) (star_runs a n m j each t)

  plus_path : (a : FormulaTree) (n i j : ℕ) → Path A (Star a) n i j zeros → Path A (Plus a) n i j zeros
  plus_path a n i j p = whole_path (Star a) (Plus a) n n i j zeros (star_plus a n) (λ x o h. h) (λ o x h. h) p

  plus_runs : (a : FormulaTree) (n i m j : ℕ) → Runs A a n i m zeros → Runs A (Star a) n m j zeros → Runs A (Plus a) n i j zeros
  plus_runs a n i m j (inl p) (inl q) = inl (record { same = p.same ∙ q.same; null = p.null })
  plus_runs a n i m j (inl p) (inr q) =
      let P : ℕ → Type 0 = λ x. Path A (Plus a) n x j zeros in
      inr (subst P (sym p.same) (plus_path a n m j q))
  plus_runs a n i m j (inr p) q = inr (plus_path a n i j (star_path a n i m j p q))

  either_one : (a b : FormulaTree) (n i j : ℕ) (u : ℕ → ℕ) → Runs A a n i j u → Runs A (Alt a b) n i j u
  either_one a b n i j u (inl p) = inl (record { same = p.same; null = inl p.null })
  either_one a b n i j u (inr p) = inr (whole_path a (Alt a b) n n i j u (in_one a b n) (λ x o h. inl h) (λ o x h. inl h) p)

  either_other : (a b : FormulaTree) (n i j : ℕ) (u : ℕ → ℕ) → Runs A b (n + sets a) i j u → Runs A (Alt a b) n i j u
  either_other a b n i j u (inl p) = inl (record { same = p.same; null = inr p.null })
  either_other a b n i j u (inr p) = inr (whole_path b (Alt a b) (n + sets a) n i j u (in_other a b n) (λ x o h. inr h) (λ o x h. inr h) p)

  option_runs : (a : FormulaTree) (n i j : ℕ) (u : ℕ → ℕ) → Runs A a n i j u → Runs A (Opt a) n i j u
  option_runs a n i j u (inl p) = inl (record { same = p.same; null = inr p.null })
  option_runs a n i j u (inr p) = inr (whole_path a (Opt a) n n i j u (in_option a n) (λ x o h. h) (λ o x h. h) p)

  pub compose : (f : FormulaTree) (n i j : ℕ) (u : ℕ → ℕ) → Words A f i j u → Runs A f n i j u
  compose (Set b) n i j u h = inr (record {
    entry = n;
    exit = n;
    final = i;
    begins = (h.2.at i, refl);
    reads = record { members = b; has_set = (refl, refl); fits = h.1 };
    walk = stop i n i n refl refl;
    at_end = h.0;
    ends = (refl, h.2.at j);
  })
  compose Empty n i j u h = inl (record { same = h.0; null = h.1.at i })
  compose (Cat a b) n i j u h =
      then_runs a b n i h.index j u h.left h.right h.sum (words_inside a i h.index h.left h.in_left) (words_inside b h.index j h.right h.in_right) (compose a n i h.index h.left h.in_left) (compose b (n + sets a) h.index j h.right h.in_right)
  compose (Alt a b) n i j u (inl h) = either_one a b n i j u (compose a n i j u h)
  compose (Alt a b) n i j u (inr h) = either_other a b n i j u (compose b (n + sets a) i j u h)
  compose (Star a) n i j u h =
      let R : (ℕ → ℕ) → Type 0 = λ x. Runs A (Star a) n i j x in
      subst R (sym (zeros_path u h.0)) (star_runs a n i j (λ g k w. compose a n g k zeros w) h.1)
  compose (Plus a) n i j u h =
      let R : (ℕ → ℕ) → Type 0 = λ x. Runs A (Plus a) n i j x in
      subst R (sym (zeros_path u h.0)) (plus_runs a n i h.1 j (compose a n i h.1 zeros h.4) (star_runs a n h.1 j (λ g k w. compose a n g k zeros w) h.5))
  compose (Opt a) n i j u (inl h) = inl (record { same = h.0; null = inl (h.1.at i) })
  compose (Opt a) n i j u (inr h) = option_runs a n i j u (compose a n i j u h)
  compose (Capture x a) n i j u h = named_runs x a n i j u h.inner h.sum (compose a n i j h.inner h.within)
