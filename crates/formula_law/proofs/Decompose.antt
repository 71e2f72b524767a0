-- What a walk over the positions of a formula reads are words of the formula.
use Rattle.std.proofs.Common.{◌≡◌, ℕ, suc, ◌+◌, ◌<◌, ◌≤◌, Bool, ◌==◌, ◌⊎◌, inl, inr, refl, sym, ap, subst, ◌∙◌, arith, List, if◌then◌else◌}
use Rattle.std.proofs.lemmas.Bool.Decides.{nat_tests}
use Rattle.span_types.specs.FormulaTree.{FormulaTree, Set, Empty, Cat, Alt, Star, Plus, Opt, Capture, sets}
use Rattle.span_types.specs.Marks.{at_position, opening, closing}
use Rattle.span_types.specs.Fits.{Turns, done, more}
use Rattle.formula_law.specs.Positions.{HasSet, IsNull, IsFirst, IsLast, Joins, IsFollow}
use Rattle.formula_law.proofs.Ranges.{InRange, apart, set_range, first_range, last_range, follow_range, NoVars, border_zero, null_zero, follow_zero}
use Rattle.span_types.proofs.Sums.{IsZero, IsInside, zeros, zeros_path, at_same, at_other}
use Rattle.formula_law.proofs.Sums.{prefix, back, prefix_before, prefix_at, prefix_after, back_before, back_at, back_after, three, prefix_back}
use Rattle.formula_law.proofs.Walk.{Walk, stop, step, walk_le, walk_marks, walk_more}
use Rattle.formula_law.proofs.Words.{Words}
use Rattle.formula_law.proofs.Enters.{Reads, Path, Runs}
use Rattle.formula_law.proofs.Compose.{path_less}

-- no variable occurs under a star or a plus
abbrev pub StarsPlain : FormulaTree → Type 0
StarsPlain (Set b) = Unit {0}
StarsPlain Empty = Unit {0}
StarsPlain (Cat a b) = StarsPlain a × StarsPlain b
StarsPlain (Alt a b) = StarsPlain a × StarsPlain b
StarsPlain (Star a) = StarsPlain a × NoVars a
StarsPlain (Plus a) = StarsPlain a × NoVars a
StarsPlain (Opt a) = StarsPlain a
StarsPlain (Capture x a) = StarsPlain a

prefix_inside : (i j m x : ℕ) (u : ℕ → ℕ) → IsInside i j u → i ≤ m → IsInside i m (prefix u m x)
prefix_inside i j m x u d le = record {
  below = λ p h. prefix_before u m x p (omega arith) ∙ d.below p h;
  above = λ p h. prefix_after u m x p h;
}

back_inside : (i j m x : ℕ) (u : ℕ → ℕ) → IsInside i j u → m ≤ j → IsInside m j (back u m x)
back_inside i j m x u d le = record {
  below = λ p h. back_before u m x p h;
  above = λ p h. back_after u m x p (omega arith) ∙ d.above p h;
}

-- one number at i, another at j, and otherwise unchanged
abbrev bordered : (ℕ → ℕ) → ℕ → ℕ → ℕ → ℕ → ℕ → ℕ
bordered u i y j z p = if p == i then y else if p == j then z else u p

bordered_first : (u : ℕ → ℕ) (i y j z : ℕ) → bordered u i y j z i ≡ y
bordered_first u i y j z = grind (arith, nat_tests)

bordered_second : (u : ℕ → ℕ) (i y j z : ℕ) → i < j → bordered u i y j z j ≡ z
bordered_second u i y j z lt = grind (arith, nat_tests)

bordered_else : (u : ℕ → ℕ) (i y j z p : ℕ) → (p ≡ i → ⊥) → (p ≡ j → ⊥) → bordered u i y j z p ≡ u p
bordered_else u i y j z p n m = grind (arith, nat_tests)

-- the sum around two borders, by where the position lies
bordered_sum : (u : ℕ → ℕ) (i y j z x c : ℕ) → i < j → u i ≡ x + y → u j ≡ z + c → (p : ℕ) → u p ≡ at_position i x p + at_position j c p + bordered u i y j z p
bordered_sum u i y j z x c lt e g p = grind (arith, nat_tests)

single_sum : (u : ℕ → ℕ) (i y x c : ℕ) → IsInside i i u → u i ≡ x + c + y → (p : ℕ) → u p ≡ at_position i x p + at_position i c p + at_position i y p
single_sum u i y x c d e p = go (three p i)
  where
    go : (p < i) ⊎ ((p ≡ i) ⊎ (i < p)) → u p ≡ at_position i x p + at_position i c p + at_position i y p
    go (inl h) = let n : p ≡ i → ⊥ = omega arith in omega (arith, d.below p h, at_other i x p n, at_other i c p n, at_other i y p n)
    go (inr (inl h)) = ap u h ∙ omega (arith, e, at_same i x, at_same i c, at_same i y) ∙ sym (ap (λ q. at_position i x q + at_position i c q + at_position i y q) h)
    go (inr (inr h)) = let n : p ≡ i → ⊥ = omega arith in omega (arith, d.above p h, at_other i x p n, at_other i c p n, at_other i y p n)

module _ (A : ℕ → List Bool → Type 0) where
  -- a part of a formula that a walk does not leave
  record Keeps (f a : FormulaTree) (l n : ℕ) : Type 0 where
    has : (o : ℕ) (c : List Bool) → InRange n (sets a) o → HasSet f l o c → HasSet a n o c
    follow : (o m p : ℕ) → InRange n (sets a) o → IsFollow f l o m p → IsFollow a n o m p

  keeps_reads : (f a : FormulaTree) (l n p o : ℕ) → Keeps f a l n → InRange n (sets a) o → Reads A f l p o → Reads A a n p o
  keeps_reads f a l n p o k r h = record { members = h.members; has_set = k.has o h.members r h.has_set; fits = h.fits }

  record Kept (a : FormulaTree) (n : ℕ) (u : ℕ → ℕ) (p o q c : ℕ) : Type 0 where
    walk : Walk (IsFollow a n) (Reads A a n) u p o q c
    range : InRange n (sets a) c

  keeps_walk : (f a : FormulaTree) (l n : ℕ) (u : ℕ → ℕ) (p o q c : ℕ) → Keeps f a l n → InRange n (sets a) o → Walk (IsFollow f l) (Reads A f l) u p o q c → Kept a n u p o q c
  keeps_walk f a l n u p o q c k r (stop _ _ _ _ e g) =
      let R : ℕ → Type 0 = λ x. InRange n (sets a) x in
      record { walk = stop p o q c e g; range = subst R g r }
  keeps_walk f a l n u p o q c k r (step _ _ s d _ _ e x h w) =
      let y = k.follow o (u s) d r x in
      let t = (follow_range a n o (u s) d y).to in
      let rest = keeps_walk f a l n u s d q c k t w in
      record { walk = step p o s d q c e y (keeps_reads f a l n s d k t h) rest.walk; range = rest.range }

  keeps_one : (a b : FormulaTree) (n : ℕ) → Keeps (Alt a b) a n n
  keeps_one a b n = record { has = has'; follow = follow' }
    where
      has' : (o : ℕ) (c : List Bool) → InRange n (sets a) o → HasSet (Alt a b) n o c → HasSet a n o c
      has' o c r (inl h) = h
      has' o c r (inr h) = apart n (sets a) (sets b) o r (set_range b (n + sets a) o c h)

      follow' : (o m p : ℕ) → InRange n (sets a) o → IsFollow (Alt a b) n o m p → IsFollow a n o m p
      follow' o m p r (inl h) = h
      follow' o m p r (inr h) = apart n (sets a) (sets b) o r (follow_range b (n + sets a) o m p h).from

  keeps_other : (a b : FormulaTree) (n : ℕ) → Keeps (Alt a b) b n (n + sets a)
  keeps_other a b n = record { has = has'; follow = follow' }
    where
      has' : (o : ℕ) (c : List Bool) → InRange (n + sets a) (sets b) o → HasSet (Alt a b) n o c → HasSet b (n + sets a) o c
      has' o c r (inl h) = apart n (sets a) (sets b) o (set_range a n o c h) r
      has' o c r (inr h) = h

      follow' : (o m p : ℕ) → InRange (n + sets a) (sets b) o → IsFollow (Alt a b) n o m p → IsFollow b (n + sets a) o m p
      follow' o m p r (inl h) = apart n (sets a) (sets b) o (follow_range a n o m p h).from r
      follow' o m p r (inr h) = h

  keeps_back : (a b : FormulaTree) (n : ℕ) → Keeps (Cat a b) b n (n + sets a)
  keeps_back a b n = record { has = (keeps_other a b n).has; follow = follow' }
    where
      follow' : (o m p : ℕ) → InRange (n + sets a) (sets b) o → IsFollow (Cat a b) n o m p → IsFollow b (n + sets a) o m p
      follow' o m p r (inl h) = apart n (sets a) (sets b) o (follow_range a n o m p h).from r
      follow' o m p r (inr (inl h)) = h
      follow' o m p r (inr (inr h)) = apart n (sets a) (sets b) o (last_range a n o h.left h.in_left) r

  prefix_reads : (a b : FormulaTree) (n p o : ℕ) → InRange n (sets a) o → Reads A (Cat a b) n p o → Reads A a n p o
  prefix_reads a b n p o r h = record { members = h.members; has_set = pick h.has_set; fits = h.fits }
    where
      pick : HasSet (Cat a b) n o h.members → HasSet a n o h.members
      pick (inl y) = y
      pick (inr y) = apart n (sets a) (sets b) o r (set_range b (n + sets a) o h.members y)

  keeps_option : (a : FormulaTree) (n : ℕ) → Keeps (Opt a) a n n
  keeps_option a n = record { has = λ o c r h. h; follow = λ o m p r h. h }

  keeps_named : (x : ℕ) (a : FormulaTree) (n : ℕ) → Keeps (Capture x a) a n n
  keeps_named x a n = record { has = λ o c r h. h; follow = λ o m p r h. h }

  -- a walk goes from the first part over to the second
  record Over (a b : FormulaTree) (n : ℕ) (u : ℕ → ℕ) (p o q c : ℕ) : Type 0 where
    last : ℕ
    exit : ℕ
    index : ℕ
    entry : ℕ
    first_walk : Walk (IsFollow a n) (Reads A a n) u p o last exit
    next : index ≡ suc last
    joins : Joins (IsLast a n) (IsFirst b (n + sets a)) exit (u index) entry
    reads : Reads A b (n + sets a) index entry
    second : Kept b (n + sets a) u index entry q c

  cut_walk : (a b : FormulaTree) (n : ℕ) (u : ℕ → ℕ) (p o q c : ℕ) → InRange n (sets a) o → Walk (IsFollow (Cat a b) n) (Reads A (Cat a b) n) u p o q c → Kept a n u p o q c ⊎ Over a b n u p o q c
  cut_walk a b n u p o q c r (stop _ _ _ _ e g) =
      let R : ℕ → Type 0 = λ x. InRange n (sets a) x in
      inl (record { walk = stop p o q c e g; range = subst R g r })
  cut_walk a b n u p o q c r (step _ _ s d _ _ e (inl x) h w) =
      let t = (follow_range a n o (u s) d x).to in
      go e x (prefix_reads a b n s d t h) (cut_walk a b n u s d q c t w)
    where
      go : s ≡ suc p → IsFollow a n o (u s) d → Reads A a n s d → Kept a n u s d q c ⊎ Over a b n u s d q c → Kept a n u p o q c ⊎ Over a b n u p o q c
      go e x h (inl k) = inl (record { walk = step p o s d q c e x h k.walk; range = k.range })
      go e x h (inr k) = inr (record {
        last = k.last;
        exit = k.exit;
        index = k.index;
        entry = k.entry;
        first_walk = step p o s d k.last k.exit e x h k.first_walk;
        next = k.next;
        joins = k.joins;
        reads = k.reads;
        second = k.second;
      })
  cut_walk a b n u p o q c r (step _ _ s d _ _ e (inr (inl x)) h w) =
      apart n (sets a) (sets b) o r (follow_range b (n + sets a) o (u s) d x).from
  cut_walk a b n u p o q c r (step _ _ s d _ _ e (inr (inr x)) h w) =
      let t = first_range b (n + sets a) x.right d x.in_right in
      inr (record {
        last = p;
        exit = o;
        index = s;
        entry = d;
        first_walk = stop p o p o refl refl;
        next = e;
        joins = x;
        reads = keeps_reads (Cat a b) b n (n + sets a) s d (keeps_back a b n) t h;
        second = keeps_walk (Cat a b) b n (n + sets a) u s d q c (keeps_back a b n) t w;
      })

  -- the two halves of a concatenation at an index
  record Halves (a b : FormulaTree) (n i j : ℕ) (u : ℕ → ℕ) : Type 0 where
    index : ℕ
    low : i ≤ index
    high : index ≤ j
    left : ℕ
    right : ℕ
    sum : u index ≡ left + right
    in_left : Runs A a n i index (prefix u index left)
    in_right : Runs A b (n + sets a) index j (back u index right)

  crossed_prefix : (a : FormulaTree) (n i x : ℕ) (u : ℕ → ℕ) → IsNull a x → Runs A a n i i (prefix u i x)
  crossed_prefix a n i x u h =
      let N : ℕ → Type 0 = λ m. IsNull a m in
      inl (record { same = refl; null = subst N (sym (prefix_at u i x)) h })

  crossed_back : (b : FormulaTree) (n i j x : ℕ) (u : ℕ → ℕ) → i ≡ j → IsNull b x → Runs A b n i j (back u i x)
  crossed_back b n i j x u e h =
      let N : ℕ → Type 0 = λ m. IsNull b m in
      inl (record { same = e; null = subst N (sym (back_at u i x)) h })

  -- a walk with its own first and last marks
  marked_path : (f : FormulaTree) (n i j entry final exit : ℕ) (u v : ℕ → ℕ) → j ≡ suc final → IsFirst f n (v i) entry → Reads A f n i entry → ((r : ℕ) → i < r → r ≤ final → u r ≡ v r) → Walk (IsFollow f n) (Reads A f n) u i entry final exit → IsLast f n exit (v j) → Path A f n i j v
  marked_path f n i j entry final exit u v e first reads same walk last = record {
    entry = entry;
    exit = exit;
    final = final;
    begins = first;
    reads = reads;
    walk = walk_marks v i entry final exit same walk;
    at_end = e;
    ends = last;
  }

  path_prefix : (a : FormulaTree) (n i m x entry final exit : ℕ) (u : ℕ → ℕ) → m ≡ suc final → i ≤ final → IsFirst a n (u i) entry → Reads A a n i entry → Walk (IsFollow a n) (Reads A a n) u i entry final exit → IsLast a n exit x → Runs A a n i m (prefix u m x)
  path_prefix a n i m x entry final exit u e le first reads walk last =
      let F : ℕ → Type 0 = λ y. IsFirst a n y entry in
      let L : ℕ → Type 0 = λ y. IsLast a n exit y in
      inr (marked_path a n i m entry final exit u (prefix u m x) e (subst F (sym (prefix_before u m x i (omega arith))) first) reads (λ r g h. sym (prefix_before u m x r (omega arith))) walk (subst L (sym (prefix_at u m x)) last))

  path_back : (b : FormulaTree) (n m j x entry final exit : ℕ) (u : ℕ → ℕ) → j ≡ suc final → m ≤ final → IsFirst b n x entry → Reads A b n m entry → Walk (IsFollow b n) (Reads A b n) u m entry final exit → IsLast b n exit (u j) → Runs A b n m j (back u m x)
  path_back b n m j x entry final exit u e le first reads walk last =
      let F : ℕ → Type 0 = λ y. IsFirst b n y entry in
      let L : ℕ → Type 0 = λ y. IsLast b n exit y in
      inr (marked_path b n m j entry final exit u (back u m x) e (subst F (sym (back_at u m x)) first) reads (λ r g h. sym (back_after u m x r g)) walk (subst L (sym (back_after u m x j (omega arith))) last))

  -- what follows a walk that stays in the first part
  stays_halves : (a b : FormulaTree) (n i j : ℕ) (u : ℕ → ℕ) (entry final exit : ℕ) → j ≡ suc final → IsFirst a n (u i) entry → Reads A a n i entry → Kept a n u i entry final exit → IsLast (Cat a b) n exit (u j) → Halves a b n i j u
  stays_halves a b n i j u entry final exit e first reads k (inl h) =
      apart n (sets a) (sets b) exit k.range (last_range b (n + sets a) exit (u j) h)
  stays_halves a b n i j u entry final exit e first reads k (inr h) =
      let le = walk_le i entry final exit k.walk in
      record {
        index = j;
        low = omega (arith, e, le);
        high = omega arith;
        left = h.left;
        right = h.right;
        sum = h.sum;
        in_left = path_prefix a n i j h.left entry final exit u e le first reads k.walk h.in_left;
        in_right = crossed_back b (n + sets a) j j h.right u refl h.in_right;
      }

  over_halves : (a b : FormulaTree) (n i j : ℕ) (u : ℕ → ℕ) (entry final exit : ℕ) → j ≡ suc final → IsFirst a n (u i) entry → Reads A a n i entry → Over a b n u i entry final exit → IsLast (Cat a b) n exit (u j) → Halves a b n i j u
  over_halves a b n i j u entry final exit e first reads k (inl h) =
      let le = walk_le i entry k.last k.exit k.first_walk in
      let le' = walk_le k.index k.entry final exit k.second.walk in
      record {
        index = k.index;
        low = omega (arith, k.next, le);
        high = omega (arith, e, le');
        left = k.joins.left;
        right = k.joins.right;
        sum = k.joins.sum;
        in_left = path_prefix a n i k.index k.joins.left entry k.last k.exit u k.next le first reads k.first_walk k.joins.in_left;
        in_right = path_back b (n + sets a) k.index j k.joins.right k.entry final exit u e le' k.joins.in_right k.reads k.second.walk h;
      }
  over_halves a b n i j u entry final exit e first reads k (inr h) =
      apart n (sets a) (sets b) exit (last_range a n exit h.left h.in_left) k.second.range

  cut_halves : (a b : FormulaTree) (n i j : ℕ) (u : ℕ → ℕ) (entry final exit : ℕ) → j ≡ suc final → IsFirst a n (u i) entry → Reads A a n i entry → Kept a n u i entry final exit ⊎ Over a b n u i entry final exit → IsLast (Cat a b) n exit (u j) → Halves a b n i j u
  cut_halves a b n i j u entry final exit e first reads (inl k) last = stays_halves a b n i j u entry final exit e first reads k last
  cut_halves a b n i j u entry final exit e first reads (inr k) last = over_halves a b n i j u entry final exit e first reads k last

  back_last : (a b : FormulaTree) (n o m : ℕ) → InRange (n + sets a) (sets b) o → IsLast (Cat a b) n o m → IsLast b (n + sets a) o m
  back_last a b n o m r (inl h) = h
  back_last a b n o m r (inr h) = apart n (sets a) (sets b) o (last_range a n o h.left h.in_left) r

  enter_halves : (a b : FormulaTree) (n i j : ℕ) (u : ℕ → ℕ) (entry final exit : ℕ) → j ≡ suc final → IsFirst (Cat a b) n (u i) entry → Reads A (Cat a b) n i entry → Walk (IsFollow (Cat a b) n) (Reads A (Cat a b) n) u i entry final exit → IsLast (Cat a b) n exit (u j) → Halves a b n i j u
  enter_halves a b n i j u entry final exit e (inl first) reads walk last =
      let r = first_range a n (u i) entry first in
      cut_halves a b n i j u entry final exit e first (prefix_reads a b n i entry r reads) (cut_walk a b n u i entry final exit r walk) last
  enter_halves a b n i j u entry final exit e (inr first) reads walk last =
      let r = first_range b (n + sets a) first.right entry first.in_right in
      let k = keeps_walk (Cat a b) b n (n + sets a) u i entry final exit (keeps_back a b n) r walk in
      let le = walk_le i entry final exit k.walk in
      record {
        index = i;
        low = omega arith;
        high = omega (arith, e, le);
        left = first.left;
        right = first.right;
        sum = first.sum;
        in_left = crossed_prefix a n i first.left u first.in_left;
        in_right = path_back b (n + sets a) i j first.right entry final exit u e le first.in_right (keeps_reads (Cat a b) b n (n + sets a) i entry (keeps_back a b n) r reads) k.walk (back_last a b n exit (u j) k.range last);
      }

  halves : (a b : FormulaTree) (n i j : ℕ) (u : ℕ → ℕ) → Runs A (Cat a b) n i j u → Halves a b n i j u
  halves a b n i j u (inl h) = record {
    index = i;
    low = omega arith;
    high = omega (arith, h.same);
    left = h.null.left;
    right = h.null.right;
    sum = h.null.sum;
    in_left = crossed_prefix a n i h.null.left u h.null.in_left;
    in_right = crossed_back b (n + sets a) i j h.null.right u h.same h.null.in_right;
  }
  halves a b n i j u (inr h) = enter_halves a b n i j u h.entry h.final h.exit h.at_end h.begins h.reads h.walk h.ends

  -- without variables every mark is 0
  walk_zero : (f : FormulaTree) (n : ℕ) (u : ℕ → ℕ) (p o q c : ℕ) → NoVars f → Walk (IsFollow f n) (Reads A f n) u p o q c → (r : ℕ) → p < r → r ≤ q → u r ≡ 0
  walk_zero f n u p o q c z (stop _ _ _ _ e g) r lt le = absurd (omega arith)
  walk_zero f n u p o q c z (step _ _ s d _ _ e x h w) r lt le =
      go (λ k. walk_zero f n u s d q c z w r k le) (three r s)
    where
      go : (s < r → u r ≡ 0) → (r < s) ⊎ ((r ≡ s) ⊎ (s < r)) → u r ≡ 0
      go later (inl k) = absurd (omega arith)
      go later (inr (inl k)) = ap u k ∙ follow_zero f n o (u s) d z x
      go later (inr (inr k)) = later k

  runs_zero : (f : FormulaTree) (n i j : ℕ) (u : ℕ → ℕ) → NoVars f → IsInside i j u → Runs A f n i j u → IsZero u
  runs_zero f n i j u z d (inl h) = record { at = λ p. go p (three p i) }
    where
      go : (p : ℕ) → (p < i) ⊎ ((p ≡ i) ⊎ (i < p)) → u p ≡ 0
      go p (inl k) = d.below p k
      go p (inr (inl k)) = ap u k ∙ null_zero f (u i) z h.null
      go p (inr (inr k)) = d.above p (omega (arith, h.same))
  runs_zero f n i j u z d (inr h) = record { at = λ p. go p (three p i) }
    where
      later : (p : ℕ) → i < p → (p < j) ⊎ ((p ≡ j) ⊎ (j < p)) → u p ≡ 0
      later p lt (inl k) = walk_zero f n u i h.entry h.final h.exit z h.walk p lt (omega (arith, h.at_end))
      later p lt (inr (inl k)) = ap u k ∙ border_zero f n (u j) h.exit z (inr h.ends)
      later p lt (inr (inr k)) = d.above p k

      go : (p : ℕ) → (p < i) ⊎ ((p ≡ i) ⊎ (i < p)) → u p ≡ 0
      go p (inl k) = d.below p k
      go p (inr (inl k)) = ap u k ∙ border_zero f n (u i) h.entry z (inl h.begins)
      go p (inr (inr k)) = later p k (three p j)

  turns_up : {P : ℕ → ℕ → Type 0} (i j : ℕ) → Turns P i j → i ≤ j
  turns_up i j (done _ _ e) = omega arith
  turns_up i j (more _ m _ lt le h t) = omega arith

  -- the rest of the turn that a walk is in, and the turns after it
  record Tail (a : FormulaTree) (n p o q : ℕ) : Type 0 where
    final : ℕ
    exit : ℕ
    walk : Walk (IsFollow a n) (Reads A a n) zeros p o final exit
    last : IsLast a n exit 0
    turns : Turns (λ g h. Words A a g h zeros) (suc final) (suc q)

  plain_reads : (a : FormulaTree) (n p o : ℕ) → Reads A (Star a) n p o → Reads A a n p o
  plain_reads a n p o h = record { members = h.members; has_set = h.has_set; fits = h.fits }

  tail : (a : FormulaTree) (n p o q c : ℕ) → ((g h : ℕ) → Path A a n g h zeros → Words A a g h zeros) → IsLast a n c 0 → Walk (IsFollow (Star a) n) (Reads A (Star a) n) zeros p o q c → Tail a n p o q
  tail a n p o q c each l (stop _ _ _ _ e g) =
      let L : ℕ → Type 0 = λ x. IsLast a n x 0 in
      record { final = p; exit = o; walk = stop p o p o refl refl; last = subst L (sym g) l; turns = done (suc p) (suc q) (ap suc e) }
  tail a n p o q c each l (step _ _ s d _ _ e (inl x) h w) =
      let t = tail a n s d q c each l w in
      record { final = t.final; exit = t.exit; walk = step p o s d t.final t.exit e x (plain_reads a n s d h) t.walk; last = t.last; turns = t.turns }
  tail a n p o q c each l (step _ _ s d _ _ e (inr x) h w) =
      let t = tail a n s d q c each l w in
      let le = walk_le s d t.final t.exit t.walk in
      let up = turns_up (suc t.final) (suc q) t.turns in
      let L : ℕ → Type 0 = λ y. IsLast a n o y in
      let F : ℕ → Type 0 = λ y. IsFirst a n y d in
      let zl : x.left ≡ 0 = omega (arith, x.sum) in
      let zr : x.right ≡ 0 = omega (arith, x.sum) in
      let path : Path A a n s (suc t.final) zeros = record {
        entry = d;
        exit = t.exit;
        final = t.final;
        begins = subst F zr x.in_right;
        reads = plain_reads a n s d h;
        walk = t.walk;
        at_end = refl;
        ends = t.last;
      } in
      let T : ℕ → Type 0 = λ y. Turns (λ g h. Words A a g h zeros) y (suc q) in
      record {
        final = p;
        exit = o;
        walk = stop p o p o refl refl;
        last = subst L zl x.in_left;
        turns = subst T e (more s (suc t.final) (suc q) (omega arith) up (each s (suc t.final) path) t.turns);
      }

  -- a first turn, and the turns after it
  record OneMore (a : FormulaTree) (i j : ℕ) : Type 0 where
    index : ℕ
    low : i < index
    high : index ≤ j
    turn : Words A a i index zeros
    turns : Turns (λ g h. Words A a g h zeros) index j

  one_more : (a : FormulaTree) (n i j : ℕ) → ((g h : ℕ) → Path A a n g h zeros → Words A a g h zeros) → Path A (Star a) n i j zeros → OneMore a i j
  one_more a n i j each p =
      let t = tail a n i p.entry p.final p.exit each p.ends p.walk in
      let le = walk_le i p.entry t.final t.exit t.walk in
      let up = turns_up (suc t.final) (suc p.final) t.turns in
      let T : ℕ → Type 0 = λ y. Turns (λ g h. Words A a g h zeros) (suc t.final) y in
      record {
        index = suc t.final;
        low = omega arith;
        high = omega (arith, up, p.at_end);
        turn = each i (suc t.final) (record {
          entry = p.entry;
          exit = t.exit;
          final = t.final;
          begins = p.begins;
          reads = plain_reads a n i p.entry p.reads;
          walk = t.walk;
          at_end = refl;
          ends = t.last;
        });
        turns = subst T (sym p.at_end) t.turns;
      }

  star_words : (a : FormulaTree) (n i j : ℕ) → ((g h : ℕ) → Path A a n g h zeros → Words A a g h zeros) → Runs A (Star a) n i j zeros → Turns (λ g h. Words A a g h zeros) i j
  star_words a n i j each (inl h) = done i j h.same
  star_words a n i j each (inr h) = let m = one_more a n i j each h in more i m.index j m.low m.high m.turn m.turns

  to_star : (a : FormulaTree) (n i j : ℕ) → Path A (Plus a) n i j zeros → Path A (Star a) n i j zeros
  to_star a n i j p = record {
    entry = p.entry;
    exit = p.exit;
    final = p.final;
    begins = p.begins;
    reads = record { members = p.reads.members; has_set = p.reads.has_set; fits = p.reads.fits };
    walk = walk_more i p.entry p.final p.exit (λ o m d h. h) (λ r d h. record { members = h.members; has_set = h.has_set; fits = h.fits }) p.walk;
    at_end = p.at_end;
    ends = p.ends;
  }

  -- a part that a walk does not leave, with its own first and last marks
  kept_path : (f a : FormulaTree) (l n i j entry final exit : ℕ) (u v : ℕ → ℕ) → Keeps f a l n → j ≡ suc final → IsFirst a n (v i) entry → Reads A f l i entry → ((r : ℕ) → i < r → r < j → u r ≡ v r) → Walk (IsFollow f l) (Reads A f l) u i entry final exit → (InRange n (sets a) exit → IsLast a n exit (v j)) → Path A a n i j v
  kept_path f a l n i j entry final exit u v k e first reads same walk last =
      let r = first_range a n (v i) entry first in
      let w = keeps_walk f a l n u i entry final exit k r walk in
      marked_path a n i j entry final exit u v e first (keeps_reads f a l n i entry k r reads) (λ x g h. same x g (omega arith)) w.walk (last w.range)

  one_last : (a b : FormulaTree) (n o m : ℕ) → InRange n (sets a) o → IsLast (Alt a b) n o m → IsLast a n o m
  one_last a b n o m r (inl h) = h
  one_last a b n o m r (inr h) = apart n (sets a) (sets b) o r (last_range b (n + sets a) o m h)

  other_last : (a b : FormulaTree) (n o m : ℕ) → InRange (n + sets a) (sets b) o → IsLast (Alt a b) n o m → IsLast b (n + sets a) o m
  other_last a b n o m r (inl h) = apart n (sets a) (sets b) o (last_range a n o m h) r
  other_last a b n o m r (inr h) = h

  either_path : (a b : FormulaTree) (n i j : ℕ) (u : ℕ → ℕ) (p : Path A (Alt a b) n i j u) → IsFirst (Alt a b) n (u i) p.entry → Path A a n i j u ⊎ Path A b (n + sets a) i j u
  either_path a b n i j u p (inl h) = inl (kept_path (Alt a b) a n n i j p.entry p.final p.exit u u (keeps_one a b n) p.at_end h p.reads (λ r g k. refl) p.walk (λ r. one_last a b n p.exit (u j) r p.ends))
  either_path a b n i j u p (inr h) = inr (kept_path (Alt a b) b n (n + sets a) i j p.entry p.final p.exit u u (keeps_other a b n) p.at_end h p.reads (λ r g k. refl) p.walk (λ r. other_last a b n p.exit (u j) r p.ends))

  either_runs : (a b : FormulaTree) (n i j : ℕ) (u : ℕ → ℕ) → Runs A (Alt a b) n i j u → Runs A a n i j u ⊎ Runs A b (n + sets a) i j u
  either_runs a b n i j u (inl h) = go h.null
    where
      go : IsNull (Alt a b) (u i) → Runs A a n i j u ⊎ Runs A b (n + sets a) i j u
      go (inl k) = inl (inl (record { same = h.same; null = k }))
      go (inr k) = inr (inl (record { same = h.same; null = k }))
  either_runs a b n i j u (inr h) = go (either_path a b n i j u h h.begins)
    where
      go : Path A a n i j u ⊎ Path A b (n + sets a) i j u → Runs A a n i j u ⊎ Runs A b (n + sets a) i j u
      go (inl k) = inl (inr k)
      go (inr k) = inr (inr k)

  option_runs : (a : FormulaTree) (n i j : ℕ) (u : ℕ → ℕ) → IsInside i j u → Runs A (Opt a) n i j u → ((i ≡ j) × IsZero u) ⊎ Runs A a n i j u
  option_runs a n i j u d (inl h) = go h.null
    where
      zero_at : u i ≡ 0 → (p : ℕ) → (p < i) ⊎ ((p ≡ i) ⊎ (i < p)) → u p ≡ 0
      zero_at z p (inl k) = d.below p k
      zero_at z p (inr (inl k)) = ap u k ∙ z
      zero_at z p (inr (inr k)) = d.above p (omega (arith, h.same))

      go : IsNull (Opt a) (u i) → ((i ≡ j) × IsZero u) ⊎ Runs A a n i j u
      go (inl k) = inl (h.same, record { at = λ p. zero_at k p (three p i) })
      go (inr k) = inr (inl (record { same = h.same; null = k }))
  option_runs a n i j u d (inr h) = inr (inr (kept_path (Opt a) a n n i j h.entry h.final h.exit u u (keeps_option a n) h.at_end h.begins h.reads (λ r g k. refl) h.walk (λ r. h.ends)))

  record Inner (x : ℕ) (a : FormulaTree) (n i j : ℕ) (u : ℕ → ℕ) : Type 0 where
    marks : ℕ → ℕ
    inside : IsInside i j marks
    sum : (p : ℕ) → u p ≡ at_position i (opening x) p + at_position j (closing x) p + marks p
    runs : Runs A a n i j marks

  named_inner : (x : ℕ) (a : FormulaTree) (n i j : ℕ) (u : ℕ → ℕ) → IsInside i j u → Runs A (Capture x a) n i j u → Inner x a n i j u
  named_inner x a n i j u d (inl h) =
      let y = h.null.0 in
      let N : ℕ → Type 0 = λ m. IsNull a m in
      let D : ℕ → Type 0 = λ m. IsInside i m u in
      let S : ℕ → Type 0 = λ m. (p : ℕ) → u p ≡ at_position i (opening x) p + at_position m (closing x) p + at_position i y p in
      record {
        marks = at_position i y;
        inside = record {
          below = λ p k. at_other i y p (λ e. absurd (omega arith));
          above = λ p k. at_other i y p (λ e. absurd (omega (arith, h.same)));
        };
        sum = subst S h.same (single_sum u i y (opening x) (closing x) (subst D (sym h.same) d) h.null.2);
        runs = inl (record { same = h.same; null = subst N (sym (at_same i y)) h.null.1 });
      }
  named_inner x a n i j u d (inr h) =
      let y = h.begins.0 in
      let z = h.ends.0 in
      let lt = path_less A (Capture x a) n i j u h in
      let F : ℕ → Type 0 = λ m. IsFirst a n m h.entry in
      let L : ℕ → Type 0 = λ m. IsLast a n h.exit m in
      let v = bordered u i y j z in
      record {
        marks = v;
        inside = record {
          below = λ p k. bordered_else u i y j z p (λ e. absurd (omega arith)) (λ e. absurd (omega arith)) ∙ d.below p k;
          above = λ p k. bordered_else u i y j z p (λ e. absurd (omega arith)) (λ e. absurd (omega arith)) ∙ d.above p k;
        };
        sum = bordered_sum u i y j z (opening x) (closing x) lt h.begins.2 h.ends.2;
        runs = inr (kept_path (Capture x a) a n n i j h.entry h.final h.exit u v (keeps_named x a n) h.at_end (subst F (sym (bordered_first u i y j z)) h.begins.1) h.reads (λ r g k. sym (bordered_else u i y j z r (λ e. absurd (omega arith)) (λ e. absurd (omega arith)))) h.walk (λ r. subst L (sym (bordered_second u i y j z lt)) h.ends.1));
      }

  one_of : {P Q R S : Type 0} → (P → R) → (Q → S) → P ⊎ Q → R ⊎ S
  one_of f g (inl h) = inl (f h)
  one_of f g (inr h) = inr (g h)

  zeros_inside : (i j : ℕ) → IsInside i j zeros
  zeros_inside i j = record { below = λ p h. refl; above = λ p h. refl }

  -- zero at two positions next to each other, or at one, and so everywhere
  near_zero : (i j : ℕ) (u : ℕ → ℕ) → IsInside i j u → j ≤ suc i → u i ≡ 0 → u j ≡ 0 → IsZero u
  near_zero i j u d le zi zj = record { at = λ p. go p (three p i) (three p j) }
    where
      go : (p : ℕ) → (p < i) ⊎ ((p ≡ i) ⊎ (i < p)) → (p < j) ⊎ ((p ≡ j) ⊎ (j < p)) → u p ≡ 0
      go p (inl k) _ = d.below p k
      go p (inr (inl k)) _ = ap u k ∙ zi
      go p (inr (inr k)) (inl l) = absurd (omega arith)
      go p (inr (inr k)) (inr (inl l)) = ap u l ∙ zj
      go p (inr (inr k)) (inr (inr l)) = d.above p l

  letter_walk : (b : List Bool) (n : ℕ) (u : ℕ → ℕ) (p o q c : ℕ) → Walk (IsFollow (Set b) n) (Reads A (Set b) n) u p o q c → p ≡ q
  letter_walk b n u p o q c (stop _ _ _ _ e g) = e
  letter_walk b n u p o q c (step _ _ s d _ _ e x h w) = absurd x

  letter_words : (b : List Bool) (n i j : ℕ) (u : ℕ → ℕ) → IsInside i j u → Runs A (Set b) n i j u → Words A (Set b) i j u
  letter_words b n i j u d (inl h) = absurd h.null
  letter_words b n i j u d (inr h) =
      let e = letter_walk b n u i h.entry h.final h.exit h.walk in
      let next : j ≡ suc i = omega (arith, h.at_end, e) in
      let B : List Bool → Type 0 = λ x. A i x in
      (next, subst B h.reads.has_set.1 h.reads.fits, near_zero i j u d (omega arith) h.begins.0 h.ends.1)

  blank_words : (n i j : ℕ) (u : ℕ → ℕ) → IsInside i j u → Runs A Empty n i j u → Words A Empty i j u
  blank_words n i j u d (inl h) =
      (h.same, near_zero i j u d (omega (arith, h.same)) h.null (ap u (sym h.same) ∙ h.null))
  blank_words n i j u d (inr h) = absurd h.begins

  plus_words : (a : FormulaTree) (n i j : ℕ) (u : ℕ → ℕ) → IsZero u → ((g h : ℕ) → Runs A a n g h zeros → Words A a g h zeros) → Runs A (Plus a) n i j zeros → Words A (Plus a) i j u
  plus_words a n i j u z each (inl h) =
      (z, i, omega arith, omega (arith, h.same), each i i (inl (record { same = refl; null = h.null })), done i j h.same)
  plus_words a n i j u z each (inr h) =
      let m = one_more a n i j (λ g k p. each g k (inr p)) (to_star a n i j h) in
      (z, m.index, omega (arith, m.low), m.high, m.turn, m.turns)

  pub decompose : (f : FormulaTree) (n i j : ℕ) (u : ℕ → ℕ) → StarsPlain f → IsInside i j u → Runs A f n i j u → Words A f i j u
  decompose (Set b) n i j u pl d h = letter_words b n i j u d h
  decompose Empty n i j u pl d h = blank_words n i j u d h
  decompose (Cat a b) n i j u pl d h =
      let k = halves a b n i j u h in
      record {
        index = k.index;
        low = k.low;
        high = k.high;
        left = prefix u k.index k.left;
        right = back u k.index k.right;
        in_left = decompose a n i k.index (prefix u k.index k.left) pl.0 (prefix_inside i j k.index k.left u d k.low) k.in_left;
        in_right = decompose b (n + sets a) k.index j (back u k.index k.right) pl.1 (back_inside i j k.index k.right u d k.high) k.in_right;
        sum = prefix_back u k.index k.left k.right k.sum;
      }
  decompose (Alt a b) n i j u pl d h =
      one_of (decompose a n i j u pl.0 d) (decompose b (n + sets a) i j u pl.1 d) (either_runs a b n i j u h)
  decompose (Star a) n i j u pl d h =
      let z = runs_zero (Star a) n i j u (record { none = pl.1.none }) d h in
      let R : (ℕ → ℕ) → Type 0 = λ x. Runs A (Star a) n i j x in
      (z, star_words a n i j (λ g k p. decompose a n g k zeros pl.0 (zeros_inside g k) (inr p)) (subst R (zeros_path u z) h))
  decompose (Plus a) n i j u pl d h =
      let z = runs_zero (Plus a) n i j u (record { none = pl.1.none }) d h in
      let R : (ℕ → ℕ) → Type 0 = λ x. Runs A (Plus a) n i j x in
      plus_words a n i j u z (λ g k p. decompose a n g k zeros pl.0 (zeros_inside g k) p) (subst R (zeros_path u z) h)
  decompose (Opt a) n i j u pl d h =
      one_of (λ k. k) (decompose a n i j u pl d) (option_runs a n i j u d h)
  decompose (Capture x a) n i j u pl d h =
      let k = named_inner x a n i j u d h in
      record { inner = k.marks; within = decompose a n i j k.marks pl k.inside k.runs; sum = k.sum }
