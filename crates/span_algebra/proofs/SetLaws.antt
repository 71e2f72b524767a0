-- Occurrences that stand for others, with the same steps and ends, have the same reached sets and automata.
use Rattle.std.proofs.Common.{◌≡◌, ℕ, zero, suc, ◌<◌, ◌==◌, ◌↔◌, ◌⊎◌, inl, inr, true, false, List, [], ◌∷◌, length, replicate, set, Some, None, slice_get, get_or, refl, sym, ap, subst, ◌∙◌, arith, get_or-set_other, get_or-set_same}
use Rattle.std.proofs.lemmas.List.{length-replicate}
use Rattle.std.proofs.lemmas.Bool.Decides.{eqb_tells}
use Rattle.std.proofs.lemmas.Option.{slice_get-get_or}
use Rattle.std.proofs.Math.ListN.{length-set}
use Rattle.formula_law.specs.Accepts.{Reaches}
use Rattle.marker_nfa.specs.Automaton.{Automaton, MayEnd, Moves}
use Rattle.marker_dfa.specs.Reached.{AreReached, CountIsAbove, IsIn, IsMove, IsReached, Subset, next, start, start_set}
use Rattle.marker_dfa.specs.Deterministic.{DeterministicAutomaton, IsAutomatonOf}
use Rattle.marker_dfa.proofs.Lists.{get_within, one_value}
use Rattle.marker_dfa.proofs.Tracks.{blank_out, in_within, same_set, single_in, single_only, single_size}
use Rattle.span_algebra.specs.Making.{HasParts}
use Rattle.span_algebra.specs.Products.{HasNumbered}

-- R pairs occurrences of two step relations, one with one, the starts with one another, and steps and ends go with it
pub record AreMatched (n k : ℕ) (S T : ℕ → ℕ → ℕ → ℕ → Type 0) (E F : ℕ → ℕ → Type 0) (R : ℕ → ℕ → Type 0) : Type 0 where
  pub starts : R 0 0
  pub within : (o u : ℕ) → R o u → o < n ↔ u < k
  pub one_right : (o u v : ℕ) → R o u → R o v → u ≡ v
  pub one_left : (o p u : ℕ) → R o u → R p u → o ≡ p
  pub forth : (o u m b p : ℕ) → R o u → S o m b p → (v : ℕ) × T u m b v × R p v
  pub back : (o u m b v : ℕ) → R o u → T u m b v → (p : ℕ) × S o m b p × R p v
  pub ends : (o u m : ℕ) → R o u → E o m ↔ F u m

pub turned : {n k : ℕ} {S T : ℕ → ℕ → ℕ → ℕ → Type 0} {E F : ℕ → ℕ → Type 0} {R : ℕ → ℕ → Type 0} → AreMatched n k S T E F R → AreMatched k n T S F E (λ u o. R o u)
turned h = record {
  starts = h.starts;
  within = λ u o r. (let w = h.within o u r in (w.1, w.0));
  one_right = λ u o p r s. h.one_left o p u r s;
  one_left = λ u v o r s. h.one_right o u v r s;
  forth = λ u o m b v r t. h.back o u m b v r t;
  back = λ u o m b p r s. h.forth o u m b p r s;
  ends = λ u o m r. (let e = h.ends o u m r in (e.1, e.0));
}

-- an automaton's states are the occurrences
pub parts-matched : {n : ℕ} {Step : ℕ → ℕ → ℕ → ℕ → Type 0} {End : ℕ → ℕ → Type 0} {a : Automaton} → HasParts n Step End a → AreMatched a.states n (Moves a) Step (MayEnd a) End (λ o u. o ≡ u)
parts-matched {Step = Step} {End = End} {a = a} is = record {
  starts = refl;
  within = λ o u e. ((λ lt. omega (arith, lt, e, is.states)), (λ lt. omega (arith, lt, e, is.states)));
  one_right = λ o u v x y. sym x ∙ y;
  one_left = λ o p u x y. x ∙ sym y;
  forth = λ o u m b p e s. (p, is.step_to u m b p (subst (λ (z : ℕ). Moves a z m b p) e s), refl);
  back = λ o u m b p e s. (p, is.step_from o m b p (subst (λ (z : ℕ). Step z m b p) (sym e) s), refl);
  ends = λ o u m e. ((λ x. is.end_to u m (subst (λ (z : ℕ). MayEnd a z m) e x)), (λ x. is.end_from o m (subst (λ (z : ℕ). End z m) (sym e) x)));
}

-- its states are the places of the occurrences
pub numbered-matched : {n : ℕ} {Step : ℕ → ℕ → ℕ → ℕ → Type 0} {End : ℕ → ℕ → Type 0} {pairs : List ℕ} {a : Automaton} → HasNumbered n Step End pairs a → AreMatched a.states n (Moves a) Step (MayEnd a) End (λ i o. slice_get pairs i ≡ Some o)
numbered-matched {Step = Step} {End = End} {pairs = pairs} is = record {
  starts = is.start;
  within = λ i o e. ((λ lt. is.within i o e), (λ lt. omega (arith, get_within pairs i o e, is.states)));
  one_right = one_value pairs;
  one_left = is.apart;
  forth = λ i o m b j e s. (let g = is.step_to i m b j s in (g.1, subst (λ (x : ℕ). Step x m b g.1) (one_value pairs i g.0 o g.2 e) g.4, g.3));
  back = λ i o m b p e s. (let g = is.step_from i o m b p e s in (g.0, g.2, g.1));
  ends = λ i o m e. ((λ x. (let g = is.end_to i m x in subst (λ (z : ℕ). End z m) (one_value pairs i g.0 o g.1 e) g.2)), is.end_from i o m e);
}

put-in : (l : Subset) (n : ℕ) → n < length l → IsIn (set l n true) n
put-in l n lt = get_or-set_same l n true false lt

put-old : (l : Subset) (n b : ℕ) → IsIn l b → IsIn (set l n true) b
put-old l n b h = by (eqb_tells b n)
  where
    by : ((b == n ≡ true) × (b ≡ n)) ⊎ ((b == n ≡ false) × (b ≡ n → ⊥)) → IsIn (set l n true) b
    by (inl e) = subst (λ (k : ℕ). IsIn (set l k true) b) e.1 (get_or-set_same l b true false (in_within l b h))
    by (inr ne) = get_or-set_other l n b true false ne.1 ∙ h

put-new : (l : Subset) (n b : ℕ) → IsIn (set l n true) b → (b ≡ n) ⊎ IsIn l b
put-new l n b h = by (eqb_tells b n)
  where
    by : ((b == n ≡ true) × (b ≡ n)) ⊎ ((b == n ≡ false) × (b ≡ n → ⊥)) → (b ≡ n) ⊎ IsIn l b
    by (inl e) = inl e.1
    by (inr ne) = inr (sym (get_or-set_other l n b true false ne.1) ∙ h)

pub at-index : {X : Type 0} (xs : List X) (q : ℕ) → q < length xs → (x : X) × (slice_get xs q ≡ Some x)
at-index [] q lt = absurd (omega (arith, lt))
at-index (x ∷ xs) q lt = (get_or (x ∷ xs) q x, slice_get-get_or (x ∷ xs) q x lt)

-- a list with a partner at each index
choose-all : {X : Type 0} (P : X → X → Type 0) (xs : List X) → ((q : ℕ) (x : X) → slice_get xs q ≡ Some x → (y : X) × P x y) → (ys : List X) × (length ys ≡ length xs) × ((q : ℕ) (y : X) → slice_get ys q ≡ Some y → (x : X) × (slice_get xs q ≡ Some x) × P x y)
choose-all {X} P [] f = ([], refl, λ q y e. (let bad : None ≡ Some y = e in absurd (cc)))
choose-all {X} P (x ∷ xs) f =
    let first = f 0 x refl in
    let rest = choose-all P xs (λ q y e. f (suc q) y e) in
    (first.0 ∷ rest.0, ap suc rest.1, λ q y e. at first.0 rest.0 first.1 rest.2 q y e)
  where
    at : (z : X) (ys : List X) → P x z → ((q : ℕ) (y : X) → slice_get ys q ≡ Some y → (w : X) × (slice_get xs q ≡ Some w) × P w y) → (q : ℕ) (y : X) → slice_get (z ∷ ys) q ≡ Some y → (w : X) × (slice_get (x ∷ xs) q ≡ Some w) × P w y
    at z ys h g zero y e = let same : z ≡ y = cc in (x, refl, subst (λ (v : X). P x v) same h)
    at z ys h g (suc q) y e = g q y e

-- the members of either set are the partners of the other's
pub record IsImage (n k : ℕ) (R : ℕ → ℕ → Type 0) (x y : Subset) : Type 0 where
  pub size : length x ≡ n
  pub other_size : length y ≡ k
  pub to : (o : ℕ) → IsIn x o → (u : ℕ) × R o u × IsIn y u
  pub from : (u : ℕ) → IsIn y u → (o : ℕ) × R o u × IsIn x o

flipped : {n k : ℕ} {R : ℕ → ℕ → Type 0} {x y : Subset} → IsImage n k R x y → IsImage k n (λ u o. R o u) y x
flipped g = record { size = g.other_size; other_size = g.size; to = g.from; from = g.to }

-- the image of a set whose members have partners
image-without : (n k : ℕ) (R : ℕ → ℕ → Type 0) (x y : Subset) → IsImage n k (λ o u. R (suc o) u) x y → IsImage (suc n) k R (false ∷ x) y
image-without n k R x y g = record { size = ap suc g.size; other_size = g.other_size; to = to; from = λ u i. (let o = g.from u i in (suc o.0, o.1, o.2)) }
  where
    to : (o : ℕ) → IsIn (false ∷ x) o → (u : ℕ) × R o u × IsIn y u
    to zero i = let bad : false ≡ true = i in absurd (cc)
    to (suc o) i = g.to o i

image-with : (n k : ℕ) (R : ℕ → ℕ → Type 0) (x y : Subset) (u : ℕ) → R 0 u → u < k → IsImage n k (λ o u. R (suc o) u) x y → IsImage (suc n) k R (true ∷ x) (set y u true)
image-with n k R x y u r lt g = record { size = ap suc g.size; other_size = length-set y u true ∙ g.other_size; to = to; from = λ v i. from v (put-new y u v i) }
  where
    to : (o : ℕ) → IsIn (true ∷ x) o → (v : ℕ) × R o v × IsIn (set y u true) v
    to zero i = (u, r, put-in y u (omega (arith, lt, g.other_size)))
    to (suc o) i = let v = g.to o i in (v.0, v.1, put-old y u v.0 v.2)

    from : (v : ℕ) → (v ≡ u) ⊎ IsIn y v → (o : ℕ) × R o v × IsIn (true ∷ x) o
    from v (inl e) = (0, subst (λ (w : ℕ). R 0 w) (sym e) r, refl)
    from v (inr i) = let o = g.from v i in (suc o.0, o.1, o.2)

image-of : (k : ℕ) (R : ℕ → ℕ → Type 0) (x : Subset) → ((o : ℕ) → IsIn x o → (u : ℕ) × R o u × (u < k)) → (y : Subset) × IsImage (length x) k R x y
image-of k R [] f = (
  replicate k false,
  record {
    size = refl;
    other_size = length-replicate k false;
    to = λ o i. (let bad : false ≡ true = i in absurd (cc));
    from = λ u i. (let bad : true ≡ false = sym i ∙ blank_out k u in absurd (cc));
  },
)
image-of k R (false ∷ x) f =
    let g = image-of k (λ o u. R (suc o) u) x (λ o i. f (suc o) i) in
    (g.0, image-without (length x) k R x g.0 g.1)
image-of k R (true ∷ x) f =
    let g = image-of k (λ o u. R (suc o) u) x (λ o i. f (suc o) i) in
    let u = f 0 refl in
    (set g.0 u.0 true, image-with (length x) k R x g.0 u.0 u.1 u.2 g.1)

module _ {n k : ℕ} {S T : ℕ → ℕ → ℕ → ℕ → Type 0} {E F : ℕ → ℕ → Type 0} {R : ℕ → ℕ → Type 0} (h : AreMatched n k S T E F R) where
  one-image : (x y z : Subset) → IsImage n k R x y → IsImage n k R x z → y ≡ z
  one-image x y z f g = same_set y z (f.other_size ∙ sym g.other_size) (half y z f g) (half z y g f)
    where
      half : (y z : Subset) → IsImage n k R x y → IsImage n k R x z → (u : ℕ) → IsIn y u → IsIn z u
      half y z f g u i =
          let o = f.from u i in
          let v = g.to o.0 o.2 in
          subst (λ (w : ℕ). IsIn z w) (h.one_right o.0 v.0 u v.1 o.1) v.2

  start-image : IsImage n k R (start_set n) (start_set k)
  start-image = record {
    size = single_size n 0;
    other_size = single_size k 0;
    to = λ o i. (0, subst (λ (w : ℕ). R w 0) (sym (single_only n 0 o i)) h.starts, single_in k 0 ((h.within 0 0 h.starts).0 (omega (arith, in_within (start_set n) o i, single_size n 0))));
    from = λ u i. (0, subst (λ (w : ℕ). R 0 w) (sym (single_only k 0 u i)) h.starts, single_in n 0 ((h.within 0 0 h.starts).1 (omega (arith, in_within (start_set k) u i, single_size k 0))));
  }

  -- a move goes with its sets
  moved : (x u : Subset) (m b : ℕ) (y : Subset) → IsImage n k R x u → IsMove n S x m b y → (v : Subset) × IsImage n k R y v × IsMove k T u m b v
  moved x u m b y f mv = by (image-of k R y partner)
    where
      partner : (p : ℕ) → IsIn y p → (q : ℕ) × R p q × (q < k)
      partner p i =
          let o = (mv.members p).0 i in
          let w = f.to o.0 o.1 in
          let s = h.forth o.0 w.0 m b p w.1 o.2 in
          (s.0, s.2, (h.within p s.0 s.2).0 (omega (arith, in_within y p i, mv.size)))

      to : (v : Subset) → IsImage n k R y v → (q : ℕ) → IsIn v q → (w : ℕ) × IsIn u w × T w m b q
      to v g q i =
          let p = g.from q i in
          let o = (mv.members p.0).0 p.2 in
          let w = f.to o.0 o.1 in
          let s = h.forth o.0 w.0 m b p.0 w.1 o.2 in
          (w.0, w.2, subst (λ (z : ℕ). T w.0 m b z) (h.one_right p.0 s.0 q s.2 p.1) s.1)

      from : (v : Subset) → IsImage n k R y v → (q : ℕ) → (w : ℕ) × IsIn u w × T w m b q → IsIn v q
      from v g q c =
          let o = f.from c.0 c.1 in
          let s = h.back o.0 c.0 m b q o.1 c.2 in
          let w = g.to s.0 ((mv.members s.0).1 (o.0, o.2, s.1)) in
          subst (λ (z : ℕ). IsIn v z) (h.one_right s.0 w.0 q w.1 s.2) w.2

      by : (v : Subset) × IsImage (length y) k R y v → (v : Subset) × IsImage n k R y v × IsMove k T u m b v
      by v =
          let g = subst (λ (l : ℕ). IsImage l k R y v.0) mv.size v.1 in
          (v.0, g, record { size = g.other_size; members = λ q. (to v.0 g q, from v.0 g q) })

  reached-image : (x : Subset) → IsReached n S x → (u : Subset) × IsImage n k R x u × IsReached k T u
  reached-image _ start = (start_set k, start-image, start)
  reached-image y (next x _ m b p r mv i) =
      let u = reached-image x r in
      let v = moved x u.0 m b y u.1 mv in
      let q = v.1.to p i in
      (v.0, v.1, next u.0 v.0 m b q.0 u.2 v.2 q.2)

  -- what is read between occurrences is read between their partners
  pub reaches-moved : (w : List (ℕ × ℕ)) (o u q : ℕ) → R o u → Reaches S o w q → (v : ℕ) × R q v × Reaches T u w v
  reaches-moved [] o u q r s = (u, subst (λ (z : ℕ). R z u) s r, refl)
  reaches-moved (c ∷ w) o u q r s =
      let g = h.forth o u c.0 c.1 s.0 r s.1 in
      let v = reaches-moved w s.0 g.0 q g.2 s.2 in
      (v.0, v.1, (g.0, g.1, v.2))

module _ {n k : ℕ} {S T : ℕ → ℕ → ℕ → ℕ → Type 0} {E F : ℕ → ℕ → Type 0} {R : ℕ → ℕ → Type 0} (h : AreMatched n k S T E F R) where
  -- the images of distinct reached sets
  record Images (xs : List Subset) : Type 0 where
    pub list : List Subset
    pub size : length list ≡ length xs
    pub sets : AreReached k T list
    pub to : (q : ℕ) (x u : Subset) → slice_get xs q ≡ Some x → IsImage n k R x u → slice_get list q ≡ Some u
    pub from : (q : ℕ) (u : Subset) → slice_get list q ≡ Some u → (x : Subset) × (slice_get xs q ≡ Some x) × IsImage n k R x u

  images : (xs : List Subset) → AreReached n S xs → Images xs
  images xs are = by (choose-all (λ x u. IsImage n k R x u × IsReached k T u) xs (λ q x e. (let g = reached-image h x (are.reached q x e) in (g.0, (g.1, g.2)))))
    where
      by : (us : List Subset) × (length us ≡ length xs) × ((q : ℕ) (u : Subset) → slice_get us q ≡ Some u → (x : Subset) × (slice_get xs q ≡ Some x) × (IsImage n k R x u × IsReached k T u)) → Images xs
      by us = record { list = us.0; size = us.1; sets = record { apart = apart; reached = λ q u e. (us.2 q u e).2.1 }; to = to; from = λ q u e. (let x = us.2 q u e in (x.0, x.1, x.2.0)) }
        where
          apart : (q r : ℕ) (u : Subset) → slice_get us.0 q ≡ Some u → slice_get us.0 r ≡ Some u → q ≡ r
          apart q r u e f =
              let x = us.2 q u e in
              let y = us.2 r u f in
              are.apart q r x.0 x.1 (subst (λ (z : Subset). slice_get xs r ≡ Some z) (one-image (turned h) u y.0 x.0 (flipped y.2.0) (flipped x.2.0)) y.1)

          to : (q : ℕ) (x u : Subset) → slice_get xs q ≡ Some x → IsImage n k R x u → slice_get us.0 q ≡ Some u
          to q x u e g =
              let v = at-index us.0 q (omega (arith, get_within xs q x e, us.1)) in
              let y = us.2 q v.0 v.1 in
              let same = subst (λ (z : Subset). IsImage n k R z v.0) (one_value xs q y.0 x y.1 e) y.2.0 in
              v.1 ∙ ap Some (one-image h x v.0 u same g)

  -- there are as many reached sets
  pub count-moved : (limit : ℕ) → CountIsAbove limit n S → CountIsAbove limit k T
  count-moved limit c = let us = images c.subsets c.sets in record { subsets = us.list; many = omega (arith, c.many, us.size); sets = us.sets }

  -- an automaton of the ones is one of the others
  pub automaton-moved : (d : DeterministicAutomaton) → IsAutomatonOf n S E d → IsAutomatonOf k T F d
  automaton-moved d f = by (images f.subsets f.sets)
    where
      by : Images f.subsets → IsAutomatonOf k T F d
      by us = record {
        subsets = us.list;
        states = us.size ∙ f.states;
        start = us.to 0 (start_set n) (start_set k) f.start (start-image h);
        sets = us.sets;
        all = λ u r. (let x = reached-image (turned h) u r in let q = f.all x.0 x.2 in (q.0, us.to q.0 x.0 u q.1 (flipped x.1)));
        goes = λ q m b r u e g. (
            let x = us.from q u e in
            let y = f.goes q m b r x.0 x.1 g in
            let v = moved h x.0 u m b y.0 x.2 y.3 in
            let p = v.1.to y.1 y.4 in
            (v.0, p.0, us.to r y.0 v.0 y.2 v.1, v.2, p.2));
        stays = λ q m b u e g o p i s. (
            let x = us.from q u e in
            let z = x.2.from o i in
            let t = h.back z.0 o m b p z.1 s in
            f.stays q m b x.0 x.1 g z.0 t.0 z.2 t.1);
        ends_are = λ q m u e. (
            let x = us.from q u e in
            let are = f.ends_are q m x.0 x.1 in (
              (λ c. (let o = are.0 c in let w = x.2.to o.0 o.1 in (w.0, w.2, (h.ends o.0 w.0 m w.1).0 o.2))),
              (λ c. (let o = x.2.from c.0 c.1 in are.1 (o.0, o.2, (h.ends o.0 c.0 m o.1).1 c.2))),
            ));
      }
