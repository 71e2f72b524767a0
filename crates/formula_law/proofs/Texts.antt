-- Marked texts as lists, and the walks that read them.
use Rattle.std.proofs.Common.{◌≡◌, ℕ, zero, suc, ◌+◌, ◌-◌, ◌<◌, ◌≤◌, Bool, true, false, ◌⊎◌, inl, inr, refl, sym, ap, ap₂, subst, ◌∙◌, arith, List, [], ◌∷◌, length, map, Some, slice_get, slice_index_or}
use Rattle.span_types.specs.FormulaTree.{FormulaTree}
use Rattle.span_types.specs.Fits.{ByteIn}
use Rattle.formula_law.specs.Positions.{HasSet, IsNull, IsFirst, IsLast, IsFollow, IsEdge, IsEnd}
use Rattle.span_types.specs.Words.{word_from}
use Rattle.formula_law.specs.Accepts.{MarkedText, Reaches, Steps}
use Rattle.formula_law.proofs.Ranges.{first_range, last_range, follow_range}
use Rattle.formula_law.proofs.Walk.{Walk, stop, step, walk_le}
use Rattle.formula_law.proofs.Enters.{Reads, Runs}

-- the mark at an index of a marked text, counted from 0
abbrev pub mark_of : List (ℕ × ℕ) → ℕ → ℕ → ℕ
mark_of [] last zero = last
mark_of [] last (suc p) = 0
mark_of (c ∷ w) last zero = c.0
mark_of (c ∷ w) last (suc p) = mark_of w last p

-- the mark at a position
abbrev pub marks_of : MarkedText → ℕ → ℕ
marks_of w zero = 0
marks_of w (suc p) = mark_of w.pairs w.last p

-- the pairs stand in a text with these marks, from a position on
abbrev pub Agrees : (ℕ → ℕ) → List ℕ → ℕ → List (ℕ × ℕ) → Type 0
Agrees u s p [] = Unit {0}
Agrees u s p (c ∷ w) = (u (suc p) ≡ c.0) × (slice_get s p ≡ Some c.1) × Agrees u s (suc p) w

-- what is left of a text at a position
abbrev pub Left : List ℕ → ℕ → List ℕ → Type 0
Left s p rest = (k : ℕ) → slice_get s (p + k) ≡ slice_get rest k

left_next : (s : List ℕ) (p b : ℕ) (rest : List ℕ) → Left s p (b ∷ rest) → Left s (suc p) rest
left_next s p b rest h k = let e : suc p + k ≡ p + suc k = omega arith in ap (λ n. slice_get s n) e ∙ h (suc k)

left_here : (s : List ℕ) (p b : ℕ) (rest : List ℕ) → Left s p (b ∷ rest) → slice_get s p ≡ Some b
left_here s p b rest h = let e : p ≡ p + 0 = omega arith in ap (λ n. slice_get s n) e ∙ h 0

-- the pairs of a marked text agree with its own marks
pub agrees_own : (u : ℕ → ℕ) (s : List ℕ) (last p : ℕ) (w : List (ℕ × ℕ)) → ((k : ℕ) → u (suc p + k) ≡ mark_of w last k) → Left s p (map (λ c. c.1) w) → Agrees u s p w
agrees_own u s last p [] m l = tt
agrees_own u s last p (c ∷ w) m l =
    let e : suc p ≡ suc p + 0 = omega arith in
    (ap u e ∙ m 0, left_here s p c.1 (map (λ c. c.1) w) l, agrees_own u s last (suc p) w (λ k. (let g : suc (suc p) + k ≡ suc p + suc k = omega arith in ap u g ∙ m (suc k))) (left_next s p c.1 (map (λ c. c.1) w) l))

-- and those of a text that is marked
pub agrees_marked : (u : ℕ → ℕ) (s : List ℕ) (p : ℕ) (rest : List ℕ) → Left s p rest → Agrees u s p (word_from u (suc p) rest)
agrees_marked u s p [] l = tt
agrees_marked u s p (b ∷ rest) l =
    (refl, left_here s p b rest l, agrees_marked u s (suc p) rest (left_next s p b rest l))

-- a marked text is its bytes with its marks
pub marked_pairs : (u : ℕ → ℕ) (last p : ℕ) (w : List (ℕ × ℕ)) → ((k : ℕ) → u (p + k) ≡ mark_of w last k) → word_from u p (map (λ c. c.1) w) ≡ w
marked_pairs u last p [] m = refl
marked_pairs u last p (c ∷ w) m =
    let e : p ≡ p + 0 = omega arith in
    let here : u p ≡ c.0 = ap u e ∙ m 0 in
    let rest = marked_pairs u last (suc p) w (λ k. (let g : suc p + k ≡ p + suc k = omega arith in ap u g ∙ m (suc k))) in
    ap₂ (λ x y. (x, c.1) ∷ y) here rest

pub last_mark : (last : ℕ) (w : List (ℕ × ℕ)) → mark_of w last (length (map (λ c. c.1) w)) ≡ last
last_mark last [] = refl
last_mark last (c ∷ w) = last_mark last w

pub past_mark : (last p : ℕ) (w : List (ℕ × ℕ)) → length (map (λ c. c.1) w) < p → mark_of w last p ≡ 0
past_mark last zero [] lt = absurd (omega arith)
past_mark last (suc p) [] lt = refl
past_mark last zero (c ∷ w) lt = absurd (omega arith)
past_mark last (suc p) (c ∷ w) lt = past_mark last p w (omega arith)

module _ (f : FormulaTree) (s : List ℕ) (u : ℕ → ℕ) where
  -- the step of the automaton, from an occurrence
  follow_of : (o m p : ℕ) → 1 ≤ o → IsEdge f o m p → IsFollow f 1 o m p
  follow_of o m p le (inl h) = absurd (omega (arith, h.0))
  follow_of o m p le (inr h) = h

  first_of_edge : (m p : ℕ) → IsEdge f 0 m p → IsFirst f 1 m p
  first_of_edge m p (inl h) = h.1
  first_of_edge m p (inr h) = absurd (omega (arith, (follow_range f 1 0 m p h).from.low))

  reads_of : (p o b : ℕ) (c : List Bool) → slice_get s p ≡ Some b → HasSet f 1 o c → slice_index_or c b false ≡ true → Reads (ByteIn s) f 1 (suc p) o
  reads_of p o b c e h m = record {
    members = c;
    has_set = h;
    fits = record { byte = b; positive = omega arith; there = (let g : suc p - 1 ≡ p = omega arith in ap (λ n. slice_get s n) g ∙ e); is_member = m };
  }

  -- what is left of a marked text is read by a walk
  reaches_walk : (p o q : ℕ) (w : List (ℕ × ℕ)) → 1 ≤ o → Agrees u s p w → Reaches (Steps f) o w q → Walk (IsFollow f 1) (Reads (ByteIn s) f 1) u p o (p + length (map (λ c. c.1) w)) q
  reaches_walk p o q [] le a r = stop p o (p + 0) q (omega arith) r
  reaches_walk p o q (c ∷ w) le a r =
      let d = r.0 in
      let x = follow_of o c.0 d le r.1.edge in
      let low = (follow_range f 1 o c.0 d x).to.low in
      let rest = reaches_walk (suc p) d q w low a.2 r.2 in
      let N : ℕ → Type 0 = λ m. IsFollow f 1 o m d in
      let W : ℕ → Type 0 = λ n. Walk (IsFollow f 1) (Reads (ByteIn s) f 1) u (suc p) d n q in
      let e : suc p + length (map (λ c. c.1) w) ≡ p + suc (length (map (λ c. c.1) w)) = omega arith in
      step p o (suc p) d _ q refl (subst N (sym a.0) x) (reads_of p d c.1 r.1.members a.1 r.1.has_set r.1.is_member) (subst W e rest)

  -- one step of the automaton, from what a walk reads
  steps_of : (p o d m b : ℕ) → u (suc p) ≡ m → slice_get s p ≡ Some b → IsFollow f 1 o (u (suc p)) d ⊎ ((o ≡ 0) × IsFirst f 1 (u (suc p)) d) → Reads (ByteIn s) f 1 (suc p) d → Steps f o m b d
  steps_of p o d m b e there h r =
      let g : suc p - 1 ≡ p = omega arith in
      let same : Some r.fits.byte ≡ Some b = sym r.fits.there ∙ ap (λ n. slice_get s n) g ∙ there in
      let byte : r.fits.byte ≡ b = cc in
      let M : ℕ → Type 0 = λ x. slice_index_or r.members x false ≡ true in
      record { edge = edge h; members = r.members; has_set = r.has_set; is_member = subst M byte r.fits.is_member }
    where
      edge : IsFollow f 1 o (u (suc p)) d ⊎ ((o ≡ 0) × IsFirst f 1 (u (suc p)) d) → IsEdge f o m d
      edge (inl x) = let N : ℕ → Type 0 = λ y. IsFollow f 1 o y d in inr (subst N e x)
      edge (inr x) = let N : ℕ → Type 0 = λ y. IsFirst f 1 y d in inl (x.0, subst N e x.1)

  walk_reaches : (p o q final : ℕ) (w : List (ℕ × ℕ)) → Agrees u s p w → final ≡ p + length (map (λ c. c.1) w) → Walk (IsFollow f 1) (Reads (ByteIn s) f 1) u p o final q → Reaches (Steps f) o w q
  walk_reaches p o q final [] a e (stop _ _ _ _ g h) = h
  walk_reaches p o q final [] a e (step _ _ r d _ _ g x h w) = let le = walk_le r d final q w in absurd (omega (arith, e))
  walk_reaches p o q final (c ∷ w) a e (stop _ _ _ _ g h) = absurd (omega (arith, e))
  walk_reaches p o q final (c ∷ w) a e (step _ _ r d _ _ g x h k) =
      let N : ℕ → Type 0 = λ y. IsFollow f 1 o (u y) d in
      let R : ℕ → Type 0 = λ y. Reads (ByteIn s) f 1 y d in
      let W : ℕ → Type 0 = λ y. Walk (IsFollow f 1) (Reads (ByteIn s) f 1) u y d final q in
      (d, steps_of p o d c.0 c.1 a.0 a.1 (inl (subst N g x)) (subst R g h), walk_reaches (suc p) d q final w a.2 (omega (arith, e)) (subst W g k))

  walk_low : (p o q c : ℕ) → 1 ≤ o → Walk (IsFollow f 1) (Reads (ByteIn s) f 1) u p o q c → 1 ≤ c
  walk_low p o q c le (stop _ _ _ _ e g) = omega (arith, g)
  walk_low p o q c le (step _ _ r d _ _ e x h w) =
      let low = (follow_range f 1 o (u r) d x).to.low in walk_low r d q c low w

  last_of : (o m : ℕ) → 1 ≤ o → IsEnd f o m → IsLast f 1 o m
  last_of o m le (inl h) = absurd (omega (arith, h.0))
  last_of o m le (inr h) = h

  null_of : (m : ℕ) → IsEnd f 0 m → IsNull f m
  null_of m (inl h) = h.1
  null_of m (inr h) = absurd (omega (arith, (last_range f 1 0 m h).low))

  pub accepts_runs : (w : List (ℕ × ℕ)) (q : ℕ) → Agrees u s 0 w → Reaches (Steps f) 0 w q → IsEnd f q (u (suc (length (map (λ c. c.1) w)))) → Runs (ByteIn s) f 1 1 (suc (length (map (λ c. c.1) w))) u
  accepts_runs [] q a r e =
      let E : ℕ → Type 0 = λ x. IsEnd f x (u 1) in
      inl (record { same = refl; null = null_of (u 1) (subst E (sym r) e) })
  accepts_runs (c ∷ w) q a r e =
      let d = r.0 in
      let x = first_of_edge c.0 d r.1.edge in
      let low = (first_range f 1 c.0 d x).low in
      let walk = reaches_walk 1 d q w low a.2 r.2 in
      let F : ℕ → Type 0 = λ m. IsFirst f 1 m d in
      inr (record {
        entry = d;
        exit = q;
        final = 1 + length (map (λ c. c.1) w);
        begins = subst F (sym a.0) x;
        reads = reads_of 0 d c.1 r.1.members a.1 r.1.has_set r.1.is_member;
        walk = walk;
        at_end = omega arith;
        ends = last_of q _ (walk_low 1 d _ q low walk) e;
      })

  pub record Took (w : List (ℕ × ℕ)) (m : ℕ) : Type 0 where
    pub state : ℕ
    pub reaches : Reaches (Steps f) 0 w state
    pub ends : IsEnd f state m

  pub runs_accepts : (w : List (ℕ × ℕ)) → Agrees u s 0 w → Runs (ByteIn s) f 1 1 (suc (length (map (λ c. c.1) w))) u → Took w (u (suc (length (map (λ c. c.1) w))))
  runs_accepts [] a (inl h) = record { state = 0; reaches = refl; ends = inl (refl, h.null) }
  runs_accepts [] a (inr h) = let le = walk_le 1 h.entry h.final h.exit h.walk in absurd (omega (arith, h.at_end))
  runs_accepts (c ∷ w) a (inl h) = absurd (omega (arith, h.same))
  runs_accepts (c ∷ w) a (inr h) = record {
    state = h.exit;
    reaches = (h.entry, steps_of 0 0 h.entry c.0 c.1 a.0 a.1 (inr (refl, h.begins)) h.reads, walk_reaches 1 h.entry h.exit h.final w a.2 (omega (arith, h.at_end)) h.walk);
    ends = inr h.ends;
  }
