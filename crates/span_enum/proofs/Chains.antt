-- The nodes ahead: in the list, in the text, and what is known of the states there.
use Rattle.span_enum.proofs.Base.{Ahead, AreAhead, AreBetween, AreGoals, Between, CanDescend, DeterministicAutomaton, Fits, FitsAt, EnumerationInput, IsAhead, IsDeterministic, IsEnumerationInput, IsLook, IsMark, IsNodeAt, IsQuietPosition, IsTable, Join, LeadQuiet}
use Rattle.span_enum.proofs.Base.{List, Look, Mark, Marked, NodeId, None, Option, Pair, WalkPosition, Some, IsWalkAt, IsWalkBefore, [], ap, append_assoc, arith, bytes-append, bytes-plain, bytes_of, child, get_push, height_at, inl, inr, length}
use Rattle.span_enum.proofs.Base.{length-append, length-take, max, path-on, path-one, path-parts, plain, push_get, push_last, reached, refl, same_Some, sibling, slice_get, slice_get_cases, slice_get_within, states_of, step_of, subst, suc}
use Rattle.span_enum.proofs.Base.{sym, take, text_ahead, text_at, zero, ℕ, ◌++◌, ◌+◌, ◌-◌, ◌<◌, ◌∙◌, ◌∷◌, ◌≡◌, ◌≤◌}
use Rattle.span_enum.proofs.Runs.{run-behind, run-join, step-within}
use Rattle.span_enum.proofs.Tables.{look-is, pair-height, pair-text, quiet-join}

-- ---- lists of options
pub slice-take : {words : ℕ} (n m : ℕ) (hs : List (Option (Ahead words))) → m < n → slice_get (take n hs) m ≡ slice_get hs m
slice-take zero m hs lt = absurd (omega arith)
slice-take (suc n) m [] lt = refl
slice-take (suc n) zero (h ∷ hs) lt = refl
slice-take (suc n) (suc m) (h ∷ hs) lt = slice-take n m hs (omega arith)

-- ---- the nodes in the list
-- they are in any list with the same items there
pub ahead-move : {words : ℕ} (hs new : List (Option (Ahead words))) (n i : ℕ) (c : List (Ahead words)) → ((k : ℕ) (x : Option (Ahead words)) → k < n → slice_get hs k ≡ Some x → slice_get new k ≡ Some x)
    → i ≤ n → AreAhead hs i c → AreAhead new i c
ahead-move hs new n i [] same le h = h
ahead-move hs new n i (x ∷ c) same le h = (
  record { before = h.0.before; counted = h.0.counted; there = same h.0.before (Some x) (omega (arith, h.0.counted)) h.0.there; earlier = h.0.earlier },
  ahead-move hs new n x.next c same (omega (arith, h.0.counted, h.0.earlier)) h.1,
)

pub ahead-most : {words : ℕ} (hs : List (Option (Ahead words))) (i : ℕ) (c : List (Ahead words)) → AreAhead hs i c → i ≤ length hs
ahead-most hs i [] h = omega (arith, h)
ahead-most hs i (x ∷ c) h = omega (arith, h.0.counted, slice_get_within hs h.0.before (Some x) h.0.there)

-- the next node is the one that stands there in the list
pub next-is : {words : ℕ} (hs : List (Option (Ahead words))) (place : ℕ) (c : List (Ahead words)) (n : Ahead words) → AreAhead hs place c → 0 < place → ((before : ℕ) → place ≡ suc before → slice_get hs before ≡ Some (Some n))
    → (b : List (Ahead words)) × (c ≡ n ∷ b)
next-is hs place [] n h some at = absurd (omega (arith, h))
next-is hs place (x ∷ c) n h some at = (c, ap (λ y. y ∷ c) (same_Some x n (same_Some (Some x) (Some n) (sym h.0.there ∙ at h.0.before h.0.counted))))

-- and is there
pub next-there : {words : ℕ} (hs : List (Option (Ahead words))) (place : ℕ) (c : List (Ahead words)) → AreAhead hs place c → 0 < place
    → (before : ℕ) × ((h : Ahead words) × (place ≡ suc before) × (slice_get hs before ≡ Some (Some h)))
next-there hs place [] h some = absurd (omega (arith, h))
next-there hs place (x ∷ c) h some = (h.0.before, (x, h.0.counted, h.0.there))

-- ---- the states there
-- what is known of the states reached from p is known of those reached by way of q
between-on : (a : DeterministicAutomaton) (p q : ℕ) (s x u : List ℕ) (goals between : ℕ) (v : Marked) → bytes_of v ≡ s → reached a p v ≡ Some q
    → AreBetween a p (s ++ x) u goals between → AreBetween a q x u goals between
between-on a p q s x u goals between v e t is = record {
  reach = λ n w k r run. is.reach n (v ++ w) (bytes-append v w ∙ rw (e, k) refl) (path-on (step_of a) p q v w t ∙ r) run;
  onward = is.onward;
}

pub goals-on : {words : ℕ} (g : EnumerationInput words) (p q : ℕ) (s x : List ℕ) (c : List (Ahead words)) (v : Marked) → bytes_of v ≡ s → reached g.dfa.now p v ≡ Some q → AreGoals g p (s ++ x) c → AreGoals g q x c
goals-on g p q s x [] v e t h = tt
goals-on g p q s x (k ∷ c) v e t h =
    let assoc = append_assoc s x (text_at g k.id.index) in (
      h.0,
      between-on g.dfa.now p q s (x ++ text_at g k.id.index) (text_ahead g c) g.finals k.goals v e t (rw assoc at h.1),
      goals-on g p q s (x ++ text_at g k.id.index) c v e t (rw assoc at h.2),
      h.3,
    )

-- the states between two texts, where the second leads on
pub between-compose : (a : DeterministicAutomaton) (p : ℕ) (s u rest : List ℕ) (goals mid between : ℕ) → AreBetween a p s u mid between → AreBetween a p (s ++ u) rest goals mid
    → AreBetween a p s (u ++ rest) goals between
between-compose a p s u rest goals mid between one two = record {
  reach = λ n x e t run.
      let c = path-parts (step_of a) n u rest run.word run.state run.bytes run.ends in
      let goal = two.reach c.middle (x ++ c.left) (bytes-append x c.left ∙ rw (e, c.left_bytes) refl) (path-on (step_of a) p n x c.left t ∙ c.left_ends) (run-behind a n u rest run.word run.state goals c run.goal) in
      one.reach n x e t (record { word = c.left; state = c.middle; bytes = c.left_bytes; ends = c.left_ends; goal = goal });
  onward = λ n h.
      let first = one.onward n h in
      run-join a n first.state goals u rest first.word first.bytes first.ends (two.onward first.state first.goal);
}

-- ---- where the walk is
pub stands-before : {words : ℕ} (g : EnumerationInput words) (hs : List (Option (Ahead words))) (at : ℕ) (place : WalkPosition) (h : Ahead words) (c : List (Ahead words)) → IsWalkAt g hs at place (h ∷ c) → IsWalkBefore g hs h place.state c
stands-before g hs at place h c s = record {
  ahead = s.ahead.1;
  join = (refl, subst (λ n. Join g (n + length (text_at g h.id.index)) c) (sym s.join.0) s.join.1);
  goals = s.goals;
  state = s.state;
}

pub stands-mark : {words : ℕ} (g : EnumerationInput words) (hs : List (Option (Ahead words))) (m : Mark words) (c : List (Ahead words)) (n : ℕ) (to : WalkPosition) → IsDeterministic g.dfa.now → IsMark g hs m c → step_of g.dfa.now m.state n m.byte ≡ Some to.state
    → to.next ≡ m.next → IsQuietPosition g to c → IsWalkAt g hs (m.at + 1) to c
stands-mark g hs m c n to auto is step next quiet = record {
  ahead = subst (λ i. AreAhead hs i c) (sym next) is.ahead;
  join = is.join;
  goals = goals-on g m.state to.state (m.byte ∷ []) [] c ((n, m.byte) ∷ []) refl (path-one (step_of g.dfa.now) m.state n m.byte ∙ step) is.goals;
  state = step-within g.dfa.now auto m.state n m.byte to.state step;
  quiet = quiet;
}

-- ---- room
pub fits-take : {words : ℕ} (g : EnumerationInput words) (base n : ℕ) (hs : List (Option (Ahead words))) → Fits g base hs → Fits g base (take n hs)
fits-take g base n hs f k o le e = f k o le (sym (slice-take n k hs (omega (arith, slice_get_within (take n hs) k o e, length-take n hs))) ∙ e)

fits-push : {words : ℕ} (g : EnumerationInput words) (base : ℕ) (hs : List (Option (Ahead words))) (h : Ahead words) → Fits g base hs → height_at g h.id.index + (length hs - base) ≤ 68 → Fits g base (hs ++ Some h ∷ [])
fits-push g base hs h f le k o from e = elim (get_push hs (Some h) o k e) [
  | inl old ↦ f k o from old
  | inr new ↦ subst (λ z. FitsAt g (k - base) z) new.1 (rw new.0 le)
]

-- nothing is after the end
pub fits-none : {words : ℕ} (g : EnumerationInput words) (hs : List (Option (Ahead words))) → Fits g (length hs) hs
fits-none g hs k o le e = absurd (omega (arith, slice_get_within hs k o e))

-- the list is short
pub fits-short : {words : ℕ} (g : EnumerationInput words) (base : ℕ) (hs : List (Option (Ahead words))) → Fits g base hs → length hs ≤ base + 69
fits-short {words = words} g base hs f = elim ((slice_get_cases hs (base + 69)).1) [ inr past ↦ past.0 | inl k ↦ absurd (most k.0 (f (base + 69) k.0 (omega arith) k.2)) ]
  where
    most : (o : Option (Ahead words)) → FitsAt g (base + 69 - base) o → ⊥
    most None h = h
    most (Some h) le = omega arith

-- ---- a pair
-- a pair ahead and its two children, with their tables
pub record Fork {words : ℕ} (g : EnumerationInput words) (h : Ahead words) (l r : NodeId) (left right : Look) : Type 0 where
  pub is_ahead : IsAhead g h
  pub pair : IsNodeAt g.view.store.now h.id.index (Pair l r)
  pub left_look : IsLook g.view.store.now g.view.tables.now l.index left.node left.len left.table.now
  pub right_look : IsLook g.view.store.now g.view.tables.now r.index right.node right.len right.table.now
  pub whole : IsTable g.dfa.now (text_at g l.index ++ text_at g r.index) h.look.table.now
  pub left_is : IsTable g.dfa.now (text_at g l.index) left.table.now
  pub right_is : IsTable g.dfa.now (text_at g r.index) right.table.now

pub fork : {words : ℕ} (g : EnumerationInput words) → IsEnumerationInput g → (h : Ahead words) → IsAhead g h → (l r : NodeId) (left right : Look) → h.look.node ≡ Pair l r
    → IsLook g.view.store.now g.view.tables.now l.index left.node left.len left.table.now → IsLook g.view.store.now g.view.tables.now r.index right.node right.len right.table.now
    → Fork g h l r left right
fork g is h ahead l r left right node look-l look-r =
    let nodes = g.view.store.now in
    let table = look-is g.dfa.now nodes g.view.tables.now is.ready.tables g.view.counted in
    let pair : IsNodeAt nodes h.id.index (Pair l r) = rw node at ahead.look.node_is in
    record {
      is_ahead = ahead;
      pair = pair;
      left_look = look-l;
      right_look = look-r;
      whole = rw (pair-text nodes h.id.index l r pair) at (table h.id.index _ _ _ ahead.live ahead.look);
      left_is = table l.index _ _ _ (omega (arith, pair.1, ahead.live)) look-l;
      right_is = table r.index _ _ _ (omega (arith, pair.2, ahead.live)) look-r;
    }

module _ {words : ℕ} (g : EnumerationInput words) (h : Ahead words) (l r : NodeId) (left right : Look) (f : Fork g h l r left right) where
  both : text_at g h.id.index ≡ text_at g l.index ++ text_at g r.index
  both = pair-text g.view.store.now h.id.index l r f.pair

  pub fork-size : length (text_at g h.id.index) ≡ left.len + length (text_at g r.index)
  fork-size = ap length both ∙ length-append (text_at g l.index) (text_at g r.index) ∙ omega (arith, f.left_look.len_is)

  pub fork-text : (c : List (Ahead words)) → text_ahead g (h ∷ c) ≡ text_at g l.index ++ (text_at g r.index ++ text_ahead g c)
  fork-text c = ap (λ x. x ++ text_ahead g c) both ∙ append_assoc (text_at g l.index) (text_at g r.index) (text_ahead g c)

  pub fork-height : height_at g h.id.index ≡ max (height_at g l.index) (height_at g r.index) + 1
  fork-height = pair-height g.view.store.now h.id.index l r f.pair

  pub ahead-right : IsAhead g (sibling h r left right)
  ahead-right = record { live = omega (arith, f.pair.2, f.is_ahead.live); look = f.right_look; positive = omega (arith, f.is_ahead.positive); low = omega (arith, f.is_ahead.low, fork-size) }

  pub ahead-left : (between : Between words) (next : ℕ) → IsAhead g (child h l left between next)
  ahead-left between next = record { live = omega (arith, f.pair.1, f.is_ahead.live); look = f.left_look; positive = f.is_ahead.positive; low = omega (arith, f.is_ahead.low, fork-size, f.left_look.len_is) }

  module _ (hs : List (Option (Ahead words))) (q : ℕ) (c : List (Ahead words)) (s : IsWalkBefore g hs h q c) where
    behind : Join g (h.at + left.len + length (text_at g r.index)) c
    behind = let n : h.at + length (text_at g h.id.index) ≡ h.at + left.len + length (text_at g r.index) = omega (arith, fork-size) in subst (λ k. Join g k c) n s.join.1

    pub fork-goals : AreBetween g.dfa.now q (text_at g l.index ++ text_at g r.index) (text_ahead g c) g.finals h.goals
    fork-goals = subst (λ x. AreBetween g.dfa.now q x (text_ahead g c) g.finals h.goals) both s.goals.1

    goals-there : AreGoals g q (text_at g l.index ++ text_at g r.index) c
    goals-there = subst (λ x. AreGoals g q x c) both s.goals.2

    -- the walk is before the right child, once the left one is passed without marks
    pub before-right : (to : ℕ) → to < states_of g.dfa.now → reached g.dfa.now q (plain (text_at g l.index)) ≡ Some to → IsWalkBefore g hs (sibling h r left right) to c
    before-right to low t =
        let x = text_at g l.index in
        record {
          ahead = s.ahead;
          join = (refl, behind);
          goals = (
            ahead-right,
            between-on g.dfa.now q to x (text_at g r.index) (text_ahead g c) g.finals h.goals (plain x) (bytes-plain x) t fork-goals,
            goals-on g q to x (text_at g r.index) c (plain x) (bytes-plain x) t goals-there,
            s.goals.3,
          );
          state = low;
        }

    -- the walk is before the left child, once the right one is put ahead
    pub before-left : (between : Between words) → AreBetween g.dfa.now q (text_at g l.index) (text_at g r.index) h.goals between.goals
        → LeadQuiet g.dfa.now q (text_at g l.index) (text_at g r.index) h.goals h.quiet between.quiet
        → IsWalkBefore g (hs ++ Some (sibling h r left right) ∷ []) (child h l left between (length hs + 1)) q (sibling h r left right ∷ c)
    before-left between are lead =
        let x = text_at g l.index in
        let u = text_at g r.index in
        record {
          ahead = (
            record { before = length hs; counted = omega arith; there = push_last hs (Some (sibling h r left right)); earlier = ahead-most hs h.next c s.ahead },
            ahead-move hs (hs ++ Some (sibling h r left right) ∷ []) h.next h.next c (λ k x lt e. push_get hs (Some (sibling h r left right)) x k e) (omega arith) s.ahead,
          );
          join = (refl, (ap (λ n. h.at + n) f.left_look.len_is, subst (λ n. Join g (h.at + n + length u) c) f.left_look.len_is behind));
          goals = (
            ahead-left between (length hs + 1),
            between-compose g.dfa.now q x u (text_ahead g c) g.finals h.goals between.goals are fork-goals,
            (ahead-right, fork-goals, goals-there, s.goals.3),
            quiet-join g.dfa.now q x u (text_ahead g c) g.finals h.goals h.quiet between.quiet fork-goals s.goals.3 lead,
          );
          state = s.state;
        }

  -- ---- the way down
  module _ (q base : ℕ) (ms : List (Mark words)) (marks_room : ℕ) (hs : List (Option (Ahead words))) (ahead_room : ℕ) (d : CanDescend g h q base ms marks_room hs ahead_room) where
    pub down-right : (p : ℕ) → p < states_of g.dfa.now → CanDescend g (sibling h r left right) p base ms marks_room hs ahead_room
    down-right p low = record {
      is_ahead = ahead-right;
      state = low;
      next = d.next;
      marks_fit = d.marks_fit;
      ahead_fit = d.ahead_fit;
      low = d.low;
      fits = d.fits;
      deep = omega (arith, fork-height, d.deep);
    }

    pub down-left : (between : Between words) → CanDescend g (child h l left between (length hs + 1)) q base ms marks_room (hs ++ Some (sibling h r left right) ∷ []) ahead_room
    down-left between =
        let longer : length (hs ++ Some (sibling h r left right) ∷ []) ≡ length hs + 1 = length-append hs (Some (sibling h r left right) ∷ []) in
        record {
          is_ahead = ahead-left between (length hs + 1);
          state = d.state;
          next = omega (arith, longer);
          marks_fit = d.marks_fit;
          ahead_fit = d.ahead_fit;
          low = omega (arith, longer, d.low);
          fits = fits-push g base hs (sibling h r left right) d.fits (omega (arith, fork-height, d.deep));
          deep = omega (arith, longer, fork-height, d.deep, d.low);
        }
