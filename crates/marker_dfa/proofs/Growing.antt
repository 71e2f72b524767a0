-- What holds of the sets and of a cell while they grow.
use Rattle.std.proofs.Common.{◌≡◌, ℕ, zero, suc, ◌+◌, ◌<◌, ◌≤◌, ◌⊎◌, inl, inr, refl, sym, ap, subst, ◌∙◌, arith, List, [], ◌∷◌, ◌++◌, length, Some, slice_get, get_or, Contains, length-append}
use Rattle.std.proofs.lemmas.Option.{slice_get-get_or}
use Rattle.marker_nfa.specs.Automaton.{Automaton, Moves}
use Rattle.marker_dfa.specs.Reached.{AreReached, Subset, IsIn, IsMove, IsReached, start, next, start_set}
use Rattle.marker_dfa.specs.Deterministic.{AreTooMany}
use Rattle.marker_dfa.specs.Making.{AreFound, Extends, HasNoRoom, HasIndex, IsCell, IsFalling, IsTarget}
use Rattle.marker_dfa.proofs.Lists.{get_push, push_get, push_last, get_within, at_contains}
use Rattle.marker_dfa.proofs.Tracks.{single_size}

-- the marks that lead on with a byte, and where to, of the first k marks of an alphabet
pub record IsCellUpTo (a : Automaton) (subsets : List Subset) (x : Subset) (b : ℕ) (alphabet : List ℕ) (k : ℕ) (ms ts : List ℕ) : Type 0 where
  pub even : length ms ≡ length ts
  pub sound : (j m r : ℕ) → slice_get ms j ≡ Some m → slice_get ts j ≡ Some r → IsTarget a subsets x m b r
  pub complete : (i m o p : ℕ) → i < k → slice_get alphabet i ≡ Some m → IsIn x o → Moves a o m b p → (j : ℕ) × (slice_get ms j ≡ Some m)
  pub falling : IsFalling ms
  pub within : (j m : ℕ) → slice_get ms j ≡ Some m → (i : ℕ) × (i < k) × (slice_get alphabet i ≡ Some m)

-- while the first k marks are passed
pub record Cells (most : ℕ) (a : Automaton) (alphabet : List ℕ) (x : Subset) (b k : ℕ) (old new : List Subset) (ms ts : List ℕ) : Type 0 where
  pub found : AreFound most a new
  pub extends : Extends old new
  pub cell : IsCellUpTo a new x b alphabet k ms ts

pub cells_start : {most : ℕ} (a : Automaton) (alphabet : List ℕ) (x : Subset) (b : ℕ) (old : List Subset) → AreFound most a old → Cells most a alphabet x b 0 old old [] []
cells_start a alphabet x b old f = record {
  found = f;
  extends = record { stays = λ q y h. h };
  cell = record {
    even = refl;
    sound = λ j m r h g. absurd (cc);
    complete = λ i m o p l h o_in mv. absurd (omega (arith, l));
    falling = λ i j m n l h g. absurd (cc);
    within = λ j m h. absurd (cc);
  };
}

pub cells_end : (a : Automaton) (alphabet : List ℕ) (x : Subset) (b k : ℕ) (new : List Subset) (ms ts : List ℕ) → length alphabet ≤ k → ((m o p : ℕ) → IsIn x o → Moves a o m b p → Contains alphabet m) → IsCellUpTo a new x b alphabet k ms ts → IsCell a new x b ms ts
cells_end a alphabet x b k new ms ts le all c = record {
  even = c.even;
  sound = c.sound;
  complete = λ m o p i mv. (let w = at_contains alphabet m (all m o p i mv) in c.complete w.0 m o p (omega (arith, get_within alphabet w.0 m w.1, le)) w.1 i mv);
  falling = c.falling;
}

-- one more set, which is reached
push_reached : (a : Automaton) (old : List Subset) (x : Subset) → AreReached a.states (Moves a) old → ((q : ℕ) → slice_get old q ≡ Some x → ⊥) → IsReached a.states (Moves a) x → AreReached a.states (Moves a) (old ++ x ∷ [])
push_reached a old x f fresh r = record {
  apart = λ q s y h k. apart' q s y (get_push old x y q h) (get_push old x y s k);
  reached = λ q y h. reached' q y (get_push old x y q h);
}
  where
    apart' : (q s : ℕ) (y : Subset) → (slice_get old q ≡ Some y) ⊎ ((q ≡ length old) × (x ≡ y)) → (slice_get old s ≡ Some y) ⊎ ((s ≡ length old) × (x ≡ y)) → q ≡ s
    apart' q s y (inl h) (inl k) = f.apart q s y h k
    apart' q s y (inl h) (inr k) = absurd (fresh q (h ∙ ap Some (sym k.1)))
    apart' q s y (inr h) (inl k) = absurd (fresh s (k ∙ ap Some (sym h.1)))
    apart' q s y (inr h) (inr k) = h.0 ∙ sym k.0

    reached' : (q : ℕ) (y : Subset) → (slice_get old q ≡ Some y) ⊎ ((q ≡ length old) × (x ≡ y)) → IsReached a.states (Moves a) y
    reached' q y (inl h) = f.reached q y h
    reached' q y (inr h) = subst (IsReached a.states (Moves a)) h.1 r

pub too_many : (most : ℕ) (a : Automaton) (old : List Subset) (x : Subset) → AreFound most a old → HasNoRoom most old x → IsReached a.states (Moves a) x → AreTooMany most a
too_many most a old x f n r = record { subsets = old ++ x ∷ []; many = omega (arith, length-append old (x ∷ []), n.full); sets = push_reached a old x f.sets n.fresh r }

-- the sets with one more at its index
pub placed_found : (most : ℕ) (a : Automaton) (old new : List Subset) (x : Subset) (q : ℕ) → AreFound most a old → HasIndex old new x q → IsReached a.states (Moves a) x → length x ≡ a.states → length new ≤ most → AreFound most a new
placed_found most a old new x q f p r size few = go p.list
  where
    sizes' : (g : ℕ) (y : Subset) → (slice_get old g ≡ Some y) ⊎ ((g ≡ length old) × (x ≡ y)) → length y ≡ a.states
    sizes' g y (inl h) = f.sizes g y h
    sizes' g y (inr h) = ap length (sym h.1) ∙ size

    go : (new ≡ old) ⊎ ((new ≡ old ++ x ∷ []) × (q ≡ length old)) → AreFound most a new
    go (inl e) = subst (AreFound most a) (sym e) f
    go (inr e) =
        let pushed : AreFound most a (old ++ x ∷ []) = record {
          start = push_get old x _ 0 f.start;
          sets = push_reached a old x f.sets (p.fresh (omega (arith, e.1))) r;
          sizes = λ g y h. sizes' g y (get_push old x y g h);
          few = subst (λ (l : List Subset). length l ≤ most) e.0 few;
        } in
        subst (AreFound most a) (sym e.0) pushed

pub placed_extends : (old new : List Subset) (x : Subset) (q : ℕ) → HasIndex old new x q → Extends old new
placed_extends old new x q p = record { stays = λ s y h. go s y h p.list }
  where
    go : (s : ℕ) (y : Subset) → slice_get old s ≡ Some y → (new ≡ old) ⊎ ((new ≡ old ++ x ∷ []) × (q ≡ length old)) → slice_get new s ≡ Some y
    go s y h (inl e) = ap (λ l. slice_get l s) e ∙ h
    go s y h (inr e) = ap (λ l. slice_get l s) e.0 ∙ push_get old x y s h

target_stays : (a : Automaton) (old new : List Subset) (x : Subset) (m b r : ℕ) → Extends old new → IsTarget a old x m b r → IsTarget a new x m b r
target_stays a old new x m b r e t = record { members = t.members; state = t.state; there = e.stays r t.members t.there; move = t.move; is_in = t.is_in }

later : (i k : ℕ) → i < k + 1 → (i < k) ⊎ (i ≡ k)
later i k l = grind arith

-- one more mark, which leads on
pub cell_more : (a : Automaton) (old new : List Subset) (x : Subset) (b : ℕ) (alphabet : List ℕ) (k : ℕ) (ms ts : List ℕ) (m r : ℕ) → IsFalling alphabet → Extends old new → slice_get alphabet k ≡ Some m → IsTarget a new x m b r → IsCellUpTo a old x b alphabet k ms ts → IsCellUpTo a new x b alphabet (k + 1) (ms ++ m ∷ []) (ts ++ r ∷ [])
cell_more a old new x b alphabet k ms ts m r falls e at t c = record {
  even = omega (arith, length-append ms (m ∷ []), length-append ts (r ∷ []), c.even);
  sound = λ j n s h g. sound' j n s (get_push ms m n j h) (get_push ts r s j g);
  complete = λ i n o p l h o_in mv. complete' i n o p h o_in mv (later i k l);
  falling = λ i j n l lt h g. falling' i j n l lt (get_push ms m n i h) (get_push ms m l j g);
  within = λ j n h. within' j n (get_push ms m n j h);
}
  where
    sound' : (j n s : ℕ) → (slice_get ms j ≡ Some n) ⊎ ((j ≡ length ms) × (m ≡ n)) → (slice_get ts j ≡ Some s) ⊎ ((j ≡ length ts) × (r ≡ s)) → IsTarget a new x n b s
    sound' j n s (inl h) (inl g) = target_stays a old new x n b s e (c.sound j n s h g)
    sound' j n s (inl h) (inr g) = absurd (omega (arith, get_within ms j n h, g.0, c.even))
    sound' j n s (inr h) (inl g) = absurd (omega (arith, get_within ts j s g, h.0, c.even))
    sound' j n s (inr h) (inr g) =
        let T : ℕ → Type 0 = λ y. IsTarget a new x y b s in
        let S : ℕ → Type 0 = λ y. IsTarget a new x m b y in
        subst T h.1 (subst S g.1 t)

    complete' : (i n o p : ℕ) → slice_get alphabet i ≡ Some n → IsIn x o → Moves a o n b p → (i < k) ⊎ (i ≡ k) → (j : ℕ) × (slice_get (ms ++ m ∷ []) j ≡ Some n)
    complete' i n o p h o_in mv (inl l) = let d = c.complete i n o p l h o_in mv in (d.0, push_get ms m n d.0 d.1)
    complete' i n o p h o_in mv (inr l) =
        let same : Some m ≡ Some n = sym at ∙ ap (slice_get alphabet) (sym l) ∙ h in
        (length ms, push_last ms m ∙ same)

    falling' : (i j n l : ℕ) → i < j → (slice_get ms i ≡ Some n) ⊎ ((i ≡ length ms) × (m ≡ n)) → (slice_get ms j ≡ Some l) ⊎ ((j ≡ length ms) × (m ≡ l)) → l < n
    falling' i j n l lt (inl h) (inl g) = c.falling i j n l lt h g
    falling' i j n l lt (inl h) (inr g) =
        let w = c.within i n h in
        let low = falls w.0 k n m w.1 w.2 at in
        omega (arith, low, g.1)
    falling' i j n l lt (inr h) (inl g) = absurd (omega (arith, get_within ms j l g, h.0))
    falling' i j n l lt (inr h) (inr g) = absurd (omega (arith, h.0, g.0))

    within' : (j n : ℕ) → (slice_get ms j ≡ Some n) ⊎ ((j ≡ length ms) × (m ≡ n)) → (i : ℕ) × (i < k + 1) × (slice_get alphabet i ≡ Some n)
    within' j n (inl h) = let w = c.within j n h in (w.0, omega (arith, w.1), w.2)
    within' j n (inr h) = (k, omega arith, at ∙ ap Some h.1)

mark_there : (alphabet : List ℕ) (k : ℕ) → k < length alphabet → slice_get alphabet k ≡ Some (get_or alphabet k 0)
mark_there alphabet k lt = slice_get-get_or alphabet k 0 lt

pub both_extend : (old mid new : List Subset) → Extends old mid → Extends mid new → Extends old new
both_extend old mid new e f = record { stays = λ q x h. f.stays q x (e.stays q x h) }

pub some_same : (x y : Subset) → Some x ≡ Some y → x ≡ y
some_same x y e = cc

module _ (most : ℕ) (a : Automaton) (alphabet : List ℕ) (b k : ℕ) (old mid : List Subset) (ms ts : List ℕ) (x y : Subset) where
  reached_move : IsReached a.states (Moves a) x → IsMove a.states (Moves a) x (get_or alphabet k 0) b y → ((p : ℕ) × IsIn y p) → IsReached a.states (Moves a) y
  reached_move r mv w = next x y (get_or alphabet k 0) b w.0 r mv w.1

  pub step_refused : Cells most a alphabet x b k old mid ms ts → IsReached a.states (Moves a) x → IsMove a.states (Moves a) x (get_or alphabet k 0) b y → ((p : ℕ) × IsIn y p) → HasNoRoom most mid y → AreTooMany most a
  step_refused c r mv w full = too_many most a mid y c.found full (reached_move r mv w)

  pub step_more : (new : List Subset) (q : ℕ) → Cells most a alphabet x b k old mid ms ts → IsFalling alphabet → k < length alphabet → IsReached a.states (Moves a) x → IsMove a.states (Moves a) x (get_or alphabet k 0) b y → ((p : ℕ) × IsIn y p) → HasIndex mid new y q → length new ≤ most → Cells most a alphabet x b (k + 1) old new (ms ++ get_or alphabet k 0 ∷ []) (ts ++ q ∷ [])
  step_more new q c falls up r mv w placed few =
      let ext = placed_extends mid new y q placed in
      let target : IsTarget a new x (get_or alphabet k 0) b q = record { members = y; state = w.0; there = placed.there; move = mv; is_in = w.1 } in
      record {
        found = placed_found most a mid new y q c.found placed (reached_move r mv w) mv.size few;
        extends = both_extend old mid new c.extends ext;
        cell = cell_more a mid new x b alphabet k ms ts (get_or alphabet k 0) q falls ext (mark_there alphabet k up) target c.cell;
      }

-- a cell over more sets
pub cell_stays : (a : Automaton) (old new : List Subset) (x : Subset) (b : ℕ) (ms ts : List ℕ) → Extends old new → IsCell a old x b ms ts → IsCell a new x b ms ts
cell_stays a old new x b ms ts e c = record {
  even = c.even;
  sound = λ j m r h g. target_stays a old new x m b r e (c.sound j m r h g);
  complete = c.complete;
  falling = c.falling;
}

pub start_found : (most : ℕ) (a : Automaton) → 1 ≤ most → 0 < a.states → AreFound most a (start_set a.states ∷ [])
start_found most a some lt = record {
  start = refl;
  sets = record {
    apart = λ q r x h k. (let l : q < 1 = get_within (start_set a.states ∷ []) q x h in let m : r < 1 = get_within (start_set a.states ∷ []) r x k in omega arith);
    reached = λ q x h. reached' q x h;
  };
  sizes = λ q x h. sizes' q x h;
  few = some;
}
  where
    reached' : (q : ℕ) (x : Subset) → slice_get (start_set a.states ∷ []) q ≡ Some x → IsReached a.states (Moves a) x
    reached' zero x h = subst (IsReached a.states (Moves a)) (some_same _ x h) start
    reached' (suc q) x h = absurd (cc)

    sizes' : (q : ℕ) (x : Subset) → slice_get (start_set a.states ∷ []) q ≡ Some x → length x ≡ a.states
    sizes' zero x h = ap length (sym (some_same _ x h)) ∙ single_size a.states 0
    sizes' (suc q) x h = absurd (cc)
