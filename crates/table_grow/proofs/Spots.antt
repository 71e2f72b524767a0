-- Pieces: one more table that was computed, one more node, and two pieces joined.
use Rattle.std.proofs.Common.{zero, suc, ◌≡◌, ◌≢◌, ℕ, ◌⊎◌, inl, inr, ◌+◌, ◌<◌, refl, ap, sym, subst, ◌∙◌, arith, List, [], ◌∷◌, ◌++◌, length, map, take, get_or, Option, Some, IfSome, All, AllPairs, Contains}
use Rattle.std.proofs.lemmas.List.{get_or-take, length-take-le}
use Rattle.std.proofs.lemmas.List.Elements.{Contains-append_left, Contains-push, Contains-push_cases}
use Rattle.std.specs.Prelude.{slice_get}
use Rattle.std.proofs.lemmas.Option.{slice_get_within, IfSome_then}
use Rattle.slp_model.specs.declared.NodeId.{NodeId}
use Rattle.state_tables.specs.Dictionary.{Dictionary, distinct_of, kept_of}
use Rattle.table_grow.specs.Assignment.{AreKept}
use Rattle.pair_memo.specs.Cache.{AreAmong}
use Rattle.table_grow.specs.Filling.{AreDue, AreParts, Assigns, Filling, IsDue, IsNumberOf, IsReady, IsTableOfNode}
use Rattle.table_grow.specs.Pieces.{AreMade, AreNumbers, AreOwn, AreSpots, Extends, HasNumber, IsAdded, IsComposition, IsMade, IsPiece, IsSpot, IsWithin, AreComputed, number_at, shifted}
use Rattle.pair_memo.specs.Entries.{Entry}
use Rattle.table_grow.proofs.Growing.{continues-kept, number-kept-in, same-nodes}
use Rattle.table_grow.proofs.Placed.{parts-table}
use Rattle.pair_memo.proofs.CallerLemmas.{among-more}
use Rattle.table_grow.specs.declared.found.Made.{Made}
use Rattle.table_grow.specs.declared.pieces.Piece.{Piece}
use Rattle.table_grow.specs.declared.pieces.Spot.{Spot}
use Rattle.table_grow.specs.declared.pieces.Spot.TheVariants as spot

-- ---- the content of an entry
pub in-first : {X : Type 0} (xs ys : List X) (k : ℕ) (x : X) → slice_get xs k ≡ Some x → slice_get (xs ++ ys) k ≡ Some x
in-first [] ys k x h = cc
in-first (y ∷ xs) ys zero x h = h
in-first (y ∷ xs) ys (suc k) x h = in-first xs ys k x h

at-end : {X : Type 0} (xs : List X) (x : X) → slice_get (xs ++ x ∷ []) (length xs) ≡ Some x
at-end [] x = refl
at-end (y ∷ xs) x = at-end xs x

at-seam : {X : Type 0} (xs ys : List X) (x : X) → slice_get (xs ++ x ∷ ys) (length xs) ≡ Some x
at-seam [] ys x = refl
at-seam (y ∷ xs) ys x = at-seam xs ys x

behind : {X : Type 0} (xs ys : List X) (k : ℕ) (x : X) → slice_get ys k ≡ Some x → slice_get (xs ++ ys) (length xs + k) ≡ Some x
behind [] ys k x h = let e : 0 + k ≡ k = omega arith in rw e h
behind (y ∷ xs) ys k x h = let e : length (y ∷ xs) + k ≡ suc (length xs + k) = omega arith in rw e (behind xs ys k x h)

either-part : {X : Type 0} (P : X → Type 0) (xs ys : List X) → ((k : ℕ) (x : X) → slice_get xs k ≡ Some x → P x) → ((k : ℕ) (x : X) → slice_get ys k ≡ Some x → P x)
    → (k : ℕ) (x : X) → slice_get (xs ++ ys) k ≡ Some x → P x
either-part P [] ys p q k x h = q k x h
either-part P (y ∷ xs) ys p q zero x h = p zero x h
either-part P (y ∷ xs) ys p q (suc k) x h = either-part P xs ys (λ i z e. p (suc i) z e) q k x h

one-alone : {X : Type 0} (P : X → Type 0) (y : X) → P y → (k : ℕ) (x : X) → slice_get (y ∷ []) k ≡ Some x → P x
one-alone P y p zero x h = let same : y ≡ x = cc h in subst P same p
one-alone P y p (suc k) x h = let bad : ⊥ = cc h in absurd bad

-- ---- one more table is computed
pub made-both : (d : Dictionary) (made more : List Made) → AreMade d made → AreMade d more → AreMade d (made ++ more)
made-both d made more all others = either-part (IsMade d) made more all others

stand-kept : (es : List Entry) (made more : List Made) → Extends made more → AreComputed es made → AreComputed es more
stand-kept es made more kept stand = λ e c. let at = stand e c in (at.0, kept e.1 at.0 at.1, at.2)

pub own-kept : (cache : List (Option Entry)) (made more : List Made) → Extends made more → AreOwn cache made → AreOwn cache more
own-kept cache made more kept own = (own.0, own.1, stand-kept own.0 made more kept own.2)

stand-more : (es : List Entry) (made : List Made) (x : Made) (k : ℕ × ℕ) → x.parts ≡ Some k → AreComputed es made → AreComputed (es ++ (k, length made) ∷ []) (made ++ x ∷ [])
stand-more es made x k parts stand = λ e c. elim (Contains-push_cases es (k, length made) e c) [
  | inl old ↦ stand-kept es made (made ++ x ∷ []) (λ i y h. in-first made (x ∷ []) i y h) stand e old
  | inr new ↦ subst (λ (f : Entry). (y : Made) × (slice_get (made ++ x ∷ []) f.1 ≡ Some y) × (y.parts ≡ Some f.0)) new (x, at-end made x, parts)
]

own-more : (cache noted : List (Option Entry)) (made : List Made) (x : Made) (k : ℕ × ℕ) → x.parts ≡ Some k → AreOwn cache made
    → ((es : List Entry) → Contains es (k, length made) → AreAmong cache es → AreAmong noted es) → AreOwn noted (made ++ x ∷ [])
own-more cache noted made x k parts own note =
    let new : Entry = (k, length made) in
    let all : List Entry = own.0 ++ new ∷ [] in
    let among : AreAmong cache all = among-more cache own.0 all (λ e h. Contains-append_left own.0 (new ∷ []) e h) own.1 in
    (all, note all (Contains-push own.0 new) among, stand-more own.0 made x k parts own.2)

-- a composition that the piece has computed is the node's table
pub own-spot : (s : Filling) (made : List Made) (es : List Entry) (id : NodeId) (p : ℕ × ℕ) (k : ℕ) → IsReady s → AreParts s id.index p → AreMade s.tables made → AreComputed es made → Contains es (p, k)
    → IsSpot s made id (spot.Made k)
own-spot s made es id p k r parts are own c =
    let at = own (p, k) c in
    let is : IsComposition s.tables at.0.table p = subst (λ (o : Option (ℕ × ℕ)). IfSome o (IsComposition s.tables at.0.table)) at.2 (are k at.0 at.1).composed in
    (at.0, at.1, rw is.table (parts-table s id.index p r parts))

module _ (s : Filling) (old new : List Made) (id : NodeId) (parts : Option (ℕ × ℕ)) (k : ℕ) (added : IsAdded s old new id parts k) where
  pub added-made : AreMade s.tables old → AreMade s.tables new
  added-made all = rw added.items (either-part (IsMade s.tables) old (added.one ∷ []) all (one-alone (IsMade s.tables) added.one added.found.0))

  pub added-kept : Extends old new
  added-kept = λ i x h. rw added.items (in-first old (added.one ∷ []) i x h)

  pub added-spot : IsSpot s new id (spot.Made k)
  added-spot = (added.one, rw (added.items, added.index_is) (at-end old added.one), added.found.1)

  pub added-own : (cache noted : List (Option Entry)) (p : ℕ × ℕ) → parts ≡ Some p → AreOwn cache old → ((es : List Entry) → Contains es (p, k) → AreAmong cache es → AreAmong noted es) → AreOwn noted new
  added-own cache noted p is own note = rw added.items (own-more cache noted old added.one p (added.parts_are ∙ is) own (λ es h. note es (rw added.index_is h)))

-- ---- spots
pub spot-kept : (s : Filling) (made more : List Made) → Extends made more → (id : NodeId) (at : Spot) → IsSpot s made id at → IsSpot s more id at
spot-kept s made more kept id (spot.Kept n) is = is
spot-kept s made more kept id (spot.Made k) is = (is.0, kept k is.0 is.1, is.2)

pub spot-moved : (s : Filling) (before made : List Made) (id : NodeId) (at : Spot) → IsSpot s made id at → IsSpot s (before ++ made) id (shifted (length before) at)
spot-moved s before made id (spot.Kept n) is = is
spot-moved s before made id (spot.Made k) is = (is.0, behind before made k is.0 is.1, is.2)

module _ (P Q : NodeId → Spot → Type 0) where
  pub spots-map : (move : Spot → Spot) → ((id : NodeId) (s : Spot) → P id s → Q id (move s)) → (ids : List NodeId) (ss : List Spot) → AreSpots P ids ss → AreSpots Q ids (map move ss)
  spots-map move h [] [] all = all
  spots-map move h [] (s ∷ ss) all = absurd all
  spots-map move h (id ∷ ids) [] all = absurd all
  spots-map move h (id ∷ ids) (s ∷ ss) all = (h id s all.0, spots-map move h ids ss all.1)

  pub spots-kept : ((id : NodeId) (s : Spot) → P id s → Q id s) → (ids : List NodeId) (ss : List Spot) → AreSpots P ids ss → AreSpots Q ids ss
  spots-kept h [] [] all = all
  spots-kept h [] (s ∷ ss) all = absurd all
  spots-kept h (id ∷ ids) [] all = absurd all
  spots-kept h (id ∷ ids) (s ∷ ss) all = (h id s all.0, spots-kept h ids ss all.1)

module _ (P : NodeId → Spot → Type 0) where
  pub spots-append : (ids : List NodeId) (ss : List Spot) (more : List NodeId) (others : List Spot) → AreSpots P ids ss → AreSpots P more others → AreSpots P (ids ++ more) (ss ++ others)
  spots-append [] [] more others all rest = rest
  spots-append [] (s ∷ ss) more others all rest = absurd all
  spots-append (id ∷ ids) [] more others all rest = absurd all
  spots-append (id ∷ ids) (s ∷ ss) more others all rest = (all.0, spots-append ids ss more others all.1 rest)

  pub spots-length : (ids : List NodeId) (ss : List Spot) → AreSpots P ids ss → length ss ≡ length ids
  spots-length [] [] all = refl
  spots-length [] (s ∷ ss) all = absurd all
  spots-length (id ∷ ids) [] all = absurd all
  spots-length (id ∷ ids) (s ∷ ss) all = ap suc (spots-length ids ss all.1)

  pub spots-at : (ids : List NodeId) (ss : List Spot) (k : ℕ) (x : NodeId) (y : Spot) → AreSpots P ids ss → k < length ids → P (get_or ids k x) (get_or ss k y)
  spots-at [] ss k x y all lt = absurd (omega arith)
  spots-at (id ∷ ids) [] k x y all lt = absurd all
  spots-at (id ∷ ids) (s ∷ ss) zero x y all lt = all.0
  spots-at (id ∷ ids) (s ∷ ss) (suc k) x y all lt = spots-at ids ss k x y all.1 (omega arith)

pub spots-push : (s : Filling) (made more : List Made) (ids : List NodeId) (ss : List Spot) (id : NodeId) (at : Spot)
    → Extends made more → AreSpots (IsSpot s made) ids ss → IsSpot s more id at → AreSpots (IsSpot s more) (ids ++ id ∷ []) (ss ++ at ∷ [])
spots-push s made more ids ss id at kept all one =
    spots-append (IsSpot s more) ids ss (id ∷ []) (at ∷ []) (spots-kept (IsSpot s made) (IsSpot s more) (spot-kept s made more kept) ids ss all) (one, tt)

-- a spot is none past the tables that were computed
spot-within : (s : Filling) (made : List Made) (id : NodeId) (at : Spot) → IsSpot s made id at → IsWithin (length made) at
spot-within s made id (spot.Kept n) is = tt
spot-within s made id (spot.Made k) is = slice_get_within made k is.0 is.1

pub spots-within : (s : Filling) (made : List Made) (ids : List NodeId) (ss : List Spot) → AreSpots (IsSpot s made) ids ss → All (IsWithin (length made)) ss
spots-within s made ids ss all = λ k at lt.
    let same = spots-length (IsSpot s made) ids ss all in
    let none : NodeId = record { index = 0 } in
    spot-within s made (get_or ids k none) (get_or ss k at) (spots-at (IsSpot s made) ids ss k none at all (omega (arith, same, lt)))

-- two pieces joined
pub pieces-joined : (s : Filling) (x y all : Piece) (left right ids : List NodeId) → IsPiece s left x → IsPiece s right y → ids ≡ left ++ right
    → all.made.items ≡ x.made.items ++ y.made.items → all.spots.items ≡ x.spots.items ++ map (shifted (length x.made.items)) y.spots.items → IsPiece s ids all
pieces-joined s x y all left right ids first second is made spots =
    let both = x.made.items ++ y.made.items in
    record {
      made = rw made (made-both s.tables x.made.items y.made.items first.made second.made);
      spots = rw (made, is, spots)
          (spots-append (IsSpot s both) left x.spots.items right (map (shifted (length x.made.items)) y.spots.items)
          (spots-kept (IsSpot s x.made.items) (IsSpot s both) (spot-kept s x.made.items both (λ k z h. in-first x.made.items y.made.items k z h)) left x.spots.items first.spots)
          (spots-map (IsSpot s y.made.items) (IsSpot s both) (shifted (length x.made.items)) (spot-moved s x.made.items y.made.items) right y.spots.items second.spots));
    }

-- ---- the numbers of the tables that were made
get-push : {X : Type 0} (xs : List X) (x : X) (k : ℕ) (y : X) → slice_get (xs ++ x ∷ []) k ≡ Some y → (slice_get xs k ≡ Some y) ⊎ ((k ≡ length xs) × (x ≡ y))
get-push [] x zero y h = let same : x ≡ y = cc h in inr (refl, same)
get-push [] x (suc k) y h = let bad : ⊥ = cc h in absurd bad
get-push (z ∷ xs) x zero y h = inl h
get-push (z ∷ xs) x (suc k) y h = elim (get-push xs x k y h) [
  | inl old ↦ inl old
  | inr new ↦ inr (ap suc new.0, new.1)
]

pub made-at : (d : Dictionary) (made rest all : List Made) (x : Made) → made ++ x ∷ rest ≡ all → AreMade d all → IsMade d x
made-at d made rest all x is are = are (length made) x (subst (λ xs. slice_get xs (length made) ≡ Some x) is (at-seam made rest x))

pub made-kept : (d e : Dictionary) (x : Made) → AreKept d e → IsMade d x → IsMade e x
made-kept d e x k is = record {
  rows = is.rows ∙ sym (ap (λ (y : Dictionary). y.states) k.same);
  composed = IfSome_then x.parts is.composed (λ p h.
      let more = k.more in
      let m = h.left in
      let n = h.right in
      record { left = omega (arith, more, m); right = omega (arith, more, n); table = rw (k.kept p.0 m, k.kept p.1 n) h.table });
}

pub numbers-push : (d e : Dictionary) (made : List Made) (numbers : List ℕ) (x : Made) (n : ℕ) → AreKept d e → length numbers ≡ length made → AreNumbers d made numbers
    → n < distinct_of e → kept_of e n ≡ x.table → AreNumbers e (made ++ x ∷ []) (numbers ++ n ∷ [])
numbers-push d e made numbers x n kept size all within is = λ k y h. elim (get-push made x k y h) [
  | inl old ↦
      let at = all k y old in
      let more = kept.more in
      let below = at.2 in
      (at.0, in-first numbers (n ∷ []) k at.0 at.1, omega (arith, more, below), kept.kept at.0 at.2 ∙ at.3)
  | inr new ↦
      let place : k ≡ length numbers = new.0 ∙ sym size in
      (n, rw place (at-end numbers n), within, is ∙ ap (λ (z : Made). z.table) new.1)
]

-- where a table was computed, its number is that of the node's table
pub spot-number : (s t : Filling) (made : List Made) (numbers : List ℕ) → AreKept s.tables t.tables → t ≡ record s { tables = t.tables; entries = t.entries } → AreNumbers t.tables made numbers
    → (id : NodeId) (at : Spot) → IsSpot s made id at → HasNumber t numbers id at
spot-number s t made numbers k same all id (spot.Kept n) is = record { number = n; number_is = refl; is = number-kept-in s t id.index n (continues-kept s t k same) is }
spot-number s t made numbers k same all id (spot.Made i) is =
    let at = all i is.0 is.1 in
    record {
      number = at.0;
      number_is = at.1;
      is = record { within = at.2; table = subst (λ (x : Filling). IsTableOfNode x id.index (kept_of t.tables at.0)) (sym same) (rw at.3 is.2) };
    }

-- ---- one more node is assigned
pub same-read : (xs : List NodeId) (i : ℕ) (d e : NodeId) → i < length xs → get_or xs i d ≡ get_or xs i e
same-read [] i d e l = absurd (omega arith)
same-read (y ∷ xs) zero d e l = refl
same-read (y ∷ xs) (suc i) d e l = same-read xs i d e (omega arith)

all-apart : (ids : List NodeId) (n : ℕ) (x : NodeId) → AllPairs (λ (y z : NodeId). y.index ≢ z.index) ids → n < length ids → All (λ (y : NodeId). y.index ≢ (get_or ids n x).index) (take n ids)
all-apart ids n x once lt = λ k d h.
    let size = length-take-le n ids (omega (arith, lt)) in
    let below : k < n = omega (arith, h, size) in
    subst (λ (y : NodeId). y.index ≢ (get_or ids n x).index) (sym (get_or-take n ids k d below))
    (subst (λ (z : NodeId). (get_or ids k d).index ≢ z.index) (same-read ids n d x lt) (once k n d below lt))

-- the next node is due, if those before it were assigned
pub due-after : (s t : Filling) (ids : List NodeId) (n : ℕ) (x : NodeId) → AreDue s ids → n < length ids → Assigns s t (take n ids) → IsDue t (get_or ids n x)
due-after s t ids n x due lt all =
    let id = get_or ids n x in
    let one = due.each n x lt in
    let nodes = same-nodes s t all.continues in
    record {
      new = rw all.continues.known one.new;
      live = rw nodes one.live;
      free = all.others id.index (all-apart ids n x due.once lt) ∙ one.free;
      children = λ l r pair. let both = one.children l r (rw nodes at pair) in (all.continues.still l.index both.0, all.continues.still r.index both.1);
    }

-- the number that was read is that of the node's table
pub same-number : (s : Filling) (numbers : List ℕ) (id : NodeId) (at : Spot) (n : ℕ) → HasNumber s numbers id at → number_at numbers at ≡ Some n → IsNumberOf s id.index n
same-number s numbers id at n has read =
    let both : Some has.number ≡ Some n = sym has.number_is ∙ read in
    let same : has.number ≡ n = cc in
    subst (IsNumberOf s id.index) same has.is
