-- The text at an index among those that lead on, by the parts of a text.
use Rattle.std.proofs.Common.{◌≡◌, ℕ, zero, suc, ◌+◌, ◌*◌, ◌<◌, ◌≤◌, true, false, List, [], ◌∷◌, ◌++◌, length, get_or, map, replicate, take, append_assoc, refl, ap, sym, ◌∙◌, arith, Contains, Option, Some, None}
use Rattle.std.specs.Prelude.{slice_get}
use Rattle.std.proofs.lemmas.List.{append_cancel_left, length-replicate}
use Rattle.std.proofs.Math.Seq.{take_at}
use Rattle.std.proofs.lemmas.Option.{slice_get_within, get_or_from_slice_get}
use Rattle.span_types.specs.Words.{Marked, mark_count}
use Rattle.formula_law.specs.Law.{bytes_of}
use Rattle.marker_dfa.specs.Deterministic.{DeterministicAutomaton, IsDeterministic, states_of, next_of, marks_of, path}
use Rattle.state_tables.specs.Meaning.{plain, has_mark}
use Rattle.state_tables.proofs.Meanings.{bytes-plain}
use Rattle.state_tables.proofs.Paths.{bytes-append, has-count, length-bytes, path-on}
use Rattle.path_counts.specs.declared.count.Count.{Count}
use Rattle.path_counts.specs.Paths.{most, stopped}
use Rattle.path_counts.specs.Counting.{CountRow, IsCountTable, counts_at, number_onward, onward_from, unmarked_at}
use Rattle.path_counts.specs.Runs.{at_state, runs}
use Rattle.path_counts.proofs.Caps.{stop-twice}
use Rattle.path_counts.proofs.Numbers.{are_marks}
use Rattle.path_counts.proofs.Order.{runs-append, runs-parted}
use Rattle.path_counts.proofs.Runs.{runs-forth}
use Rattle.path_counts.proofs.Ways.{value_at, ways-length}
use Rattle.count_tables.specs.Number.{weighted}
use Rattle.count_tables.specs.TextIndex.{AreWays, IsTextAt, number_marked, number_over}
use Rattle.count_tables.proofs.Weights.{all-ways, weighted-ways}

-- ---- positions in lists
pub prefix-get : {X : Type 0} (xs ys : List X) (i : ℕ) (x : X) → slice_get xs i ≡ Some x → slice_get (xs ++ ys) i ≡ Some x
prefix-get [] ys i x e = cc
prefix-get (z ∷ xs) ys zero x e = e
prefix-get (z ∷ xs) ys (suc i) x e = prefix-get xs ys i x e

pub back-get : {X : Type 0} (xs ys : List X) (i j : ℕ) → i ≡ length xs + j → slice_get (xs ++ ys) i ≡ slice_get ys j
back-get [] ys i j e = let same : i ≡ j = omega (arith, e) in ap (slice_get ys) same
back-get (z ∷ xs) ys zero j e = absurd (omega (arith, e))
back-get (z ∷ xs) ys (suc i) j e = back-get xs ys i j (omega (arith, e))

pub in-prefix : {X : Type 0} (xs ys : List X) (i : ℕ) (x : X) → slice_get (xs ++ ys) i ≡ Some x → i < length xs → slice_get xs i ≡ Some x
in-prefix [] ys i x e lt = absurd (omega (arith, lt))
in-prefix (z ∷ xs) ys zero x e lt = e
in-prefix (z ∷ xs) ys (suc i) x e lt = in-prefix xs ys i x e (omega (arith, lt))

pub map-get : {X Y : Type 0} (f : X → Y) (xs : List X) (i : ℕ) (x : X) → slice_get xs i ≡ Some x → slice_get (map f xs) i ≡ Some (f x)
map-get f [] i x e = cc
map-get f (z ∷ xs) zero x e = let same : z ≡ x = cc in ap (λ y. Some (f y)) same
map-get f (z ∷ xs) (suc i) x e = map-get f xs i x e

pub get-map : {X Y : Type 0} (f : X → Y) (xs : List X) (i : ℕ) (y : Y) → slice_get (map f xs) i ≡ Some y → (x : X) × ((slice_get xs i ≡ Some x) × (f x ≡ y))
get-map f [] i y e = cc
get-map f (z ∷ xs) zero y e = let same : f z ≡ y = cc in (z, (refl, same))
get-map f (z ∷ xs) (suc i) y e = get-map f xs i y e

pub get-member : {X : Type 0} (xs : List X) (i : ℕ) (x : X) → slice_get xs i ≡ Some x → Contains xs x
get-member xs i x e = (i, slice_get_within xs i x e, get_or_from_slice_get xs i x x e)

-- words cut at the same position
pub append-same : {X : Type 0} (a b c d : List X) → length a ≡ length c → a ++ b ≡ c ++ d → (a ≡ c) × (b ≡ d)
append-same a b c d len e =
    let prefix : a ≡ c = sym (take_at a b (length a) refl) ∙ ap (take (length a)) e ∙ take_at c d (length a) (sym len) in
    (prefix, append_cancel_left a b d (e ∙ ap (λ x. x ++ d) (sym prefix)))

-- ---- numbers by the texts that go on
onward-weighted : (cs : List Count) (after : List ℕ) → number_onward cs after ≡ weighted (λ q. get_or after q 0) cs
onward-weighted [] after = refl
onward-weighted (c ∷ cs) after = ap (λ n. c.number * get_or after c.state 0 + n) (onward-weighted cs after)

onward-value : (o : Option ℕ) (after : List ℕ) → onward_from o after ≡ value_at (λ q. get_or after q 0) o
onward-value None after = refl
onward-value (Some q) after = refl

-- some texts of these numbers
abbrev pub any_texts : List ℕ → ℕ → List Marked
any_texts after q = replicate (get_or after q 0) []

texts-get : (n j : ℕ) → j < n → slice_get {X = Marked} (replicate n []) j ≡ Some []
texts-get zero j lt = absurd (omega (arith, lt))
texts-get (suc n) zero lt = refl
texts-get (suc n) (suc j) lt = texts-get n j (omega (arith, lt))

pub any-ways : (n : ℕ) (after : List ℕ) → ((q : ℕ) → get_or after q 0 ≤ most) → AreWays n (any_texts after) after
any-ways n after low q lt = omega (arith, low q, length-replicate {A = Marked} (get_or after q 0) [])

module _ (a : DeterministicAutomaton) (auto : IsDeterministic a) where
  module _ (s : List ℕ) (t : List CountRow) (is : IsCountTable a s t) (k : ℕ → List Marked) (after : List ℕ) (are : AreWays (states_of a) k after) where
    same-ways : (q : ℕ) → q < states_of a → stopped (get_or after q 0) ≡ stopped (length (k q))
    same-ways q lt = ap stopped (are q lt) ∙ stop-twice most (length (k q))

    pub over-runs : (p : ℕ) → p < states_of a → number_over t p after ≡ stopped (length (runs (next_of a) (marks_of a) false k s p))
    over-runs p lt =
        ap (λ n. stopped (n + onward_from (unmarked_at t p) after)) (onward-weighted (counts_at t p) after)
        ∙ ap (λ n. stopped (weighted (λ q. get_or after q 0) (counts_at t p) + n)) (onward-value (unmarked_at t p) after)
        ∙ all-ways a auto s t is (λ q. length (k q)) (λ q. get_or after q 0) same-ways p lt
        ∙ ap stopped (sym (ways-length (next_of a) (marks_of a) false k s p))

    pub marked-runs : (p : ℕ) → p < states_of a → number_marked t p after ≡ stopped (length (runs (next_of a) (marks_of a) true k s p))
    marked-runs p lt =
        ap stopped (onward-weighted (counts_at t p) after)
        ∙ weighted-ways a auto s t is (λ q. length (k q)) (λ q. get_or after q 0) same-ways p lt
        ∙ ap stopped (sym (ways-length (next_of a) (marks_of a) true k s p))

  -- ---- a text without marks
  pub passed-index : (s : List ℕ) (t : List CountRow) → IsCountTable a s t → (p q i j : ℕ) (after : List ℕ) → p < states_of a → unmarked_at t p ≡ Some q → i ≡ number_marked t p after + j → j < get_or after q 0 → i < most
      → IsTextAt a s p after i (plain s) q j
  passed-index s t is p q i j after lt step index behind low =
      let ends : path (next_of a) (plain s) p ≡ Some q = sym (is.unmarked p lt) ∙ step in
      record {
        bytes = bytes-plain s;
        ends = ends;
        behind = behind;
        at_index = λ k are v e.
            let n : i ≡ length (runs (next_of a) (marks_of a) true k s p) + j = omega (arith, marked-runs s t is k after are p lt, index, low) in
            ap (λ ws. slice_get ws i) (runs-parted (next_of a) (marks_of a) (are_marks a auto) k s p)
            ∙ back-get (runs (next_of a) (marks_of a) true k s p) (map (λ w. plain s ++ w) (at_state k (path (next_of a) (plain s) p))) i j n
            ∙ ap (λ o. slice_get (map (λ w. plain s ++ w) (at_state k o)) j) ends
            ∙ map-get (λ w. plain s ++ w) (k q) j v e;
      }

  -- ---- two texts
  module _ (s u : List ℕ) (tr : List CountRow) (ir : IsCountTable a u tr) (after ways : List ℕ) (filled : (q : ℕ) → q < states_of a → get_or ways q 0 ≡ number_over tr q after) where
    pub right-ways : (k : ℕ → List Marked) → AreWays (states_of a) k after → AreWays (states_of a) (runs (next_of a) (marks_of a) false k u) ways
    right-ways k are q lt = filled q lt ∙ over-runs u tr ir k after are q lt

    pub joined-index : (p q r i j l : ℕ) (w v : Marked) → IsTextAt a s p ways i w q j → IsTextAt a u q after j v r l → IsTextAt a (s ++ u) p after i (w ++ v) r l
    joined-index p q r i j l w v first second = record {
      bytes = bytes-append w v ∙ ap (λ x. x ++ bytes_of v) first.bytes ∙ ap (λ x. s ++ x) second.bytes;
      ends = path-on (next_of a) p q w v first.ends ∙ second.ends;
      behind = second.behind;
      at_index = λ k are x e.
          ap (λ ws. slice_get ws i) (runs-append (next_of a) (marks_of a) (are_marks a auto) k s u p)
          ∙ first.at_index (runs (next_of a) (marks_of a) false k u) (right-ways k are) (v ++ x) (second.at_index k are x e)
          ∙ ap (λ y. Some y) (sym (append_assoc w v x));
    }

    pub left-number : (t tl : List CountRow) (p : ℕ) → IsCountTable a (s ++ u) t → IsCountTable a s tl → ((q : ℕ) → get_or after q 0 ≤ most) → p < states_of a → number_over t p after ≡ number_over tl p ways
    left-number t tl p it il low lt =
        let k = any_texts after in
        let are = any-ways (states_of a) after low in
        over-runs (s ++ u) t it k after are p lt
        ∙ ap (λ ws. stopped (length ws)) (runs-append (next_of a) (marks_of a) (are_marks a auto) k s u p)
        ∙ sym (over-runs s tl il (runs (next_of a) (marks_of a) false k u) ways (right-ways k are) p lt)

  -- ---- a text whose index is among those with some mark has one
  pub index-marked : (s : List ℕ) (t : List CountRow) → IsCountTable a s t → (p q i j : ℕ) (after : List ℕ) (w : Marked) → p < states_of a → ((r : ℕ) → get_or after r 0 ≤ most) → IsTextAt a s p after i w q j
      → i < number_marked t p after → 0 < mark_count w
  index-marked s t is p q i j after w lt low index among =
      let k = any_texts after in
      let are = any-ways (states_of a) after low in
      let some : slice_get (k q) j ≡ Some [] = texts-get (get_or after q 0) j index.behind in
      let whole : slice_get (runs (next_of a) (marks_of a) true k s p ++ map (λ x. plain s ++ x) (at_state k (path (next_of a) (plain s) p))) i ≡ Some (w ++ []) =
      ap (λ ws. slice_get ws i) (sym (runs-parted (next_of a) (marks_of a) (are_marks a auto) k s p)) ∙ index.at_index k are [] some in
      let prefix = in-prefix (runs (next_of a) (marks_of a) true k s p) (map (λ x. plain s ++ x) (at_state k (path (next_of a) (plain s) p))) i (w ++ []) whole (omega (arith, among, marked-runs s t is k after are p lt)) in
      let run = runs-forth (next_of a) (marks_of a) true k s p (w ++ []) (get-member (runs (next_of a) (marks_of a) true k s p) i (w ++ []) prefix) in
      let long : length w ≡ length run.word = sym (length-bytes w) ∙ ap length index.bytes ∙ sym (ap length run.bytes) ∙ length-bytes run.word in
      let same : w ≡ run.word = (append-same w [] run.word run.rest long run.joined).0 in
      has-count w (ap has_mark same ∙ run.mark refl)
