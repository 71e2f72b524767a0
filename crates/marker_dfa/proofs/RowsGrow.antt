-- What holds of the cells of a set, of its row and of all rows while they grow.
use Rattle.std.proofs.Common.{◌≡◌, ℕ, ◌+◌, ◌<◌, ◌≤◌, ◌⊎◌, inl, inr, refl, sym, ap, subst, ◌∙◌, arith, List, [], ◌∷◌, ◌++◌, length, Some, slice_get, length-append}
use Rattle.std.proofs.lemmas.Option.{slice_get-get_or}
use Rattle.marker_nfa.specs.Automaton.{Automaton}
use Rattle.marker_dfa.specs.declared.dfa.Cell.{Cell}
use Rattle.marker_dfa.specs.declared.dfa.Row.{Row}
use Rattle.marker_dfa.specs.Reached.{Subset, start_set}
use Rattle.marker_dfa.specs.Making.{AreCells, AreFound, AreRows, Extends, IsCell, IsRow}
use Rattle.marker_dfa.proofs.Lists.{get_push, get_within, one_value}
use Rattle.marker_dfa.proofs.Growing.{cell_stays, both_extend, start_found}

-- while the first n bytes are passed
pub record CellsSoFar (most : ℕ) (a : Automaton) (x : Subset) (bytes : List ℕ) (n : ℕ) (old new : List Subset) (cells : List Cell) : Type 0 where
  pub found : AreFound most a new
  pub extends : Extends old new
  pub cells_are : AreCells a new x bytes n cells

pub cells_more : (a : Automaton) (old new : List Subset) (x : Subset) (bytes : List ℕ) (n b : ℕ) (cells : List Cell) (c : Cell) → slice_get bytes n ≡ Some b → Extends old new → AreCells a old x bytes n cells → IsCell a new x b c.marks.items c.targets.items → AreCells a new x bytes (n + 1) (cells ++ c ∷ [])
cells_more a old new x bytes n b cells c at e h k = record {
  size = omega (arith, length-append cells (c ∷ []), h.size);
  each = λ i f d w g. go i f d w (get_push cells c d i g);
}
  where
    go : (i f : ℕ) (d : Cell) → slice_get bytes i ≡ Some f → (slice_get cells i ≡ Some d) ⊎ ((i ≡ length cells) × (c ≡ d)) → IsCell a new x f d.marks.items d.targets.items
    go i f d w (inl g) = cell_stays a old new x f d.marks.items d.targets.items e (h.each i f d w g)
    go i f d w (inr g) =
        let same : b ≡ f = one_value bytes n b f at (ap (slice_get bytes) (sym (g.0 ∙ h.size)) ∙ w) in
        let B : ℕ → Type 0 = λ y. IsCell a new x y c.marks.items c.targets.items in
        let C : Cell → Type 0 = λ y. IsCell a new x f y.marks.items y.targets.items in
        subst C g.1 (subst B same k)

pub cells_stay : (a : Automaton) (old new : List Subset) (x : Subset) (bytes : List ℕ) (n : ℕ) (cells : List Cell) → Extends old new → AreCells a old x bytes n cells → AreCells a new x bytes n cells
cells_stay a old new x bytes n cells e h = record {
  size = h.size;
  each = λ i f c w g. cell_stays a old new x f c.marks.items c.targets.items e (h.each i f c w g);
}

pub row_stays : (a : Automaton) (old new : List Subset) (x : Subset) (bytes : List ℕ) (r : Row) → Extends old new → IsRow a old x bytes r → IsRow a new x bytes r
row_stays a old new x bytes r e h = record { cells = cells_stay a old new x bytes (length bytes) r.cells.items e h.cells; ends = h.ends }

pub so_far_start : {most : ℕ} (a : Automaton) (x : Subset) (bytes : List ℕ) (old : List Subset) → AreFound most a old → CellsSoFar most a x bytes 0 old old []
so_far_start a x bytes old f = record {
  found = f;
  extends = record { stays = λ q y h. h };
  cells_are = record { size = refl; each = λ i g c w h. absurd (cc) };
}

-- one more byte
pub so_far_more : (most : ℕ) (a : Automaton) (x : Subset) (bytes : List ℕ) (n b : ℕ) (old mid new : List Subset) (cells : List Cell) (c : Cell) → slice_get bytes n ≡ Some b → CellsSoFar most a x bytes n old mid cells → AreFound most a new → Extends mid new → IsCell a new x b c.marks.items c.targets.items → CellsSoFar most a x bytes (n + 1) old new (cells ++ c ∷ [])
so_far_more most a x bytes n b old mid new cells c at r f e k = record {
  found = f;
  extends = both_extend old mid new r.extends e;
  cells_are = cells_more a mid new x bytes n b cells c at e r.cells_are k;
}

-- one more row
pub rows_more : (most : ℕ) (a : Automaton) (bytes : List ℕ) (old new : List Subset) (rows : List Row) (r : Row) → AreRows most a old bytes rows → length rows < length old → AreFound most a new → Extends old new → ((x : Subset) → slice_get old (length rows) ≡ Some x → IsRow a new x bytes r) → AreRows most a new bytes (rows ++ r ∷ [])
rows_more most a bytes old new rows r h lt f e k = record {
  found = f;
  few = more_sets (length rows) lt e;
  each = λ q x s g i. go q x s g (get_push rows r s q i);
}
  where
    within_new : (n : ℕ) → n < length old → Extends old new → n < length new
    within_new n l e = let o = slice_get-get_or old n [] l in get_within new n _ (e.stays n _ o)

    more_sets : (n : ℕ) → length rows < length old → Extends old new → length (rows ++ r ∷ []) ≤ length new
    more_sets n l e = omega (arith, length-append rows (r ∷ []), within_new (length rows) l e)

    old_set : (q : ℕ) (x : Subset) → q < length old → slice_get new q ≡ Some x → slice_get old q ≡ Some x
    old_set q x l g =
        let o = slice_get-get_or old q x l in
        let n = e.stays q _ o in
        o ∙ sym n ∙ g

    go : (q : ℕ) (x : Subset) (s : Row) → slice_get new q ≡ Some x → (slice_get rows q ≡ Some s) ⊎ ((q ≡ length rows) × (r ≡ s)) → IsRow a new x bytes s
    go q x s g (inl i) =
        let l = get_within rows q s i in
        row_stays a old new x bytes s e (h.each q x s (old_set q x (omega (arith, h.few)) g) i)
    go q x s g (inr i) =
        let C : Row → Type 0 = λ y. IsRow a new x bytes y in
        let g' : slice_get new (length rows) ≡ Some x = ap (slice_get new) (sym i.0) ∙ g in
        subst C i.1 (k x (old_set (length rows) x lt g'))

pub rows_start : (most : ℕ) (a : Automaton) (bytes : List ℕ) → 1 ≤ most → 0 < a.states → AreRows most a (start_set a.states ∷ []) bytes []
rows_start most a bytes some lt = record { found = start_found most a some lt; few = omega arith; each = λ q x r g i. absurd (cc) }
