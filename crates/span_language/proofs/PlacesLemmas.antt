-- The bounds on the tables that lines computed.
use Rattle.std.proofs.Common.{ap, arith, Bool, false, if◌then◌else◌, length, List, refl, subst, sym, true, ℕ, ◌*◌, ◌+◌, ◌||◌, ◌≡◌, ◌≤◌}
use Rattle.std.specs.List.{AllByRecursion}
use Rattle.query_book.proofs.TableLemmas.{AreWithin, partly-length, put-places, sum_within, tables-within, take-places, within-more}
use Rattle.query_book.specs.Book.{Book}
use Rattle.query_book.specs.Grown.{GrowsTables}
use Rattle.query_book.specs.Serving.{ArePartlyAt, counted_of, covered_of, sum_of, tables_of}
use Rattle.slp_model.specs.declared.Node.{Node}
use Rattle.span_language.specs.Counts.{Places, PlacesOfBoth, PlacesPart, PlacesPartOfBoth, PlacesSoFar, Tabled}
use Rattle.span_language.specs.State.{Named, put, taken_out}

-- no line asked for counting tables
pub not_asked : {P : Type 0} → false ≡ true → P
not_asked is = let bad : ⊥ = cc is in absurd bad

-- neither of two
pub neither : (a b : Bool) → (a || b) ≡ false → (a ≡ false) × (b ≡ false)
neither true b is = let bad : ⊥ = cc is in absurd bad
neither false b is = (refl, is)

-- no table was computed, and no query was added or removed
pub none_placed : (nodes : ℕ) (t : Tabled) (places : ℕ) → PlacesOfBoth false 0 0 nodes t t places places
none_placed nodes t places = record { between = places; tables = λ n le. omega arith; counting = λ n le. omega arith; unasked = λ _. refl }

pub none_placed_part : (few nodes : ℕ) (t : Tabled) (places : ℕ) → AreWithin nodes t → PlacesPartOfBoth false few nodes t places places
none_placed_part few nodes t places within = record {
  between = places;
  tables = λ n least le. let sums = sum_within n nodes le t.covered within.covered in omega (arith, sums);
  counting = λ n least le. let sums = sum_within n nodes le t.counted within.counted in omega (arith, sums);
  unasked = λ _. refl;
}

-- the numbers of each kind are changed alike
changed_placed : (queries nodes places : ℕ) (change : Named ℕ → Named ℕ) → ((ps : Named ℕ) → AllByRecursion (λ p. p.1 ≤ nodes) ps → Places queries 0 nodes ps (change ps) places places)
    → (old new : Tabled) → new.covered ≡ change old.covered → new.counted ≡ change old.counted → AreWithin nodes old → PlacesOfBoth false queries 0 nodes old new places places
changed_placed queries nodes places change step old new covered counted h = record {
  between = places;
  tables = one old.covered new.covered covered h.covered;
  counting = one old.counted new.counted counted h.counted;
  unasked = λ _. refl;
}
  where
    one : (ps qs : Named ℕ) → qs ≡ change ps → AllByRecursion (λ p. p.1 ≤ nodes) ps → Places queries 0 nodes ps qs places places
    one ps qs is within = subst (λ (c : Named ℕ). Places queries 0 nodes ps c places places) (sym is) (step ps within)

pub put_placed : (nodes places : ℕ) (old new : Tabled) (name : List ℕ) → new.covered ≡ put old.covered name 0 → new.counted ≡ put old.counted name 0 → AreWithin nodes old → PlacesOfBoth false 1 0 nodes old new places places
put_placed nodes places old new name covered counted h =
    changed_placed 1 nodes places (λ ps. put ps name 0) (λ ps within n le. let step = put-places n ps name (within-more nodes n ps le within) in omega (arith, step)) old new covered counted h

pub take_placed : (nodes places : ℕ) (old new : Tabled) (name : List ℕ) → new.covered ≡ taken_out old.covered name → new.counted ≡ taken_out old.counted name → AreWithin nodes old → PlacesOfBoth false 0 0 nodes old new places places
take_placed nodes places old new name covered counted h =
    changed_placed 0 nodes places (λ ps. taken_out ps name) (λ ps within n le. let step = take-places n ps name (within-more nodes n ps le within) in omega (arith, step)) old new covered counted h

-- tables of nodes were computed
one_grown : (nodes p q : ℕ) (old new : Named ℕ) → ArePartlyAt nodes old new → q + sum_of old ≡ p + sum_of new → Places 0 0 nodes old new p q
one_grown nodes p q old new partly steps = λ n le. let same = ap (λ k. n * k) (partly-length nodes old new partly) in omega (arith, same, steps)

one_grown_part : (nodes p q : ℕ) (old new : Named ℕ) → AllByRecursion (λ x. x.1 ≤ nodes) new → ArePartlyAt nodes old new → q + sum_of old ≡ p + sum_of new → PlacesPart nodes nodes old p q
one_grown_part nodes p q old new within partly steps = λ n few le.
    let same = ap (λ k. n * k) (partly-length nodes old new partly) in
    let sums = sum_within n nodes le new within in
    omega (arith, same, sums, steps)

module _ (asked : Bool) (ns : List Node) (old new : Book) (p q : ℕ) (grown : GrowsTables asked ns old new p q) where
  pub grown_placed : PlacesOfBoth asked 0 0 (length ns) (tables_of old) (tables_of new) p q
  grown_placed = record {
    between = grown.between;
    tables = one_grown (length ns) p grown.between (covered_of old) (covered_of new) grown.tables grown.tables_paid;
    counting = one_grown (length ns) grown.between q (counted_of old) (counted_of new) grown.counts grown.counts_paid;
    unasked = grown.unasked;
  }

  pub grown_placed_part : PlacesPartOfBoth asked (length ns) (length ns) (tables_of old) p q
  grown_placed_part =
      let within = tables-within ns new grown.serves in
      record {
        between = grown.between;
        tables = one_grown_part (length ns) p grown.between (covered_of old) (covered_of new) within.covered grown.tables grown.tables_paid;
        counting = one_grown_part (length ns) grown.between q (counted_of old) (counted_of new) within.counted grown.counts grown.counts_paid;
        unasked = grown.unasked;
      }

-- ---- the lines so far
pub places_go_on : (asked counts : Bool) (queries dropped count fell nodes more : ℕ) (old new : Tabled) (before now after : ℕ) → nodes ≤ more + fell → PlacesSoFar asked queries dropped nodes old before now
    → PlacesOfBoth counts count fell more old new now after → PlacesSoFar (asked || counts) (queries + count) (dropped + fell) more new before after
places_go_on asked counts queries dropped count fell nodes more old new before now after grown so_far step = record {
  both = λ n le.
      let here = so_far.both (n + fell) (omega (arith, grown, le)) in
      let tables = step.tables n le in
      let counting = step.counting n le in
      omega (arith, here, tables, counting);
  unasked = λ is n le.
      let none = neither asked counts is in
      let here = so_far.unasked none.0 (n + fell) (omega (arith, grown, le)) in
      let tables = step.tables n le in
      let same = step.unasked none.1 in
      omega (arith, here, tables, same);
}

-- and so the computed tables are at most one for each node and query, and as many more if a line asked for them
pub places_few : (asked : Bool) (queries dropped nodes : ℕ) (t : Tabled) (before now n : ℕ) → AreWithin nodes t → nodes ≤ n → PlacesSoFar asked queries dropped nodes t before now
    → now ≤ before + (if asked then 2 else 1) * (queries * (n + dropped))
places_few true queries dropped nodes t before now n is le so_far =
    let here = so_far.both n le in
    let sums = sum_within n nodes le t.covered is.covered in
    let counts = sum_within n nodes le t.counted is.counted in
    omega (arith, here, sums, counts)
places_few false queries dropped nodes t before now n is le so_far =
    let here = so_far.unasked refl n le in
    let sums = sum_within n nodes le t.covered is.covered in
    omega (arith, here, sums)

-- also with the line in which the run was stopped
pub places_few_part : (asked counts : Bool) (queries dropped nodes more : ℕ) (t : Tabled) (before now after n : ℕ) → nodes ≤ n → more ≤ n → PlacesSoFar asked queries dropped nodes t before now
    → PlacesPartOfBoth counts nodes more t now after → after ≤ before + (if asked || counts then 2 else 1) * (queries * (n + dropped))
places_few_part true counts queries dropped nodes more t before now after n few le so_far step =
    let here = so_far.both n few in
    let tables = step.tables n few le in
    let counting = step.counting n few le in
    omega (arith, here, tables, counting)
places_few_part false true queries dropped nodes more t before now after n few le so_far step =
    let here = so_far.both n few in
    let tables = step.tables n few le in
    let counting = step.counting n few le in
    omega (arith, here, tables, counting)
places_few_part false false queries dropped nodes more t before now after n few le so_far step =
    let here = so_far.unasked refl n few in
    let tables = step.tables n few le in
    let same = step.unasked refl in
    omega (arith, here, tables, same)
