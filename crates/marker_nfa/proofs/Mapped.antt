-- A list made from another, element by element.
use Rattle.std.proofs.Common.{◌≡◌, ◌≢◌, ℕ, zero, suc, ◌+◌, ◌-◌, ◌<◌, refl, ap, sym, subst, ◌∙◌, arith, Bool, List, [], ◌∷◌, ◌++◌, length, map, take, get_or, Contains, AllPairs, slice_index_or}
use Rattle.std.proofs.lemmas.List.Elements.{Contains-get_or}
use Rattle.marker_nfa.specs.Automaton.{AreLettersOf}
use Rattle.marker_nfa.specs.Parts.{LeadWithin, edge_of}
use Rattle.marker_nfa.specs.declared.lists.Hop.{Hop}
use Rattle.marker_nfa.specs.declared.nfa.Edge.{Edge}

more : {X Y : Type 0} (f : X → Y) (xs : List X) (k : ℕ) (d : X) → k < length xs → map f (take (suc k) xs) ≡ map f (take k xs) ++ f (get_or xs k d) ∷ []
more f [] k d lt = absurd (omega (arith, lt))
more f (x ∷ xs) zero d lt = refl
more f (x ∷ xs) (suc k) d lt = ap (λ l. f x ∷ l) (more f xs k d (omega (arith, lt)))

pub map_more : {X Y : Type 0} (f : X → Y) (xs : List X) (k : ℕ) (d : X) → k < length xs → map f (take (k + 1) xs) ≡ map f (take k xs) ++ f (get_or xs k d) ∷ []
map_more f xs k d lt =
    let e : k + 1 ≡ suc k = omega arith in
    ap (λ n. map f (take n xs)) e ∙ more f xs k d lt

pub length_map : {X Y : Type 0} (f : X → Y) (xs : List X) → length (map f xs) ≡ length xs
length_map f [] = refl
length_map f (x ∷ xs) = ap suc (length_map f xs)

get_map : {X Y : Type 0} (f : X → Y) (xs : List X) (k : ℕ) (d : X) (e : Y) → k < length xs → slice_index_or (map f xs) k e ≡ f (slice_index_or xs k d)
get_map f [] k d e lt = absurd (omega (arith, lt))
get_map f (x ∷ xs) zero d e lt = refl
get_map f (x ∷ xs) (suc k) d e lt = get_map f xs k d e (omega (arith, lt))

pub map_has : {X Y : Type 0} (f : X → Y) (d : X) (xs : List X) (y : Y) → Contains (map f xs) y → (x : X) × Contains xs x × (y ≡ f x)
map_has f d xs y c =
    let lt : c.0 < length xs = omega (arith, c.1, length_map f xs) in
    (slice_index_or xs c.0 d, Contains-get_or xs c.0 d lt, sym c.2 ∙ get_map f xs c.0 d y lt)

pub has_map : {X Y : Type 0} (f : X → Y) (xs : List X) (x : X) → Contains xs x → Contains (map f xs) (f x)
has_map f xs x c =
    let lt : c.0 < length (map f xs) = omega (arith, c.1, length_map f xs) in
    (c.0, lt, get_map f xs c.0 x (f x) c.1 ∙ ap f c.2)

-- different elements stay different
pub pairs_map : {X Y : Type 0} (f : X → Y) (d : X) (xs : List X) → ((x y : X) → f x ≡ f y → x ≡ y) → AllPairs (λ x y. x ≢ y) xs → AllPairs (λ x y. x ≢ y) (map f xs)
pairs_map f d xs same h i j e lt le q =
    let len = length_map f xs in
    let lj : j < length xs = omega (arith, le, len) in
    let li : i < length xs = omega (arith, lt, lj) in
    h i j d lt lj (same _ _ (sym (get_map f xs i d e li) ∙ q ∙ get_map f xs j d e lj))

-- the letters of each edge are in the list from which they were taken
pub letters_of_hops : (letters : List (List Bool)) (hops : List Hop) → LeadWithin (length letters) hops → AreLettersOf (map (edge_of letters) hops) letters
letters_of_hops letters hops h e c =
    let p = map_has (edge_of letters) (record { from = 0; mark = 0; to = 0 }) hops e c in
    let w = h p.0 p.1 in
    subst (λ (y : Edge). Contains letters y.letters) (sym p.2) (Contains-get_or letters (p.0.to - 1) [] (omega (arith, w.0, w.1)))
