-- Compositions that were computed: one more, and two pieces joined.
use Rattle.std.proofs.Common.{◌≡◌, ℕ, ◌+◌, ◌<◌, ◌++◌, ◌∷◌, [], ◌∙◌, List, length, map, take, get_or, ap, sym}
use Rattle.std.proofs.lemmas.List.{map-append, take_more}
use Rattle.std.proofs.lemmas.List.Elements.{All-append, All-push}
use Rattle.path_counts.specs.Counting.{CountRow}
use Rattle.count_tables.specs.Ahead.{AreMade, IsMade}
use Rattle.count_tables.specs.declared.pieces.Job.{Job}
use Rattle.count_tables.specs.declared.pieces.Made.{Made}

pub made-push : (kept : List (List CountRow)) (jobs : List Job) (i : ℕ) (first : Job) (made : List Made) (m : Made) → i < length jobs → AreMade kept (take i jobs) made → m.job ≡ get_or jobs i first → IsMade kept m
    → AreMade kept (take (i + 1) jobs) (made ++ m ∷ [])
made-push kept jobs i first made m lt are job is = record {
  in_order = map-append (λ (x : Made). x.job) made (m ∷ []) ∙ (ap (λ (js : List Job). js ++ m.job ∷ []) are.in_order ∙ (ap (λ (j : Job). take i jobs ++ j ∷ []) job ∙ sym (take_more jobs i first lt)));
  each = All-push (IsMade kept) made m are.each is;
}

pub made-joined : (kept : List (List CountRow)) (left right jobs : List Job) (first second : List Made) → AreMade kept left first → AreMade kept right second → jobs ≡ left ++ right → AreMade kept jobs (first ++ second)
made-joined kept left right jobs first second low high is = record {
  in_order = map-append (λ (x : Made). x.job) first second ∙ (ap (λ (js : List Job). js ++ map (λ (x : Made). x.job) second) low.in_order ∙ (ap (λ (js : List Job). left ++ js) high.in_order ∙ sym is));
  each = All-append (IsMade kept) first second low.each high.each;
}
