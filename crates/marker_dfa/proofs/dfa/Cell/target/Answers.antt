use Rattle.std.proofs.Common.{ℕ, List, sym, ap, subst, ◌∙◌, length, slice_get, rules}
use Rattle.std.proofs.lemmas.Fn.{always_returns_same}
use Rattle.std.specs.List.Sorted.{IsBinarySearchResult, IsSearchInRange}
use Rattle.std.specs.Ordering.{nat_cmp}
use Rattle.marker_dfa.proofs.Finding.{copied_get, found_by, missing_by}
use Rattle.marker_dfa.proofs.dfa.Cell.target.Goals as goal

pub returns-in-Ok : goal.returns-in-Ok
returns-in-Ok c =
    let ms = c.args.self.now.marks.items in
    let facts = c.binary_search_by.ensures in
    let by_mark = facts.position (λ y. nat_cmp c.args.mark y) (always_returns_same _ _ _ (λ a r f called. search rules)) in
    let bound = subst (λ (l : List ℕ). IsSearchInRange c.binary_search_by.result (length l)) c.deref.ensures.value facts.bound in
    let position = subst (λ (l : List ℕ). IsBinarySearchResult (λ y. nat_cmp c.args.mark y) l c.binary_search_by.result) c.deref.ensures.value by_mark in
    let f = found_by ms c.args.self.now.targets.items c.args.mark c.binary_search_by.result c.in-Ok.index c.in-Ok.is c.requires bound position in
    c.copied.ensures ∙ copied_get c.get.result c.deref-in-Ok.result.now c.in-Ok.index c.get.ensures.lookup ∙ ap (λ l. slice_get l c.in-Ok.index) c.deref-in-Ok.ensures.value ∙ sym f

pub returns-in-Err : goal.returns-in-Err
returns-in-Err c =
    let ms = c.args.self.now.marks.items in
    let facts = c.binary_search_by.ensures in
    let by_mark = facts.position (λ y. nat_cmp c.args.mark y) (always_returns_same _ _ _ (λ a r f called. search rules)) in
    let bound = subst (λ (l : List ℕ). IsSearchInRange c.binary_search_by.result (length l)) c.deref.ensures.value facts.bound in
    let position = subst (λ (l : List ℕ). IsBinarySearchResult (λ y. nat_cmp c.args.mark y) l c.binary_search_by.result) c.deref.ensures.value by_mark in
    sym (missing_by ms c.args.self.now.targets.items c.args.mark c.binary_search_by.result c.in-Err.field-0 c.in-Err.is c.requires bound position)
