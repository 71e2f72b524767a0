use Rattle.std.proofs.Common.{◌≡◌, ◌≤◌, ◌<◌, ◌-◌, ◌∙◌, ap, sym, subst, arith, length, map, get_or, None, Some, IsSome, ℕ, List}
use Rattle.std.proofs.lemmas.List.{length-map}
use Rattle.state_tables.specs.Coded.{step_of}
use Rattle.state_tables.specs.Dictionary.{distinct_of}
use Rattle.table_grow.specs.Assignment.{AllAssigned, Assignment}
use Rattle.table_grow.proofs.Placed.{entry-some, place-read}
use Rattle.table_grow.proofs.filler.Filler.finish.Goals as goal

-- the number in an entry of a filler whose nodes are all assigned
number-at : (f : Assignment) (places codes : List ℕ) (at : ℕ) → f.places ≡ map step_of places → codes ≡ places → AllAssigned f → at < length codes
    → (1 ≤ get_or codes at 0) × (get_or f.places at None ≡ Some (get_or codes at 0 - 1))
number-at f places codes at view same all lt =
    let read : get_or f.places at None ≡ step_of (get_or codes at 0) = ap (λ l. get_or l at None) view ∙ ap (λ l. get_or (map step_of l) at None) (sym same) ∙ place-read codes at in
    let size : length f.places ≡ length codes = ap length view ∙ length-map places step_of ∙ ap length (sym same) in
    let some = entry-some (get_or codes at 0) (subst IsSome read (all at (omega (arith, size, lt)))) in
    (some.0, read ∙ some.1)

pub overflow_sub-entry : goal.overflow_sub-entry
overflow_sub-entry g c =
    let is = number-at c.args.self c.self.inside.places.items c.deref-entry-items.result.now c.loop-entry.entry-index (ap (λ f. f.places) (sym c.self.view_is)) c.deref-entry-items.ensures.value c.requires.all_placed c.loop-entry-test.true in
    omega (arith, is.0)

pub push-requires-clause-kept : goal.push-requires-clause-kept
push-requires-clause-kept g c =
    let codes = c.deref-entry-items.result.now in
    let at = c.loop-entry.entry-index in
    let is = number-at c.args.self c.self.inside.places.items codes at (ap (λ f. f.places) (sym c.self.view_is)) c.deref-entry-items.ensures.value c.requires.all_placed c.loop-entry-test.true in
    subst (λ n. get_or codes at 0 - 1 < n) (sym (ap distinct_of c.loop-entry.invariant.tables)) (c.requires.kept_fit at (get_or codes at 0 - 1) is.1)
