use Rattle.std.proofs.Common.{◌∷◌, ◌∙◌, ℕ, ap, refl, sym, subst}
use Rattle.line_parts.proofs.Cuts.{not_true}
use Rattle.span_cursor.specs.Entries.{IsMore}
use Rattle.span_cursor.proofs.TupleLemmas.{more_cut, more_join, more_none, same_first}
use Rattle.span_cursor.proofs.ReadLemmas.{empty}
use Rattle.span_cursor.proofs.reading.are_more.Goals as goal

pub returns-then-first-ne44 : goal.returns-then-first-ne44
returns-then-first-ne44 c = (
  (λ t. absurd (not_true t)),
  (λ more. absurd (c.if-first-ne44.true (more_cut c.loop-first.left.now c.in-Some.behind.now c.in-Some.first.now c.in-Some.ensures.cases.0 (c.loop-first.invariant.0 more)).0)),
)

pub returns-in_default-entry_at : goal.returns-in_default-entry_at
returns-in_default-entry_at c = (
  (λ t. absurd (not_true t)),
  (λ more.
      let f = (more_cut c.loop-first.left.now c.in-Some.behind.now c.in-Some.first.now c.in-Some.ensures.cases.0 (c.loop-first.invariant.0 more)).1 in
      absurd (c.in_default-entry_at.ensures f.name f.value f.rest f.entry)),
)

pub loop-first-preserved : goal.loop-first-preserved
loop-first-preserved c = (
  (λ more.
      let f = (more_cut c.loop-first.left.now c.in-Some.behind.now c.in-Some.first.now c.in-Some.ensures.cases.0 (c.loop-first.invariant.0 more)).1 in
      same_first c.in-Some.behind.now c.in-Some-entry_at.field-0-0.now c.in-Some-entry_at.rest.now c.in-Some-entry_at.field-0-1 c.in-Some-entry_at.ensures f),
  (λ more. c.loop-first.invariant.1 (more_join c.loop-first.left.now c.in-Some.behind.now
      (c.in-Some.ensures.cases.0 ∙ ap (λ (b : ℕ). b ∷ c.in-Some.behind.now) c.if-first-ne44.false)
      (record { name = c.in-Some-entry_at.field-0-0.now; value = c.in-Some-entry_at.field-0-1; rest = c.in-Some-entry_at.rest.now; entry = c.in-Some-entry_at.ensures; more = more }))),
)

pub returns : goal.returns
returns c = (
  (λ _. c.loop-first.invariant.1 (subst IsMore (sym (empty c.loop-first.left.now c.in_default.ensures.cases)) more_none)),
  (λ _. refl),
)
