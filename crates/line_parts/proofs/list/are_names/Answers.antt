use Rattle.std.proofs.Common.{sym, ◌∙◌}
use Rattle.line_parts.proofs.Cuts.{not_true}
use Rattle.line_parts.proofs.Names.{listed_cut, listed_join, listed_one, one_listed}
use Rattle.line_parts.proofs.list.are_names.Goals as goal

pub returns-then-not-is_well_named : goal.returns-then-not-is_well_named
returns-then-not-is_well_named c = (
  λ t. absurd (not_true t),
  λ listed.
      let parts = listed_cut c.loop-name.rest.now c.in-Some.name.now c.in-Some.more.now c.in-Some.ensures.0 c.in-Some.ensures.1 (c.loop-name.invariant.0 listed) in
      sym c.if-not-is_well_named.true ∙ c.is_well_named.ensures ∙ parts.0,
)

pub loop-name-preserved : goal.loop-name-preserved
loop-name-preserved c = (
  (λ listed. (listed_cut c.loop-name.rest.now c.in-Some.name.now c.in-Some.more.now c.in-Some.ensures.0 c.in-Some.ensures.1 (c.loop-name.invariant.0 listed)).1),
  (λ more. c.loop-name.invariant.1 (listed_join c.loop-name.rest.now c.in-Some.name.now c.in-Some.more.now c.in-Some.ensures.0 (sym c.is_well_named.ensures ∙ c.if-not-is_well_named.false) more)),
)

pub returns : goal.returns
returns c = (
  (λ t. c.loop-name.invariant.1 (listed_one c.loop-name.rest.now (sym c.is_well_named-2.ensures ∙ t))),
  (λ listed. c.is_well_named-2.ensures ∙ one_listed c.loop-name.rest.now c.in_default.ensures (c.loop-name.invariant.0 listed)),
)
