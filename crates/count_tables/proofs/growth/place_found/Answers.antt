use Rattle.std.proofs.Common.{suc, ◌≡◌, ◌+◌, ◌∙◌, length, slice_get, Some, ap, sym, subst, arith}
use Rattle.std.proofs.lemmas.Option.{slice_get-get_or}
use Rattle.count_tables.specs.Ahead.{HasTable}
use Rattle.count_tables.proofs.Entries.{has-extend}
use Rattle.count_tables.proofs.Growing.{extends-on, prefix-on}
use Rattle.count_tables.proofs.growth.place_found.Goals as goal

pub place_next-requires-clause-entry : goal.place_next-requires-clause-entry
place_next-requires-clause-entry g c κs within = λ n h.
    let a = c.args.growth.now.dfa.now in
    let nodes = c.args.growth.now.store.now in
    let at = c.loop-entry in
    let entry : slice_get c.args.found.now at.entry-index ≡ Some (suc n) = slice_get-get_or c.args.found.now at.entry-index 0 c.loop-entry-test.true ∙ ap Some h in
    let has = has-extend a nodes c.args.kept.now at.kept (length c.args.numbers.now.items + at.entry-index) n at.invariant.extends (c.requires.found.entries at.entry-index n entry) in
    subst (λ k. HasTable a nodes at.kept k n) (sym at.invariant.long) has

pub returns-in_err-place_next-clause-prefix : goal.returns-in_err-place_next-clause-prefix
returns-in_err-place_next-clause-prefix g c =
    let at = c.loop-entry in
    let long = at.invariant.long in
    prefix-on c.args.numbers.now.items at.numbers.items c.place_next.new.numbers.items (omega (arith, long)) at.invariant.prefix c.place_next.ensures.prefix

pub returns-in_err-place_next-clause-extends : goal.returns-in_err-place_next-clause-extends
returns-in_err-place_next-clause-extends g c = extends-on c.args.kept.now c.loop-entry.kept c.place_next.new.kept c.loop-entry.invariant.extends c.place_next.ensures.extends

pub loop-entry-preserved : goal.loop-entry-preserved
loop-entry-preserved g c =
    let at = c.loop-entry in
    let new = c.place_next.new in
    let long = at.invariant.long in
    let one = c.in_ok-place_next.ensures.one in
    record {
      long = omega (arith, long, one);
      tables = c.place_next.ensures.tables;
      prefix = prefix-on c.args.numbers.now.items at.numbers.items new.numbers.items (omega (arith, long)) at.invariant.prefix c.place_next.ensures.prefix;
      kept = c.place_next.ensures.kept;
      extends = extends-on c.args.kept.now at.kept new.kept at.invariant.extends c.place_next.ensures.extends;
      entries = c.place_next.ensures.entries;
    }
