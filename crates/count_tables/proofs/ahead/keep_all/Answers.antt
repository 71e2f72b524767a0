use Rattle.std.proofs.Common.{◌≡◌, ◌++◌, ◌∷◌, [], ◌∙◌, ℕ, sym, subst, ap, append_assoc, arith, length}
use Rattle.std.specs.Vec.Iter.{into_iter_items}
use Rattle.count_tables.specs.Ahead.{IsJob, IsMade}
use Rattle.count_tables.specs.declared.pieces.Made.{Made}
use Rattle.count_tables.proofs.Entries.{all-at, job-extend, made-extend}
use Rattle.count_tables.proofs.Growing.{extends-on}
use Rattle.count_tables.proofs.ahead.keep_all.Goals as goal

-- the next composition is one of those that were given
next : (g : _) (c : goal.After-keep_one-arg-in-loop-one-2-1 g) → c.loop-one.yielded ++ c.in-Some.one ∷ into_iter_items c.next.new.self ≡ c.args.made.items
next g c = ap (λ l. c.loop-one.yielded ++ l) (sym c.in-Some.ensures.steps.0) ∙ c.loop-one.invariant.items

pub keep_one-requires-clause-job : goal.keep_one-requires-clause-job
keep_one-requires-clause-job g c =
    let a = c.args.growth.now.dfa.now in
    let nodes = c.args.growth.now.store.now in
    let known = length c.args.numbers.now in
    let x = c.in-Some.one in
    let first : IsJob a nodes c.args.kept.now known (length c.args.found.now) x.job =
    all-at (λ (m : Made). IsJob a nodes c.args.kept.now known (length c.args.found.now) m.job) c.loop-one.yielded (into_iter_items c.next.new.self) c.args.made.items x (next g c) c.requires.jobs in
    subst (λ (n : ℕ). IsJob a nodes c.loop-one.kept known n x.job) (sym c.loop-one.auto.found) (job-extend a nodes c.args.kept.now c.loop-one.kept known (length c.args.found.now) x.job c.loop-one.invariant.extends first)

pub keep_one-requires-clause-made : goal.keep_one-requires-clause-made
keep_one-requires-clause-made g c =
    let a = c.args.growth.now.dfa.now in
    let nodes = c.args.growth.now.store.now in
    let x = c.in-Some.one in
    let job = all-at (λ (m : Made). IsJob a nodes c.args.kept.now (length c.args.numbers.now) (length c.args.found.now) m.job) c.loop-one.yielded (into_iter_items c.next.new.self) c.args.made.items x (next g c) c.requires.jobs in
    made-extend c.args.kept.now c.loop-one.kept x job.left job.right c.loop-one.invariant.extends (all-at (IsMade c.args.kept.now) c.loop-one.yielded (into_iter_items c.next.new.self) c.args.made.items x (next g c) c.requires.made)

pub returns-in_err-keep_one-clause-extends : goal.returns-in_err-keep_one-clause-extends
returns-in_err-keep_one-clause-extends g c = extends-on c.args.kept.now c.loop-one.kept c.keep_one.new.kept c.loop-one.invariant.extends c.keep_one.ensures.extends

pub loop-one-preserved : goal.loop-one-preserved
loop-one-preserved g c =
    let at = c.loop-one in
    let x = c.in-Some.one in
    let steps : into_iter_items at.one-iterator ≡ x ∷ into_iter_items c.next.new.self = c.in-Some.ensures.steps.0 in
    record {
      items = append_assoc at.yielded (x ∷ []) _ ∙ rw (← steps) at.invariant.items;
      len = (let was = at.invariant.len in let gone = c.in-Some.ensures.steps.1 in let short = ap length steps in omega arith);
      found = c.keep_one.ensures.found;
      entries = c.keep_one.ensures.entries;
      extends = extends-on c.args.kept.now at.kept c.keep_one.new.kept at.invariant.extends c.keep_one.ensures.extends;
    }
