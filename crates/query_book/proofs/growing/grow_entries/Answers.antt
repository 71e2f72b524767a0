use Rattle.std.proofs.Common.{ℕ, suc, List, sym, subst, arith, add-one}
use Rattle.slp_model.specs.declared.Node.{Node}
use Rattle.query_book.specs.declared.entry.TabledQuery.{TabledQuery}
use Rattle.query_book.specs.Growing.{ChangesFirst, MayGrow, Grows}
use Rattle.query_book.proofs.Growth.{changes-length, changes-step, changes-map, changes-all, sound-after, served-after}
use Rattle.query_book.proofs.growing.grow_entries.Goals as goal

-- a query with all tables is one that may have got tables
may : (ns : List Node) (v w : TabledQuery) → Grows ns v w → MayGrow ns v w
may ns v w h = h.may

pub grow_at-requires-clause-index : goal.grow_at-requires-clause-index
grow_at-requires-clause-index g c κs within =
    let h = changes-length (Grows c.args.lent.store.now) c.loop-index.index c.args.by_name.now c.loop-index.by_name c.loop-index.invariant.changed in
    omega (arith, h, c.loop-index-test.true, c.count-index-end.ensures.count)

pub grow_at-requires-clause-kept : goal.grow_at-requires-clause-kept
grow_at-requires-clause-kept g c κs within =
    let h = changes-map (Grows c.args.lent.store.now) (MayGrow c.args.lent.store.now) (may c.args.lent.store.now) c.loop-index.index c.args.by_name.now c.loop-index.by_name c.loop-index.invariant.changed in
    sound-after c.args.lent.store.now c.args.by_name.now c.loop-index.by_name c.requires.kept (changes-all c.args.lent.store.now c.loop-index.index c.args.by_name.now c.loop-index.by_name c.requires.kept c.requires.served h)

pub grow_at-requires-clause-served : goal.grow_at-requires-clause-served
grow_at-requires-clause-served g c κs within =
    let h = changes-map (Grows c.args.lent.store.now) (MayGrow c.args.lent.store.now) (may c.args.lent.store.now) c.loop-index.index c.args.by_name.now c.loop-index.by_name c.loop-index.invariant.changed in
    served-after c.args.lent.store.now c.args.by_name.now c.loop-index.by_name (changes-all c.args.lent.store.now c.loop-index.index c.args.by_name.now c.loop-index.by_name c.requires.kept c.requires.served h)

pub returns-in_err-grow_at-clause-some : goal.returns-in_err-grow_at-clause-some
returns-in_err-grow_at-clause-some g c =
    let h = changes-map (Grows c.args.lent.store.now) (MayGrow c.args.lent.store.now) (may c.args.lent.store.now) c.loop-index.index c.args.by_name.now c.loop-index.by_name c.loop-index.invariant.changed in
    changes-all c.args.lent.store.now (suc c.loop-index.index) c.args.by_name.now c.grow_at.new.by_name c.requires.kept c.requires.served
    (changes-step (MayGrow c.args.lent.store.now) c.loop-index.index c.args.by_name.now c.loop-index.by_name c.grow_at.new.by_name h c.in_err-grow_at.ensures.some)

pub loop-index-preserved : goal.loop-index-preserved
loop-index-preserved g c = record {
  changed = subst (λ (n : ℕ). ChangesFirst (Grows c.args.lent.store.now) n c.args.by_name.now c.grow_at.new.by_name) (sym (add-one c.loop-index.index))
      (changes-step (Grows c.args.lent.store.now) c.loop-index.index c.args.by_name.now c.loop-index.by_name c.grow_at.new.by_name c.loop-index.invariant.changed c.in_ok-grow_at.ensures.all);
  steps = omega (arith, c.in_ok-grow_at.ensures.steps, c.loop-index.invariant.steps);
}

pub returns-clause-some : goal.returns-clause-some
returns-clause-some g c =
    let h = changes-map (Grows c.args.lent.store.now) (MayGrow c.args.lent.store.now) (may c.args.lent.store.now) c.loop-index.index c.args.by_name.now c.loop-index.by_name c.loop-index.invariant.changed in
    changes-all c.args.lent.store.now c.loop-index.index c.args.by_name.now c.loop-index.by_name c.requires.kept c.requires.served h
