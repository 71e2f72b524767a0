use Rattle.std.proofs.Common.{ℕ, sym, subst, arith, add-one}
use Rattle.query_book.specs.Growing.{ChangesFirst}
use Rattle.query_book.specs.Renumbering.{Renumbers}
use Rattle.query_book.proofs.Growth.{changes-length, changes-step}
use Rattle.query_book.proofs.Renumbered.{within-after, sound-after}
use Rattle.query_book.proofs.renumbering.renumber_entries.Goals as goal

pub renumber_at-requires-clause-index : goal.renumber_at-requires-clause-index
renumber_at-requires-clause-index c =
    let h = changes-length (Renumbers c.args.moves.now) c.loop-index.index c.args.by_name.now c.loop-index.by_name c.loop-index.invariant in
    omega (arith, h, c.loop-index-test.true, c.count-index-end.ensures.count)

pub renumber_at-requires-clause-kept : goal.renumber_at-requires-clause-kept
renumber_at-requires-clause-kept c =
    sound-after c.args.moves.now c.loop-index.index c.args.by_name.now c.loop-index.by_name c.requires.kept c.loop-index.invariant

pub renumber_at-requires-clause-within : goal.renumber_at-requires-clause-within
renumber_at-requires-clause-within c =
    within-after c.args.moves.now c.loop-index.index c.args.by_name.now c.loop-index.by_name c.requires.within c.loop-index.invariant

pub loop-index-preserved : goal.loop-index-preserved
loop-index-preserved c =
    subst (λ (n : ℕ). ChangesFirst (Renumbers c.args.moves.now) n c.args.by_name.now c.renumber_at.new.by_name) (sym (add-one c.loop-index.index))
    (changes-step (Renumbers c.args.moves.now) c.loop-index.index c.args.by_name.now c.loop-index.by_name c.renumber_at.new.by_name c.loop-index.invariant c.renumber_at.ensures)
