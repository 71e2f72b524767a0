use Rattle.std.proofs.Common.{◌≡◌, ◌++◌, ◌∷◌, [], ◌+◌, ◌∙◌, sym, ap, append_assoc, arith, length}
use Rattle.std.proofs.lemmas.List.{length-append}
use Rattle.std.specs.Vec.Iter.{into_iter_items}
use Rattle.table_grow.specs.Filling.{Filling}
use Rattle.table_grow.proofs.Growing.{kept-trans}
use Rattle.table_grow.proofs.Spots.{made-at, made-kept, numbers-push}
use Rattle.table_grow.proofs.place.keep_made.Goals as goal

pub keep-requires : goal.keep-requires
keep-requires c = record {
  made = made-kept c.args.filling.now.tables c.loop-one.filling.tables c.in-Some.one c.loop-one.invariant.kept
      (made-at c.args.filling.now.tables c.loop-one.yielded (into_iter_items c.next.new.self) c.args.made.items c.in-Some.one
      (ap (λ l. c.loop-one.yielded ++ l) (sym c.in-Some.ensures.steps.0) ∙ c.loop-one.invariant.items) c.requires.made);
}

pub loop-one-preserved : goal.loop-one-preserved
loop-one-preserved c =
    let at = c.loop-one in
    let now = c.keep.new.self in
    let x = c.in-Some.one in
    let steps : into_iter_items at.one-iterator ≡ x ∷ into_iter_items c.next.new.self = c.in-Some.ensures.steps.0 in
    let number = c.in_ok-number.ensures.number in
    record {
      items = append_assoc at.yielded (x ∷ []) _ ∙ rw (← steps) at.invariant.items;
      len = (let was = at.invariant.len in let gone = c.in-Some.ensures.steps.1 in let short = ap length steps in omega arith);
      kept = kept-trans c.args.filling.now.tables at.filling.tables now.tables at.invariant.kept c.keep.ensures.kept;
      same = c.keep.ensures.same ∙ ap (λ (s : Filling). record s { tables = now.tables; entries = now.entries }) at.invariant.same;
      size = rw c.in_ok-push.ensures.items (length-append at.numbers.items (c.in_ok-number.number ∷ []) ∙ ap (λ n. n + 1) at.invariant.size ∙ sym (length-append at.yielded (x ∷ [])));
      numbers = rw c.in_ok-push.ensures.items
          (numbers-push at.filling.tables now.tables at.yielded at.numbers.items x c.in_ok-number.number c.keep.ensures.kept at.invariant.size at.invariant.numbers number.0 number.1);
    }
