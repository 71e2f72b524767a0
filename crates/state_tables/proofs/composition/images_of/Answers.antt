use Rattle.std.proofs.Common.{◌≡◌, ℕ, ◌<◌, ◌++◌, ◌∷◌, [], List, length-take-le, ap, sym, ◌∙◌, arith, length, map, take, get_or}
use Rattle.std.proofs.lemmas.List.{length-map, map-append, take_all, take_more}
use Rattle.state_tables.specs.StateSet.{number_of_words}
use Rattle.state_tables.specs.Table.{reach}
use Rattle.state_tables.specs.Coded.{SetList, list_of, table_of}
use Rattle.state_tables.proofs.composition.images_of.Goals as goal

pub loop-set-init : goal.loop-set-init
loop-set-init c = record {
  width = ap (λ i. i.width) c.in_ok-images.ensures ∙ c.width.ensures;
  sets = ap (λ i. i.sets) c.in_ok-images.ensures;
}

pub push_image-requires-clause-few : goal.push_image-requires-clause-few
push_image-requires-clause-few c =
    let f = λ (set : ℕ). reach set 0 (table_of c.args.classes.now (list_of c.args.rows.now).rows) in
    omega (arith, ap length c.loop-set.invariant.sets, length-map (take c.loop-set.set c.args.left.now.sets) f, length-take-le c.loop-set.set c.args.left.now.sets, c.requires.few, c.requires.right.few)

pub loop-set-preserved : goal.loop-set-preserved
loop-set-preserved c =
    let cs = c.args.classes.now in
    let list = list_of c.args.rows.now in
    let t = table_of cs list.rows in
    let f = λ (set : ℕ). reach set 0 t in
    let k = c.loop-set.set in
    let sets = c.args.left.now.sets in
    let low : c.loop-set.set < length c.args.left.now.sets = omega (arith, c.loop-set-test.true, c.loop-set.auto.set-end, c.set_count-set-end.ensures) in
    let number : reach (number_of_words c.words.result.now) 0 (table_of c.args.classes.now (list_of c.args.rows.now).rows)
    ≡ reach (get_or c.args.left.now.sets c.loop-set.set 0) 0 (table_of c.args.classes.now (list_of c.args.rows.now).rows) =
    ap f (c.words.ensures.number ∙ c.set.ensures.set) in
    record {
      width = ap (λ s. s.width) c.in_ok-push_image.ensures ∙ c.loop-set.invariant.width;
      sets = ap (λ s. s.sets) c.in_ok-push_image.ensures ∙ ap (λ l. l ++ f (number_of_words c.words.result.now) ∷ []) c.loop-set.invariant.sets ∙ ap (λ n. map f (take k sets) ++ n ∷ []) number
          ∙ sym (ap (map f) (take_more sets k 0 low) ∙ map-append f (take k sets) (get_or sets k 0 ∷ []));
    }

pub returns : goal.returns
returns c =
    let make : ℕ → List ℕ → SetList = λ w l. record { width = w; sets = l } in
    let f = λ (set : ℕ). reach set 0 (table_of c.args.classes.now (list_of c.args.rows.now).rows) in
    let sets = c.args.left.now.sets in
    ap (λ w. make w c.loop-set.images.sets) c.loop-set.invariant.width
    ∙ ap (make c.args.rows.now.width) (c.loop-set.invariant.sets ∙ ap (map f) (take_all c.loop-set.set sets (omega (arith, c.loop-set-test.false, c.loop-set.auto.set-end, c.set_count-set-end.ensures))))
