use Rattle.std.proofs.Common.{◌≡◌, ◌⊎◌, ◌≤◌, ◌+◌, refl, ap, sym, subst, ℕ, List, Err, length, arith}
use Rattle.std.proofs.lemmas.Result.{err_from_is_err_and}
use Rattle.slp_model.proofs.NodesLemmas.{Grows-none, Grows-trans}
use Rattle.edit_expr.specs.declared.expr.Expr.{Expr}
use Rattle.edit_expr.specs.declared.refusal.EditRefusal.TheVariants.{NoMemory}
use Rattle.doc_book.specs.Texts.{plain}
use Rattle.edit_expr.specs.Eval.{eval, greatest, inserted, joined, operations}
use Rattle.slp_model.specs.Nodes.{text_of}
use Rattle.edit_expr.specs.Values.{IsValue}
use Rattle.edit_expr.specs.Costs.{edit_cost, total_cost}
use Rattle.doc_book.proofs.TextLemmas.{AreLive-grows, plain-grows, text_of-grows}
use Rattle.edit_expr.proofs.PartLemmas.{one_cost, part_of, refused_cost, second_refused, two_cost, two_value, unboxed}
use Rattle.edit_expr.proofs.evaluation.+value.Goals as goal

pub returns-in-Doc-clause-grows : goal.returns-in-Doc-clause-grows
returns-in-Doc-clause-grows g t c = Grows-none _ _ _ (omega arith)

-- `extract`, `delete` and `copy`

pub returns-in_ok-d-in-Extract-clause-grows : goal.returns-in_ok-d-in-Extract-clause-grows
returns-in_ok-d-in-Extract-clause-grows g t c = Grows-trans _ _ _ _ _ _ c.value-in-Extract.ensures.grows c.cut_out.ensures.grows

pub returns-in_ok-d-in-Extract-clause-cost : goal.returns-in_ok-d-in-Extract-clause-cost
returns-in_ok-d-in-Extract-clause-cost g t c n =
    one_cost (plain c.args.store.now c.args.docs.now) c.in-Extract.from.value c.args.expr.now _ _ _ _ n _ (part_of _ _ _ _ _ _ _ refl c.deref-in-Extract.ensures c.in_ok-d-in-Extract.ensures.value.1 c.value-in-Extract.ensures.cost) (ap (greatest (plain c.args.store.now c.args.docs.now)) c.in-Extract.is) (ap (total_cost (edit_cost n)) c.in-Extract.is) (λ h. omega (arith, c.cut_out.ensures.cost n h))

pub returns-in_ok-d-in-Delete-clause-grows : goal.returns-in_ok-d-in-Delete-clause-grows
returns-in_ok-d-in-Delete-clause-grows g t c = Grows-trans _ _ _ _ _ _ c.value-in-Delete.ensures.grows c.delete.ensures.grows

pub returns-in_ok-d-in-Delete-clause-cost : goal.returns-in_ok-d-in-Delete-clause-cost
returns-in_ok-d-in-Delete-clause-cost g t c n =
    one_cost (plain c.args.store.now c.args.docs.now) c.in-Delete.from.value c.args.expr.now _ _ _ _ n _ (part_of _ _ _ _ _ _ _ refl c.deref-in-Delete.ensures c.in_ok-d-in-Delete.ensures.value.1 c.value-in-Delete.ensures.cost) (ap (greatest (plain c.args.store.now c.args.docs.now)) c.in-Delete.is) (ap (total_cost (edit_cost n)) c.in-Delete.is) (λ h. omega (arith, c.delete.ensures.cost n h))

pub returns-in_ok-d-in-Copy-clause-grows : goal.returns-in_ok-d-in-Copy-clause-grows
returns-in_ok-d-in-Copy-clause-grows g t c = Grows-trans _ _ _ _ _ _ c.value-in-Copy.ensures.grows c.copy.ensures.grows

pub returns-in_ok-d-in-Copy-clause-cost : goal.returns-in_ok-d-in-Copy-clause-cost
returns-in_ok-d-in-Copy-clause-cost g t c n =
    one_cost (plain c.args.store.now c.args.docs.now) c.in-Copy.from.value c.args.expr.now _ _ _ _ n _ (part_of _ _ _ _ _ _ _ refl c.deref-in-Copy.ensures c.in_ok-d-in-Copy.ensures.value.1 c.value-in-Copy.ensures.cost) (ap (greatest (plain c.args.store.now c.args.docs.now)) c.in-Copy.is) (ap (total_cost (edit_cost n)) c.in-Copy.is) (λ h. omega (arith, c.copy.ensures.cost n h))

-- `concat`

pub value-requires-in-Concat : goal.value-requires-in-Concat
value-requires-in-Concat g t c κs within =
    let live = AreLive-grows c.args.store.now c.value.new.store c.args.pairs.now c.value.new.pairs c.value.ensures.grows c.args.docs.now c.requires in
    let part : operations c.deref-in-Concat.result.now ≡ operations c.in-Concat.right.value = ap operations c.deref-in-Concat.ensures in
    let whole : operations c.args.expr.now ≡ operations c.in-Concat.left.value + operations c.in-Concat.right.value + 1 = ap operations c.in-Concat.is in
    (omega (arith, c.decreases, part, whole), (within, live))

pub returns-in_err-e-in-Concat : goal.returns-in_err-e-in-Concat
returns-in_err-e-in-Concat g t c =
    let docs = plain c.args.store.now c.args.docs.now in
    let stays = plain-grows c.args.store.now c.value.new.store c.args.pairs.now c.value.new.pairs c.value.ensures.grows c.args.docs.now c.requires in
    let left = part_of docs docs c.in-Concat.left.value c.deref.result.now _ c.args.pairs.now c.value.new.pairs refl c.deref.ensures c.in_ok-d-in-Concat.ensures.value.1 c.value.ensures.cost in
    let why = c.in_err-e-in-Concat.field-0.0 in
    let right = unboxed (λ ds f. (why ≡ NoMemory) ⊎ (eval ds f ≡ Err why)) docs _ c.in-Concat.right.value c.deref-in-Concat.result.now stays c.deref-in-Concat.ensures c.in_err-e-in-Concat.ensures.value in
    let paid = unboxed (λ ds f. (n : ℕ) → greatest ds f ≤ n → c.value-in-Concat.new.pairs ≤ c.value.new.pairs + total_cost (edit_cost n) f) docs _ c.in-Concat.right.value c.deref-in-Concat.result.now stays c.deref-in-Concat.ensures c.value-in-Concat.ensures.cost in
    let told = err_from_is_err_and c.from_residual-in_err-e-in-Concat.result c.from_residual-in_err-e-in-Concat.ensures.1 in
    record {
      grows = Grows-trans _ _ _ _ _ _ c.value.ensures.grows c.value-in-Concat.ensures.grows;
      value = rw (told.1, told.2, c.in-Concat.is) (second_refused docs c.in-Concat.left.value c.in-Concat.right.value _ c.args.pairs.now c.value.new.pairs c.value-in-Concat.new.pairs left joined why right);
      cost = λ n. subst (λ (e : Expr). greatest docs e ≤ n → c.value-in-Concat.new.pairs ≤ c.args.pairs.now + total_cost (edit_cost n) e) (sym c.in-Concat.is)
          (refused_cost docs c.in-Concat.left.value c.in-Concat.right.value _ c.args.pairs.now c.value.new.pairs c.value-in-Concat.new.pairs left paid n _);
    }

pub returns-in_ok-e-in-Concat : goal.returns-in_ok-e-in-Concat
returns-in_ok-e-in-Concat g t c =
    let docs = plain c.args.store.now c.args.docs.now in
    let d = text_of c.value.new.store c.in_ok-d-in-Concat.d in
    let stays = plain-grows c.args.store.now c.value.new.store c.args.pairs.now c.value.new.pairs c.value.ensures.grows c.args.docs.now c.requires in
    let left = part_of docs docs c.in-Concat.left.value c.deref.result.now d c.args.pairs.now c.value.new.pairs refl c.deref.ensures c.in_ok-d-in-Concat.ensures.value.1 c.value.ensures.cost in
    let e = text_of c.value-in-Concat.new.store c.in_ok-e-in-Concat.e in
    let right = part_of docs _ c.in-Concat.right.value c.deref-in-Concat.result.now e c.value.new.pairs c.value-in-Concat.new.pairs stays c.deref-in-Concat.ensures c.in_ok-e-in-Concat.ensures.value.1 c.value-in-Concat.ensures.cost in
    let same : text_of c.value-in-Concat.new.store c.in_ok-d-in-Concat.d ≡ d =
    text_of-grows c.value.new.store c.value-in-Concat.new.store c.value.new.pairs c.value-in-Concat.new.pairs c.value-in-Concat.ensures.grows c.in_ok-d-in-Concat.d c.in_ok-d-in-Concat.ensures.value.0 in
    record {
      grows = Grows-trans _ _ _ _ _ _ (Grows-trans _ _ _ _ _ _ c.value.ensures.grows c.value-in-Concat.ensures.grows) c.join.ensures.grows;
      value = subst (λ (f : Expr). IsValue c.join.new.store c.join.result (eval docs f)) (sym c.in-Concat.is)
          (subst (IsValue c.join.new.store c.join.result)
          (two_value docs c.in-Concat.left.value c.in-Concat.right.value d c.args.pairs.now c.value.new.pairs c.value-in-Concat.new.pairs left e right joined)
          (subst (λ (x : List ℕ). IsValue c.join.new.store c.join.result (joined x e)) same c.join.ensures.value));
      cost = λ n. subst (λ (f : Expr). greatest docs f ≤ n → c.join.new.pairs ≤ c.args.pairs.now + total_cost (edit_cost n) f) (sym c.in-Concat.is)
          (two_cost docs c.in-Concat.left.value c.in-Concat.right.value d c.args.pairs.now c.value.new.pairs c.value-in-Concat.new.pairs left e right c.join.new.pairs n _
          (λ h k. omega (arith, c.join.ensures.cost n (subst (λ (x : List ℕ). length x ≤ n) (sym same) h) k)));
    }

-- `insert`

pub value-requires-in-Insert-2 : goal.value-requires-in-Insert-2
value-requires-in-Insert-2 g t c κs within =
    let live = AreLive-grows c.args.store.now c.value-in-Insert.new.store c.args.pairs.now c.value-in-Insert.new.pairs c.value-in-Insert.ensures.grows c.args.docs.now c.requires in
    let part : operations c.deref-in-Insert-2.result.now ≡ operations c.in-Insert.what.value = ap operations c.deref-in-Insert-2.ensures in
    let whole : operations c.args.expr.now ≡ operations c.in-Insert.into.value + operations c.in-Insert.what.value + 1 = ap operations c.in-Insert.is in
    (omega (arith, c.decreases, part, whole), (within, live))

pub returns-in_err-e-in-Insert : goal.returns-in_err-e-in-Insert
returns-in_err-e-in-Insert g t c =
    let docs = plain c.args.store.now c.args.docs.now in
    let stays = plain-grows c.args.store.now c.value-in-Insert.new.store c.args.pairs.now c.value-in-Insert.new.pairs c.value-in-Insert.ensures.grows c.args.docs.now c.requires in
    let left = part_of docs docs c.in-Insert.into.value c.deref-in-Insert.result.now _ c.args.pairs.now c.value-in-Insert.new.pairs refl c.deref-in-Insert.ensures c.in_ok-d-in-Insert.ensures.value.1 c.value-in-Insert.ensures.cost in
    let why = c.in_err-e-in-Insert.field-0.0 in
    let right = unboxed (λ ds f. (why ≡ NoMemory) ⊎ (eval ds f ≡ Err why)) docs _ c.in-Insert.what.value c.deref-in-Insert-2.result.now stays c.deref-in-Insert-2.ensures c.in_err-e-in-Insert.ensures.value in
    let paid = unboxed (λ ds f. (n : ℕ) → greatest ds f ≤ n → c.value-in-Insert-2.new.pairs ≤ c.value-in-Insert.new.pairs + total_cost (edit_cost n) f) docs _ c.in-Insert.what.value c.deref-in-Insert-2.result.now stays c.deref-in-Insert-2.ensures c.value-in-Insert-2.ensures.cost in
    let told = err_from_is_err_and c.from_residual-in_err-e-in-Insert.result c.from_residual-in_err-e-in-Insert.ensures.1 in
    record {
      grows = Grows-trans _ _ _ _ _ _ c.value-in-Insert.ensures.grows c.value-in-Insert-2.ensures.grows;
      value = rw (told.1, told.2, c.in-Insert.is) (second_refused docs c.in-Insert.into.value c.in-Insert.what.value _ c.args.pairs.now c.value-in-Insert.new.pairs c.value-in-Insert-2.new.pairs left (λ (a b : List ℕ). inserted a b c.in-Insert.k) why right);
      cost = λ n. subst (λ (e : Expr). greatest docs e ≤ n → c.value-in-Insert-2.new.pairs ≤ c.args.pairs.now + total_cost (edit_cost n) e) (sym c.in-Insert.is)
          (refused_cost docs c.in-Insert.into.value c.in-Insert.what.value _ c.args.pairs.now c.value-in-Insert.new.pairs c.value-in-Insert-2.new.pairs left paid n _);
    }

pub returns-in_ok-e-in-Insert : goal.returns-in_ok-e-in-Insert
returns-in_ok-e-in-Insert g t c =
    let docs = plain c.args.store.now c.args.docs.now in
    let d = text_of c.value-in-Insert.new.store c.in_ok-d-in-Insert.d in
    let stays = plain-grows c.args.store.now c.value-in-Insert.new.store c.args.pairs.now c.value-in-Insert.new.pairs c.value-in-Insert.ensures.grows c.args.docs.now c.requires in
    let left = part_of docs docs c.in-Insert.into.value c.deref-in-Insert.result.now d c.args.pairs.now c.value-in-Insert.new.pairs refl c.deref-in-Insert.ensures c.in_ok-d-in-Insert.ensures.value.1 c.value-in-Insert.ensures.cost in
    let e = text_of c.value-in-Insert-2.new.store c.in_ok-e-in-Insert.e in
    let right = part_of docs _ c.in-Insert.what.value c.deref-in-Insert-2.result.now e c.value-in-Insert.new.pairs c.value-in-Insert-2.new.pairs stays c.deref-in-Insert-2.ensures c.in_ok-e-in-Insert.ensures.value.1 c.value-in-Insert-2.ensures.cost in
    let same : text_of c.value-in-Insert-2.new.store c.in_ok-d-in-Insert.d ≡ d =
    text_of-grows c.value-in-Insert.new.store c.value-in-Insert-2.new.store c.value-in-Insert.new.pairs c.value-in-Insert-2.new.pairs c.value-in-Insert-2.ensures.grows c.in_ok-d-in-Insert.d c.in_ok-d-in-Insert.ensures.value.0 in
    record {
      grows = Grows-trans _ _ _ _ _ _ (Grows-trans _ _ _ _ _ _ c.value-in-Insert.ensures.grows c.value-in-Insert-2.ensures.grows) c.insert.ensures.grows;
      value = subst (λ (f : Expr). IsValue c.insert.new.store c.insert.result (eval docs f)) (sym c.in-Insert.is)
          (subst (IsValue c.insert.new.store c.insert.result)
          (two_value docs c.in-Insert.into.value c.in-Insert.what.value d c.args.pairs.now c.value-in-Insert.new.pairs c.value-in-Insert-2.new.pairs left e right (λ (a b : List ℕ). inserted a b c.in-Insert.k))
          (subst (λ (x : List ℕ). IsValue c.insert.new.store c.insert.result (inserted x e c.in-Insert.k)) same c.insert.ensures.value));
      cost = λ n. subst (λ (f : Expr). greatest docs f ≤ n → c.insert.new.pairs ≤ c.args.pairs.now + total_cost (edit_cost n) f) (sym c.in-Insert.is)
          (two_cost docs c.in-Insert.into.value c.in-Insert.what.value d c.args.pairs.now c.value-in-Insert.new.pairs c.value-in-Insert-2.new.pairs left e right c.insert.new.pairs n _
          (λ h k. omega (arith, c.insert.ensures.cost n (subst (λ (x : List ℕ). length x ≤ n) (sym same) h) k)));
    }
