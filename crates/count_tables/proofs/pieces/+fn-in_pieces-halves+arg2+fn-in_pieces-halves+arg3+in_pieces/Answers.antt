use Rattle.std.proofs.Common.{IfOk, List, Result, Ok, Err, sym, subst}
use Rattle.count_tables.specs.Ahead.{AreMade}
use Rattle.count_tables.specs.declared.pieces.Made.{Made}
use Rattle.count_tables.proofs.Joining.{made-joined}
use Rattle.count_tables.proofs.pieces.+fn-in_pieces-halves+arg2+fn-in_pieces-halves+arg3+in_pieces.Goals as goal

if-so : {A E : Type 0} (r : Result A E) (P Q : A → Type 0) → ((x : A) → P x → Q x) → IfOk r P → IfOk r Q
if-so (Ok x) P Q f p = f x p
if-so (Err e) P Q f p = p

pub returns : goal.returns
returns g t c =
    let kept = c.args.kept.now in
    let left = c.split_at.result.0.now in
    let right = c.split_at.result.1.now in
    let first : AreMade kept left c.in_ok-first.field-0.items = rw c.in_ok-first.was at c.halves-first.ensures.first in
    let second : AreMade kept right c.in_ok-second.field-0.items = rw c.in_ok-second.was at c.halves-first.ensures.second in
    if-so c.joined.result _ _ (λ all is. subst (λ (ms : List Made). AreMade kept c.args.jobs.now ms) (sym is)
    (made-joined kept left right c.args.jobs.now c.in_ok-first.field-0.items c.in_ok-second.field-0.items first second c.split_at.ensures.by_index.0)) c.joined.ensures
