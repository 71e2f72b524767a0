use Rattle.std.proofs.Common.{IfOk, Result, Ok, Err, subst}
use Rattle.table_grow.specs.Filling.{Filling, filling_of}
use Rattle.table_grow.specs.Pieces.{IsPiece}
use Rattle.table_grow.proofs.Spots.{pieces-joined, spots-within}
use Rattle.table_grow.proofs.pieces.+fn-in_pieces-halves+arg2+fn-in_pieces-halves+arg3+in_pieces.Goals as goal

if-both : {A E : Type 0} (r : Result A E) (P Q R : A → Type 0) → ((x : A) → P x → Q x → R x) → IfOk r P → IfOk r Q → IfOk r R
if-both (Ok x) P Q R f p q = f x p q
if-both (Err e) P Q R f p q = p

pub joined-requires : goal.joined-requires
joined-requires g t c =
    let at = c.finder.inside in
    let s = filling_of at.growth.dfa.now at.growth.store.now at.tables.now at.filler.now at.memory.now in
    let second : IsPiece s c.split_at.result.1.now c.in_ok-second.field-0 = rw c.in_ok-second.was at c.halves-first.ensures.second in
    spots-within s c.in_ok-second.field-0.made.items c.split_at.result.1.now c.in_ok-second.field-0.spots.items second.spots

pub returns : goal.returns
returns g t c =
    let at = c.finder.inside in
    let s = filling_of at.growth.dfa.now at.growth.store.now at.tables.now at.filler.now at.memory.now in
    let first : IsPiece s c.split_at.result.0.now c.in_ok-first.field-0 = rw c.in_ok-first.was at c.halves-first.ensures.first in
    let second : IsPiece s c.split_at.result.1.now c.in_ok-second.field-0 = rw c.in_ok-second.was at c.halves-first.ensures.second in
    subst (λ (f : Filling). IfOk c.joined.result (IsPiece f c.args.ids.now)) c.finder.view_is
    (if-both c.joined.result _ _ _ (λ all made spots.
    pieces-joined s c.in_ok-first.field-0 c.in_ok-second.field-0 all c.split_at.result.0.now c.split_at.result.1.now c.args.ids.now
    first second c.split_at.ensures.by_index.0 made spots) c.joined.ensures.made c.joined.ensures.spots)
