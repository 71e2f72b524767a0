use Rattle.std.proofs.Common.{◌≡◌, ◌+◌, ◌≤◌, ◌++◌, length, take, drop, refl, ap, ◌∙◌, arith, append_assoc, length-append}
use Rattle.std.proofs.lemmas.List.{take-append-drop, take_rest, length-drop, length-take-le}
use Rattle.slp_model.proofs.NodesLemmas.{Grows-none, Grows-trans}
use Rattle.share_loader.specs.Sharer.{kept_text}
use Rattle.share_loader.specs.PartsView.{kept_of}
use Rattle.share_loader.proofs.CostLemmas.{all-grows}
use Rattle.share_loader.proofs.SharerLemmas.{kept-within}
use Rattle.share_loader.proofs.parts.feed_piece.Goals as goal

pub loop-rest-init : goal.loop-rest-init
loop-rest-init g c = record {
  grows = Grows-none c.args.store.now c.args.pairs.now c.args.pairs.now (omega arith);
  kept = record {
    taken = record { root = c.requires.kept.taken.root; symbols = c.requires.kept.taken.symbols; known = c.make_room.ensures c.args.store.now c.requires.kept.taken.known };
    few = c.requires.kept.few;
    short = c.requires.kept.short;
    start = c.requires.kept.start;
    limit = c.requires.kept.limit;
  };
  text = refl;
  cost = omega arith;
}

pub feed_chunk-requires-clause-short : goal.feed_chunk-requires-clause-short
feed_chunk-requires-clause-short g c =
    let within : c.min-count.result ≤ length c.loop-rest.rest.now = omega (arith, c.min-count.ensures) in
    omega (arith, length-take-le c.min-count.result c.loop-rest.rest.now within, within, ap length c.loop-rest.invariant.text, length-append (kept_text c.loop-rest.store (kept_of c.loop-rest.parts)) c.loop-rest.rest.now, length-append (kept_text c.args.store.now (kept_of c.args.parts.now)) c.args.piece.now, c.requires.short)

pub returns-in_err-feed_chunk-clause-grows : goal.returns-in_err-feed_chunk-clause-grows
returns-in_err-feed_chunk-clause-grows g c = Grows-trans _ _ _ _ _ _ c.loop-rest.invariant.grows c.feed_chunk.ensures.grows

pub returns-in_err-feed_chunk-clause-most : goal.returns-in_err-feed_chunk-clause-most
returns-in_err-feed_chunk-clause-most g c =
    let within : c.min-count.result ≤ length c.loop-rest.rest.now = omega (arith, c.min-count.ensures) in
    let n : length (take c.min-count.result c.loop-rest.rest.now) ≡ c.min-count.result = length-take-le c.min-count.result c.loop-rest.rest.now within in
    let limit = all-grows (length (kept_text c.loop-rest.store (kept_of c.loop-rest.parts)) + length (take c.min-count.result c.loop-rest.rest.now)) (length (kept_text c.args.store.now (kept_of c.args.parts.now)) + length c.args.piece.now)
    (omega (arith, n, within, ap length c.loop-rest.invariant.text, length-append (kept_text c.loop-rest.store (kept_of c.loop-rest.parts)) c.loop-rest.rest.now, length-append (kept_text c.args.store.now (kept_of c.args.parts.now)) c.args.piece.now)) in
    omega (arith, limit, n, within, c.loop-rest.invariant.cost, c.feed_chunk.ensures.most)

pub loop-rest-preserved : goal.loop-rest-preserved
loop-rest-preserved g c =
    let within : c.min-count.result ≤ length c.loop-rest.rest.now = omega (arith, c.min-count.ensures) in
    let n : length (take c.min-count.result c.loop-rest.rest.now) ≡ c.min-count.result = length-take-le c.min-count.result c.loop-rest.rest.now within in
    let joined : kept_text c.feed_chunk.new.store (kept_of c.feed_chunk.new.parts) ++ drop c.min-count.result c.loop-rest.rest.now ≡ kept_text c.args.store.now (kept_of c.args.parts.now) ++ c.args.piece.now =
    ap (λ x. x ++ drop c.min-count.result c.loop-rest.rest.now) c.in_ok-feed_chunk.ensures.text
    ∙ (append_assoc (kept_text c.loop-rest.store (kept_of c.loop-rest.parts)) (take c.min-count.result c.loop-rest.rest.now) (drop c.min-count.result c.loop-rest.rest.now)
    ∙ (ap (λ x. kept_text c.loop-rest.store (kept_of c.loop-rest.parts) ++ x) (take-append-drop c.min-count.result c.loop-rest.rest.now)
    ∙ c.loop-rest.invariant.text)) in
    record {
      grows = Grows-trans _ _ _ _ _ _ c.loop-rest.invariant.grows c.feed_chunk.ensures.grows;
      kept = c.in_ok-feed_chunk.ensures.kept;
      text = ap (λ x. kept_text c.feed_chunk.new.store (kept_of c.feed_chunk.new.parts) ++ x) (take_rest c.loop-rest.rest.now c.min-count.result) ∙ joined;
      cost = omega (arith, n, within, c.loop-rest.invariant.cost, c.in_ok-feed_chunk.ensures.cost, length-drop c.min-count.result c.loop-rest.rest.now, ap length (take_rest c.loop-rest.rest.now c.min-count.result));
    }

pub returns-clause-most : goal.returns-clause-most
returns-clause-most g c =
    let all = kept-within c.loop-rest.store (kept_of c.loop-rest.parts) (length (kept_text c.args.store.now (kept_of c.args.parts.now)) + length c.args.piece.now)
    (omega (arith, ap length c.loop-rest.invariant.text, length-append (kept_text c.loop-rest.store (kept_of c.loop-rest.parts)) c.loop-rest.rest.now, length-append (kept_text c.args.store.now (kept_of c.args.parts.now)) c.args.piece.now)) in
    omega (arith, all, c.loop-rest.invariant.cost)
