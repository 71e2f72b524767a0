use Rattle.std.proofs.Common.{◌+◌, length, arith}
use Rattle.slp_model.proofs.NodesLemmas.{Grows-none}
use Rattle.share_loader.specs.Sharer.{kept_text}
use Rattle.share_loader.specs.PartsView.{kept_of}
use Rattle.share_loader.proofs.SharerLemmas.{kept-within}
use Rattle.share_loader.proofs.parts.feed_chunk.Goals as goal

pub returns-in_err-map_err-clause-grows : goal.returns-in_err-map_err-clause-grows
returns-in_err-map_err-clause-grows g c = Grows-none c.args.store.now c.args.pairs.now c.args.pairs.now (omega arith)

pub returns-in_err-map_err-clause-most : goal.returns-in_err-map_err-clause-most
returns-in_err-map_err-clause-most g c = omega (arith, kept-within c.args.store.now (kept_of c.args.parts.now) (length (kept_text c.args.store.now (kept_of c.args.parts.now)) + length c.args.chunk.now) (omega arith))
