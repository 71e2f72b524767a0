use Rattle.std.proofs.Common.{sym, subst}
use Rattle.node_store.specs.declared.words.WordSize.{WordSize}
use Rattle.node_store.specs.Known.{AreLongWords, AreShortWords, height_of, width_of}
use Rattle.node_store.specs.WordsView.{known_of}
use Rattle.node_store.proofs.KnownLemmas.{found-word}
use Rattle.node_store.proofs.words.Words.block_of.Goals as goal

pub returns-in-Two : goal.returns-in-Two
returns-in-Two c =
    found-word c.found_short.result c.args.size c.args.bytes (known_of c.args.self.now) (λ nodes h w. AreShortWords nodes h w c.args.self.now.twos.items) c.found_short.ensures
    (λ nodes k. subst (λ (s : WordSize). AreShortWords nodes (height_of s) (width_of s) c.args.self.now.twos.items) (sym c.in-Two.is) k.twos)

pub returns-in-Four : goal.returns-in-Four
returns-in-Four c =
    found-word c.found_short-in-Four.result c.args.size c.args.bytes (known_of c.args.self.now) (λ nodes h w. AreShortWords nodes h w c.args.self.now.fours.items) c.found_short-in-Four.ensures
    (λ nodes k. subst (λ (s : WordSize). AreShortWords nodes (height_of s) (width_of s) c.args.self.now.fours.items) (sym c.in-Four.is) k.fours)

pub returns-in-Eight : goal.returns-in-Eight
returns-in-Eight c =
    found-word c.found_long.result c.args.size c.args.bytes (known_of c.args.self.now) (λ nodes h w. AreLongWords nodes h w c.args.self.now.eights.items) c.found_long.ensures
    (λ nodes k. subst (λ (s : WordSize). AreLongWords nodes (height_of s) (width_of s) c.args.self.now.eights.items) (sym c.in-Eight.is) k.eights)
