use Rattle.std.specs.Int.{w16, w32, w64}
use Rattle.node_store.specs.declared.words.LongWord.{LongWord}
use Rattle.node_store.specs.declared.words.ShortWord.{ShortWord}
use Rattle.node_store.specs.Known.{IsWordEntry}
use Rattle.node_store.proofs.KnownLemmas.{empty-entry, made}
use Rattle.node_store.proofs.words.Words.make_entries.Goals as goal

pub returns : goal.returns
returns c = λ nodes k.
    record {
      twos = made (λ (x : ShortWord). IsWordEntry nodes 1 w16 x.bytes x.link) _ c.args.self.now.twos.items c.make_entries.new.words.items c.make_entries.ensures (empty-entry nodes 1 w16 0) k.twos;
      fours = made (λ (x : ShortWord). IsWordEntry nodes 2 w32 x.bytes x.link) _ c.args.self.now.fours.items c.make_entries-2.new.words.items c.make_entries-2.ensures (empty-entry nodes 2 w32 0) k.fours;
      eights = made (λ (x : LongWord). IsWordEntry nodes 3 w64 x.bytes x.link) _ c.args.self.now.eights.items c.make_entries-3.new.words.items c.make_entries-3.ensures (empty-entry nodes 3 w64 0) k.eights;
    }
