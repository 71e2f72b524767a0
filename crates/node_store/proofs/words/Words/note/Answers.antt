use Rattle.std.proofs.Common.{subst}
use Rattle.std.specs.Int.{w16, w32, w64}
use Rattle.node_store.specs.declared.words.WordSize.{WordSize}
use Rattle.node_store.specs.Known.{IsBlockOfWord}
use Rattle.node_store.proofs.words.Words.note.Goals as goal

pub returns-in-Two : goal.returns-in-Two
returns-in-Two c nodes block k = record {
  twos = c.note_short.ensures nodes 1 w16 (subst (λ (s : WordSize). IsBlockOfWord nodes s c.args.bytes c.args.block.index) c.in-Two.is block) k.twos;
  fours = k.fours;
  eights = k.eights;
}

pub returns-in-Four : goal.returns-in-Four
returns-in-Four c nodes block k = record {
  twos = k.twos;
  fours = c.note_short-in-Four.ensures nodes 2 w32 (subst (λ (s : WordSize). IsBlockOfWord nodes s c.args.bytes c.args.block.index) c.in-Four.is block) k.fours;
  eights = k.eights;
}

pub returns-in-Eight : goal.returns-in-Eight
returns-in-Eight c nodes block k = record {
  twos = k.twos;
  fours = k.fours;
  eights = c.note_long.ensures nodes 3 w64 (subst (λ (s : WordSize). IsBlockOfWord nodes s c.args.bytes c.args.block.index) c.in-Eight.is block) k.eights;
}
