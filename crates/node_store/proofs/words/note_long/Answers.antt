use Rattle.node_store.proofs.KnownLemmas.{linked-entry, long-put}
use Rattle.node_store.proofs.words.note_long.Goals as goal

pub returns-in-Some : goal.returns-in-Some
returns-in-Some c nodes h w block are =
    long-put nodes h w c.args.words.now.items c.put.new.words.items c.entry_of-entry.result _ c.put.ensures
    (linked-entry nodes h w c.args.bytes c.in-Some.link c.args.block.index c.in-Some.ensures block) are
