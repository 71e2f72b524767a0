use Rattle.std.proofs.Common.{ℕ, subst, arith}
use Rattle.std.specs.Int.{to_le_bytes}
use Rattle.node_store.specs.Blocks.{IsBlockAt}
use Rattle.node_store.proofs.KnownLemmas.{linked-entry, short-put}
use Rattle.node_store.proofs.words.note_short.Goals as goal

pub returns-in-Ok-Some : goal.returns-in-Ok-Some
returns-in-Ok-Some c nodes h w block are =
    short-put nodes h w c.args.words.now.items c.put.new.words.items c.entry_of-entry.result _ c.put.ensures
    (linked-entry nodes h w c.in-Ok-Some.bytes c.in-Ok-Some.link c.args.block.index c.in-Ok-Some.ensures'
    (subst (λ (b : ℕ). IsBlockAt nodes h (to_le_bytes w b) c.args.block.index) (omega (arith, c.in-Ok-Some.ensures)) block)) are
