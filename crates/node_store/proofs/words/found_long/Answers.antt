use Rattle.std.proofs.Common.{ℕ, List, sym, subst, ◌∙◌, arith}
use Rattle.std.specs.Int.{Width, to_le_bytes}
use Rattle.slp_model.specs.declared.Node.{Node}
use Rattle.node_store.specs.declared.words.LongWord.{LongWord}
use Rattle.node_store.specs.Blocks.{IsBlockAt}
use Rattle.node_store.specs.Known.{AreLongWords, IsWordEntry}
use Rattle.node_store.proofs.KnownLemmas.{found-entry, word-in}
use Rattle.node_store.proofs.words.found_long.Goals as goal

pub returns-then-word-bytes : goal.returns-then-word-bytes
returns-then-word-bytes c =
    let word = c.in_ok-word.word in
    found-entry c.linked.result word.link (λ i. (nodes : List Node) (h : ℕ) (w : Width) → AreLongWords nodes h w c.args.words.now.items → IsBlockAt nodes h (to_le_bytes w c.args.bytes) i) c.linked.ensures
    (λ i e nodes h w are. subst (λ (b : ℕ). IsBlockAt nodes h (to_le_bytes w b) i) (omega (arith, c.if-word-bytes.true))
    (word-in (λ (x : LongWord). IsWordEntry nodes h w x.bytes x.link) c.args.words.now.items c.entry_of.result word are (sym c.word_at.ensures ∙ c.in_ok-word.was) i e))
