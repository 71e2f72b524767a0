use Rattle.std.proofs.Common.{ℕ, List, sym, subst, ◌∙◌, arith}
use Rattle.std.specs.Int.{Width, to_le_bytes}
use Rattle.slp_model.specs.declared.Node.{Node}
use Rattle.node_store.specs.declared.words.ShortWord.{ShortWord}
use Rattle.node_store.specs.Blocks.{IsBlockAt}
use Rattle.node_store.specs.Known.{AreShortWords, IsWordEntry}
use Rattle.node_store.proofs.KnownLemmas.{found-entry, word-in}
use Rattle.node_store.proofs.words.found_short.Goals as goal

pub returns-then-from-bytes : goal.returns-then-from-bytes
returns-then-from-bytes c =
    let word = c.in_ok-word.word in
    found-entry c.linked.result word.link (λ i. (nodes : List Node) (h : ℕ) (w : Width) → AreShortWords nodes h w c.args.words.now.items → IsBlockAt nodes h (to_le_bytes w c.args.bytes) i) c.linked.ensures
    (λ i e nodes h w are. subst (λ (b : ℕ). IsBlockAt nodes h (to_le_bytes w b) i) (omega (arith, c.if-from-bytes.true))
    (word-in (λ (x : ShortWord). IsWordEntry nodes h w x.bytes x.link) c.args.words.now.items c.entry_of.result word are (sym c.word_at.ensures ∙ c.in_ok-word.was) i e))
